-- The model's test of one guest, with its CPU and the numbers of its spaces.
use Rattle.std.specs.Prelude.{ℕ, Bool}
use Rattle.lists.specs.Choice.{choose}
use Rattle.model.specs.declared.Cpu.{Cpu}
use Rattle.model.specs.declared.Guest.{Guest}
use Rattle.model.specs.SoundTest.{enrolled_test, absent_test}

unfoldable pub guest_with : Guest → Cpu → (primaries data_spaces : ℕ) → Bool
guest_with x c p d = choose x.enrolled (enrolled_test x c p d) (absent_test x c)

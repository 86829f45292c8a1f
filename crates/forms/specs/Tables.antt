-- The model's `forms` in numbers, as the code's tables hold them.
use Rattle.std.specs.Prelude.{ℕ, List, map}
use Rattle.model.specs.Lines.{forms, packed}

-- the calls' names, each as one number, as `word_field` packs it
unfoldable pub call_names : List ℕ
call_names = map (λ f. packed 1 f.word) forms

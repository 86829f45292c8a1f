-- LOAD, MODE and KEY keep a sound state sound: each sets one CPU block. Assumes nothing.
use Prim.Native.Nat.{ℕ, ◌≤◌, ◌<◌}
use mathlib.Core.Bool.{true}
use mathlib.Core.List.{List}
use mathlib.Core.Path.{◌≡◌, ap, ◌∙◌}
use native.Mathlib.Omega.{arith}
use lib.ListN.{length, set, length-set}
use borrow.Author.Tests.{eqb-true}
use Rattle.lists.proofs.Choice.{true_false}
use Rattle.lists.proofs.Maps.{at_set}
use Rattle.model.specs.declared.Caller.{Caller}
use Rattle.model.specs.declared.Cpu.{Cpu}
use Rattle.model.specs.declared.Guest.{Guest}
use Rattle.model.specs.declared.Space.{Space}
use Rattle.model.specs.declared.State.{State}
use Rattle.model.specs.Decision.{Decision, after}
use Rattle.model.specs.Granted.{Loaded, ModeSet, KeySet}
use Rattle.model.specs.Searches.{enrolled}
use Rattle.model.specs.Sizes.{max_key}
use Rattle.model.specs.Sound.{IsGuest, GuestsOk, Sound}
use Rattle.model.specs.Tables.{no_cpu, zero_cpu, guest_at, guest_place, cpu_at, cpu_place, with_cpus}
use Rattle.model.proofs.Entries.{same_guest}
use Rattle.model.proofs.Searches.{enrolled_guest, enrolled_is}

-- one CPU block set, of an enrolled guest: its registers are free, its mode is bound to ASF
module _ (ss : List Space) (gs : List Guest) (cs : List Cpu) (g : ℕ) (c : Cpu) where
  pub set_cpu : GuestsOk ss gs cs → enrolled gs g ≡ true → length c.registers ≡ 16 → (c.mode ≡ true → (guest_at gs g).asf ≡ true) → c.key ≤ max_key
      → GuestsOk ss gs (set cs (guest_place g) c)
  set_cpu ok on sixteen asf small = record {
    len = ok.len;
    cpus = length-set cs (guest_place g) c ∙ ok.cpus;
    registers = λ k b. at_set (λ (x : Cpu). length x.registers ≡ 16) cs (guest_place g) c k no_cpu inside (λ _. sixteen) (λ _. ok.registers k b);
    primary = ok.primary;
    allowed = ok.allowed;
    allowance = ok.allowance;
    list_low = ok.list_low;
    list_high = ok.list_high;
    mode = λ h e. at_set (λ (x : Cpu). x.mode ≡ true → (guest_at gs h).asf ≡ true) cs (guest_place g) c (guest_place h) no_cpu inside
        (λ q m. ap (λ k. (guest_at gs k).asf) (same_guest g h i (enrolled_guest gs h e) q) ∙ asf m)
        (λ _. ok.mode h e);
    key = λ h e. at_set (λ (x : Cpu). x.key ≤ max_key) cs (guest_place g) c (guest_place h) no_cpu inside (λ _. small) (λ _. ok.key h e);
    absent = ok.absent;
    idle = λ h j e. at_set (λ (x : Cpu). x ≡ zero_cpu) cs (guest_place g) c (guest_place h) no_cpu inside
        (λ q. true_false (ap (λ k. (guest_at gs k).enrolled) (same_guest g h i j q) ∙ enrolled_is gs g on) e)
        (λ _. ok.idle h j e);
  }
    where
      i : IsGuest g
      i = enrolled_guest gs g on

      inside : guest_place g < length cs
      inside = omega (arith, i.low, i.high, ok.cpus)

-- so the state is sound: no other clause reads CPU blocks
pub sound_cpu : (s : State) (g : ℕ) (c : Cpu) → Sound s → enrolled s.guests g ≡ true → length c.registers ≡ 16 → (c.mode ≡ true → (guest_at s.guests g).asf ≡ true) → c.key ≤ max_key
    → Sound (with_cpus s (set s.cpus (guest_place g) c))
sound_cpu s g c ok on sixteen asf small = record {
  head = ok.head;
  spaces = ok.spaces;
  guests = set_cpu s.spaces s.guests s.cpus g c ok.guests on sixteen asf small;
  permits = ok.permits;
  entries = ok.entries;
  cells = ok.cells;
}

-- the block that is replaced has sixteen registers
sixteen_registers : (s : State) (g : ℕ) → Sound s → enrolled s.guests g ≡ true → length (cpu_at s.cpus (guest_place g)).registers ≡ 16
sixteen_registers s g ok on = let i = enrolled_guest s.guests g on in ok.guests.registers (guest_place g) (omega arith)

-- LOAD keeps the mode, so whatever is loaded the block stays good
pub sound_load : (s : State) (c : Caller) (r v : ℕ) (d : Decision) → Sound s → enrolled s.guests c.guest ≡ true → r ≤ 15 → Loaded c r v d → Sound (after s d)
sound_load s c r v d ok on b done =
    rw done.is
    (sound_cpu s c.guest _ ok on
    (length-set (cpu_at s.cpus (cpu_place c)).registers r v ∙ sixteen_registers s c.guest ok on)
    (ok.guests.mode c.guest on) (ok.guests.key c.guest on))

-- MODE keeps the registers, and has checked ASF
pub sound_mode : (s : State) (c : Caller) (m : ℕ) (d : Decision) → Sound s → enrolled s.guests c.guest ≡ true → ModeSet s c m d → Sound (after s d)
sound_mode s c m d ok on done =
    rw done.is
    (sound_cpu s c.guest _ ok on (sixteen_registers s c.guest ok on) (λ e. done.asf (eqb-true m 1 e)) (ok.guests.key c.guest on))

-- KEY keeps both, and has checked the key
pub sound_key : (s : State) (c : Caller) (k : ℕ) (d : Decision) → Sound s → enrolled s.guests c.guest ≡ true → k ≤ max_key → KeySet c k d → Sound (after s d)
sound_key s c k d ok on small done =
    rw done.is
    (sound_cpu s c.guest _ ok on (sixteen_registers s c.guest ok on) (ok.guests.mode c.guest on) small)

-- What owning a state tells of it. The soundness test reads a state that it is lent, of which its passes tell the same; the
-- theorem stands for callers that own one. Assumes nothing.
use Prim.Native.Nat.{ℕ, zero, suc, ◌<◌}
use mathlib.Core.List.{List, [], ◌∷◌}
use mathlib.Core.Path.{◌≡◌}
use native.Mathlib.Omega.{arith}
use lib.ListN.{length, get_or}
use base.Fml.{Fml}
use mir.Val.{Val}
use denote.Array.{each}
use denote.Shadow.{shadow}
use denote.Struct.Declared.{row}
use Rattle.model.specs.declared.Cpu.{Cpu}
use Rattle.model.specs.declared.Entry.{Entry}
use Rattle.model.specs.declared.State.{State}
use Rattle.model.specs.Tables.{no_cpu, unused_entry}
use Rattle.model.specs.contracts.Cpu as cpu
use Rattle.model.specs.contracts.Entry as entry
use Rattle.model.specs.contracts.State.{the_type}
use Rattle.sound.specs.Held.{Held}

-- what owning an element tells, at each place of an array
at : {X : Type 0} (f : X → List Val → Fml) (P : X → Type 0) → ((x : X) (us : List Val) → shadow (f x us) → P x) → (xs : List X) (us : List Val) → shadow (each X f xs us) → (d : X) (k : ℕ) → k < length xs → P (get_or xs k d)
at f P h [] us p d k l = absurd (omega arith)
at f P h (x ∷ xs) [] p d k l = absurd p
at f P h (x ∷ xs) (u ∷ us) p d zero l = h x (u ∷ []) p.0
at f P h (x ∷ xs) (u ∷ us) p d (suc k) l = at f P h xs us p.1 d k (omega arith)

pub held : (s : State) (vs : List Val) → shadow ((row the_type).own_val s vs) → Held s
held s vs p =
    let cpus : length s.cpus ≡ 8 = p.1.1.1.1.1.1.0.1.0.1 in
    let entries : length s.entries ≡ 240 = p.1.1.1.1.1.1.1.1.0.1.0.1 in
    record {
      spaces = p.1.1.1.1.0.1.0.1;
      guests = p.1.1.1.1.1.0.1.0.1;
      cpus = cpus;
      registers = λ k l. at (cpu.the_row).own_val (λ (c : Cpu). length c.registers ≡ 16) (λ c us h. h.1.1.0.1.0.1) s.cpus _ p.1.1.1.1.1.1.0.1.1 no_cpu k (omega arith);
      permits = p.1.1.1.1.1.1.1.0.1.0.1;
      entries = entries;
      sequence = λ k l. at (entry.the_row).own_val (λ (e : Entry). e.sequence < 256) (λ e us h. h.1.1.1.0.1) s.entries _ p.1.1.1.1.1.1.1.1.0.1.1 unused_entry k (omega arith);
    }

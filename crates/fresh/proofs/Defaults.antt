-- The tables that are made of defaults are the model's empty ones. Assumes nothing.
use Prim.Native.Nat.{ℕ}
use mathlib.Core.Bool.{false}
use mathlib.Core.List.{List}
use mathlib.Core.Path.{◌≡◌, refl, sym, ◌∙◌}
use native.Mathlib.Omega.{arith}
use lib.ListN.{replicate, length-replicate, get_or-replicate}
use lib.Seq.{ext_get_or}
use Rattle.std.specs.Array.{AllOfLen}
use Rattle.model.specs.declared.Cell.{Cell}
use Rattle.model.specs.declared.Cpu.{Cpu}
use Rattle.model.specs.declared.Entry.{Entry}
use Rattle.model.specs.declared.Grant.TheVariants.{Nothing}
use Rattle.model.specs.declared.Guest.{Guest}
use Rattle.model.specs.declared.Permit.{Permit}
use Rattle.model.specs.declared.Space.{Space}
use Rattle.model.specs.declared.Standing.TheVariants.{Unused}
use Rattle.model.specs.Fresh.{empty_tables}

-- registers that are each 0
zeros : (l : List ℕ) → AllOfLen (λ x. x ≡ 0) l 16 → l ≡ replicate 16 0
zeros l a = ext_get_or 0 l (replicate 16 0) (a.long ∙ sym (length-replicate {A = ℕ} 16 0)) (λ i b. a.at i 0 (omega (arith, a.long, b)) ∙ sym (get_or-replicate 16 i 0 0 (omega (arith, a.long, b))))

-- by what each default tells of its fields
pub empty_by : (f n : ℕ) (x : Space) (g : Guest) (c : Cpu) (p : Permit) (e : Entry) (b : Cell)
    → (x.id ≡ 0) × ((x.owner ≡ 0) × ((x.name ≡ 0) × ((x.first ≡ 0) × (x.pages ≡ 0))))
    → (g.enrolled ≡ false) × ((g.allowance ≡ 0) × ((g.share ≡ false) × ((g.list ≡ 0) × (g.asf ≡ false))))
    → AllOfLen (λ y. y ≡ 0) c.registers 16 × ((c.mode ≡ false) × (c.key ≡ 0)) → p.grant ≡ Nothing → (e.standing ≡ Unused) × (e.sequence ≡ 0) → (b.key ≡ 0) × (b.mark ≡ false)
    → record {
      frames = f;
      next = n;
      spaces = replicate 32 x;
      guests = replicate 8 g;
      cpus = replicate 8 c;
      permits = replicate 256 p;
      entries = replicate 240 e;
      cells = replicate 512 b;
    } ≡ empty_tables f n
empty_by f n x g c p e b i j k l m o =
    rw (i.0, i.1.0, i.1.1.0, i.1.1.1.0, i.1.1.1.1, j.0, j.1.0, j.1.1.0, j.1.1.1.0, j.1.1.1.1, zeros c.registers k.0, k.1.0, k.1.1, l, m.0, m.1, o.0, o.1) refl

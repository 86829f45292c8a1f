-- Texts written one after another. Assumes nothing.
use Rattle.std.proofs.Common.{◌≡◌, ℕ, ◌+◌, List, ◌++◌, length, take, sym, ap, ◌∙◌, arith, length-append}
use native.Mathlib.Nat.{mod-add-mod}
use lib.Seq.{take-append-add, take-append-le}
use Rattle.feeds.specs.Feed.{Feed}
use Rattle.descriptors.specs.Came.{newlines}
use Rattle.descriptors.proofs.Newlines.{newlines_append}
use Rattle.relay.specs.declared.Halt.{Halt}
use Rattle.relay.specs.Spoken.{counted, replied_to, Stopped}
use Rattle.relay.proofs.Lines.{Numbered}

pub replied_by : (line : ℕ) (text : List ℕ) {before n r : ℕ} → before ≡ counted (line + 18446744073709551615) → n ≡ newlines text → r ≡ counted (before + n)
    → r ≡ replied_to line text
unfolding replied_to
replied_by line text {before} {n} b e q = q ∙ (ap (λ (k : ℕ). counted (k + n)) b ∙ ap (λ (k : ℕ). counted (counted (line + 18446744073709551615) + k)) e)

-- the sums at once
flat : (line : ℕ) (text : List ℕ) → replied_to line text ≡ counted (line + (18446744073709551615 + newlines text))
unfolding replied_to
flat line text = mod-add-mod (line + 18446744073709551615) 18446744073709551616 (newlines text) ∙ ap counted (omega arith)

-- a text after another
pub replied_join : {f g : Feed} {x : List ℕ} (y : List ℕ) → Numbered f x g → replied_to g.line y ≡ replied_to f.line (x ++ y)
replied_join {f} {g} {x} y n =
    flat g.line y
    ∙ (sym (mod-add-mod g.line 18446744073709551616 (18446744073709551615 + newlines y))
    ∙ (ap (λ (k : ℕ). counted (k + (18446744073709551615 + newlines y))) n.line
    ∙ (mod-add-mod (f.line + newlines x) 18446744073709551616 (18446744073709551615 + newlines y)
    ∙ (ap counted (omega (arith, newlines_append x y)) ∙ sym (flat f.line (x ++ y))))))

pub sum_join : (before middle x y : ℕ) → middle ≡ counted (before + x) → counted (middle + y) ≡ counted (before + (x + y))
sum_join before middle x y m = ap (λ (k : ℕ). counted (k + y)) m ∙ mod-add-mod (before + x) 18446744073709551616 y ∙ ap counted (omega arith)

-- a text y of which not all was written, after a text x that was, and before a text z
pub stopped_after : {f g : Feed} {x y : List ℕ} (z : List ℕ) {before middle : ℕ} {h : Halt} {written : ℕ} → Numbered f x g → middle ≡ counted (before + length x)
    → Stopped y g.line middle h written → Stopped (x ++ (y ++ z)) f.line before h written
stopped_after {f} {g} {x} {y} z {before} {middle} n m s =
    let c : take (length x + s.count) (x ++ (y ++ z)) ≡ x ++ take s.count y =
    take-append-add x (y ++ z) s.count ∙ ap (λ (k : List ℕ). x ++ k) (take-append-le s.count y z (omega (arith, s.short))) in
    record {
      error = s.error;
      failure = s.failure;
      count = length x + s.count;
      sum = s.sum ∙ sum_join before middle (length x) s.count m;
      short = simp length-append (omega (arith, s.short));
      last = s.last ∙ replied_join (take s.count y) n ∙ ap (replied_to f.line) (sym c);
    }

-- 42 is given only where no line asks for the request with its data. Assumes nothing.
use Prim.Native.Nat.{ℕ, ◌≤◌}
use mathlib.Core.Bool.{true}
use mathlib.Core.List.{List, [], ◌∷◌}
use mathlib.Core.Path.{◌≡◌, sym, ap₂, ◌∙◌}
use native.Mathlib.Omega.{arith}
use lib.Dec.{ltb, leb}
use lib.ListN.{length, take, length-take}
use borrow.Author.Tests.{leb-true, le-leb}
use Rattle.lists.proofs.Choice.{true_false, both_left, both_right, both_intro, choose_elim}
use Rattle.model.specs.declared.Request.{Request}
use Rattle.model.specs.Lines.{FieldKind, number, name, right, hex, calls, stores, length_of}
use Rattle.model.specs.Parts.{parts_of, form_of, canonical, data_in}
use Rattle.model.specs.Rewritten.{RefusedRightly}
use Rattle.model.specs.Written.{takes_field, takes_fields, takes}
use Rattle.inverse.proofs.Requests.{whole}
use Rattle.inverse.proofs.WritesBack.{takes_by, writes_back}

-- the writer takes a request also where more is lent
takes_longer : (k : FieldKind) (v : ℕ) (c d : List ℕ) → length c ≤ length d → takes_field k v c ≡ true → takes_field k v d ≡ true
unfolding takes_field
takes_longer number v c d h y = y
takes_longer name v c d h y = y
takes_longer right v c d h y = y
takes_longer hex v c d h y =
    both_intro _ _ (both_left (leb v 257) _ y) (le-leb v (length d) (omega (arith, leb-true v (length c) (both_right (leb v 257) _ y))))

all_longer : (ks : List FieldKind) (vs c d : List ℕ) → length c ≤ length d → takes_fields ks vs c ≡ true → takes_fields ks vs d ≡ true
unfolding takes_fields
all_longer [] vs c d h y = y
all_longer (k ∷ ks) [] c d h y = y
all_longer (k ∷ ks) (v ∷ vs) c d h y =
    both_intro _ _ (takes_longer k v c d h (both_left _ _ y)) (all_longer ks vs c d h (both_right (takes_field k v c) _ y))

data_short : (q : Request) (d : List ℕ) → length (data_in q d) ≤ length d
unfolding data_in
data_short q d =
    choose_elim (λ x. length x ≤ length d) (stores q) (take (length_of q) d) []
    (λ _. omega (arith, length-take (length_of q) d)) (λ _. omega arith)

takes_own : (q : Request) (d : List ℕ) → takes (canonical q) (data_in q d) ≡ true → takes q d ≡ true
unfolding takes
takes_own q d y =
    let p = parts_of q in
    let t = sym (takes_by (canonical q) (data_in q d) p.form p.values (whole q).same_parts) ∙ y in
    both_intro _ _ (both_left (ltb p.form calls) _ t)
    (all_longer (form_of q).kinds p.values (data_in q d) d (data_short q d) (both_right (ltb p.form calls) _ t))

pub refused_rightly : RefusedRightly
refused_rightly q d f l k n some e c =
    true_false (takes_own q d (ap₂ takes (sym e) (sym c) ∙ (writes_back l k n some).0)) f

-- Of the bytes lent the writer looks at those that a STORE writes. So it writes a request that was read with the buffer that the
-- reader filled as it does with the data of the line. Assumes nothing.
use Rattle.std.proofs.Common.{◌≡◌, ℕ, ◌≤◌, Bool, true, false, ltb, leb, List, ◌++◌, length, take, replicate, sym, refl, ap, ◌∙◌, arith, take_all, take_at, le-leb}
use lib.ListN.{length-replicate}
use Rattle.lists.specs.Bytes.{over}
use Rattle.lists.specs.Choice.{both}
use Rattle.lists.proofs.Bytes.{length-over}
use Rattle.model.specs.declared.Operation.{Operation}
use Rattle.model.specs.declared.Operation.TheVariants.{Enrol, Create, Destroy, Permit, Isolate, Query, Add, Remove, Load, Mode, Fetch, Store, Reset, Key, Block}
use Rattle.model.specs.declared.Request.{Request}
use Rattle.model.specs.declared.Request.TheVariants.{Frames, Call, NotRead}
use Rattle.model.specs.Classes.{is_store}
use Rattle.model.specs.Lines.{calls, form_at, forms, stores, length_of, read_line, data_of}
use Rattle.model.specs.Parts.{Parts, call_parts, parts_of}
use Rattle.model.specs.Written.{field_text, field_texts, tabbed, written, takes_field, takes_fields, takes}
use Rattle.lines.proofs.Stored.{data_length, data_most, data_none}

-- the first n bytes of both, as far as the writer can tell
abbrev Alike : (n : ℕ) → (lent other : List ℕ) → Type 0
Alike n d e = (take n d ≡ take n e) × (leb n (length d) ≡ leb n (length e))

-- what `takes` and `written` are by the parts
abbrev takes_parts : Parts → List ℕ → Bool
takes_parts p d = both (ltb p.form calls) (takes_fields (form_at p.form).kinds p.values d)

abbrev text_of : Parts → List ℕ → List ℕ
text_of p d = (form_at p.form).word ++ tabbed (field_texts (form_at p.form).kinds p.values d)

abbrev Same : Parts → (lent other : List ℕ) → Type 0
Same p d e = (takes_parts p d ≡ takes_parts p e) × (text_of p d ≡ text_of p e)

module _ (d e : List ℕ) where
  call_same : (g : ℕ) (o : Operation) (n : ℕ) → (is_store o ≡ true → Alike n d e) → Same (call_parts g o n) d e
  unfolding call_parts takes_fields takes_field field_texts field_text forms
  call_same g (Enrol s) n h = (refl, refl)
  call_same g (Create a b) n h = (refl, refl)
  call_same g (Destroy a) n h = (refl, refl)
  call_same g (Permit a b c) n h = (refl, refl)
  call_same g (Isolate a) n h = (refl, refl)
  call_same g (Query a b) n h = (refl, refl)
  call_same g (Add a b) n h = (refl, refl)
  call_same g (Remove a) n h = (refl, refl)
  call_same g (Load a b) n h = (refl, refl)
  call_same g (Mode a) n h = (refl, refl)
  call_same g (Fetch a b) n h = (refl, refl)
  call_same g (Store a b) n h = let k = h refl in (rw k.1 refl, rw k.0 refl)
  call_same g Reset n h = (refl, refl)
  call_same g (Key a) n h = (refl, refl)
  call_same g (Block a b c x) n h = (refl, refl)

  same : (q : Request) → (stores q ≡ true → Alike (length_of q) d e) → (takes q d ≡ takes q e) × (written q d ≡ written q e)
  unfolding takes written parts_of stores length_of takes_fields takes_field field_texts field_text forms
  same (Frames f) h = (refl, refl)
  same (Call k n) h = call_same k.caller.guest k.operation n h
  same NotRead h = (refl, refl)

-- the buffer b that the reader filled with the data of the line l
module _ (l b : List ℕ) (f : b ≡ over (replicate 257 0) 0 (data_of l)) where
  data_few : length (data_of l) ≤ 257
  data_few = go (stores (read_line l)) refl
    where
      go : (t : Bool) → stores (read_line l) ≡ t → length (data_of l) ≤ 257
      go true y = omega (arith, data_length l y, data_most l y)
      go false y = let z : length (data_of l) ≡ 0 = ap length (data_none l y) in omega (arith, z)

  pub filled_long : 257 ≡ length b
  filled_long =
      let z : length (replicate {A = ℕ} 257 0) ≡ 257 = length-replicate {A = ℕ} 257 0 in
      sym (ap length f ∙ length-over (replicate 257 0) 0 (data_of l) (omega (arith, data_few)) ∙ z)

  filled : stores (read_line l) ≡ true → Alike (length_of (read_line l)) b (data_of l)
  unfolding over
  filled y =
      let n = length_of (read_line l) in
      let k : length (data_of l) ≡ n = data_length l y in (
        ap (take n) f ∙ take_at (data_of l) _ n k ∙ sym (take_all n (data_of l) (omega arith)),
        le-leb n (length b) (omega (arith, data_most l y, filled_long)) ∙ sym (le-leb n (length (data_of l)) (omega arith)),
      )

  pub lent_takes : takes (read_line l) b ≡ takes (read_line l) (data_of l)
  lent_takes = (same b (data_of l) (read_line l) filled).0

  pub lent_written : written (read_line l) b ≡ written (read_line l) (data_of l)
  lent_written = (same b (data_of l) (read_line l) filled).1

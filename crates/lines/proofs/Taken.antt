-- The fields of a line are taken one by one. Assumes nothing.
use Rattle.std.proofs.Common.{◌≡◌, ℕ, ◌+◌, ◌≤◌, ◌<◌, List, [], ◌∷◌, ◌++◌, Some, None, map, length, get_or, take, drop, set, sym, refl, ap, ◌∙◌, append_assoc, add-one, arith, length-set, length-drop, drop_of_length-le}
use mathlib.Core.List.{append-nil}
use native.Mathlib.Nat.{zero-add}
use lib.Seq.{get_or-take, take-suc-set}
use Rattle.fields.specs.declared.Field.{Field}
use Rattle.fields.specs.declared.Kind.{Kind}
use Rattle.fields.specs.declared.Kind.TheVariants.{Number}
use Rattle.fields.specs.Fields.{found, kind_of, stretch}
use Rattle.fields.proofs.Spelling.{as_is, as_bad}
use Rattle.lists.proofs.Parts.{drop_next}
use Rattle.std.proofs.lemmas.List.{drop-map, length-map}
use Rattle.lines.specs.Fields.{following}
use Rattle.lines.specs.Made.{made_by}
use Rattle.lines.proofs.Cuts.{fields_at, end_inside, following_at, data_last}
use Rattle.forms.proofs.Storing.{storing_at, data_end}
use Rattle.lines.proofs.Values.{lowered_is}
use Rattle.model.specs.declared.Request.{Request}
use Rattle.model.specs.declared.Request.TheVariants.{NotRead}
use Rattle.model.specs.Lines.{is, make_by, Values, values, unread, and_then, FieldKind, number, name, right, hex, field_of, read_fields, calls, form_at}

-- the values ns after those of vs, where all are read
unfoldable pub after : List ℕ → Values → Values
after vs unread = unread
after vs (values ns) = values (vs ++ ns)

after_none : (x : Values) → after [] x ≡ x
unfolding after
after_none unread = refl
after_none (values ns) = refl

after_one : (vs : List ℕ) (v : ℕ) (x : Values) → after vs (and_then (is v) x) ≡ after (vs ++ (v ∷ [])) x
unfolding after and_then
after_one vs v unread = refl
after_one vs v (values ns) = ap values (sym (append_assoc vs (v ∷ []) ns))

-- The first k fields after the name of the call p are taken, of kinds that stand in ks. Their values stand in v, and the k-th ended
-- at e.
pub record Taken (l : List ℕ) (p first : ℕ) (ks : List Kind) (v : List ℕ) (e k : ℕ) : Type 0 where
  pub call : p < calls
  pub kinds : map kind_of ks ≡ (form_at p).kinds
  pub room : length ks ≤ length v
  pub inside : e ≤ length l
  pub whole : read_fields (form_at p).kinds (following (drop first l)) ≡ after (take k v) (read_fields (map kind_of (drop k ks)) (following (drop e l)))

pub taken_none : (l : List ℕ) (p first : ℕ) (ks : List Kind) (v : List ℕ) → p < calls → map kind_of ks ≡ (form_at p).kinds → length ks ≤ length v → first ≤ length l → Taken l p first ks v first 0
taken_none l p first ks v h q m i = record {
  call = h;
  kinds = q;
  room = m;
  inside = i;
  whole = sym (after_none _ ∙ ap (λ x. read_fields x (following (drop first l))) q);
}

-- one field more, and those that follow it
next_field : (l : List ℕ) (e : ℕ) (kind : FieldKind) (rest : List FieldKind) → (kind ≡ hex → rest ≡ []) → e < length l
    → read_fields (kind ∷ rest) (following (drop e l)) ≡ and_then (field_of kind (stretch kind l (e + 1))) (read_fields rest (following (drop (e + 1 + length (stretch kind l (e + 1))) l)))
unfolding read_fields field_of following
next_field l e number rest h i = rw (following_at l e i, fields_at l (e + 1))
next_field l e name rest h i = rw (following_at l e i, fields_at l (e + 1))
next_field l e right rest h i = rw (following_at l e i, fields_at l (e + 1))
next_field l e hex rest h i =
    let z : drop (e + 1 + length (drop (e + 1) l)) l ≡ [] = drop_of_length-le l (omega (arith, length-drop (e + 1) l)) in
    rw (h refl, z, following_at l e i) (data_last (drop (e + 1) l))

stretch_inside : (l : List ℕ) (kind : FieldKind) (s : ℕ) → s ≤ length l → s + length (stretch kind l s) ≤ length l
stretch_inside l number s h = end_inside l s h
stretch_inside l name s h = end_inside l s h
stretch_inside l right s h = end_inside l s h
stretch_inside l hex s h = omega (arith, length-drop s l)

none_made : (m : List ℕ → Request) (x : Values) → x ≡ unread → NotRead ≡ make_by m x
unfolding make_by
none_made m x e = rw e

module _ (l : List ℕ) (p first : ℕ) (ks : List Kind) (v : List ℕ) (e k : ℕ) (t : Taken l p first ks v e k) where
  abbrev fs : List (List ℕ)
  fs = following (drop first l)

  abbrev result : Request
  result = make_by (form_at p).make (read_fields (form_at p).kinds fs)

  -- a field is left
  module _ (h : k < length ks) (d : Kind) where
    abbrev one : FieldKind
    one = kind_of (get_or ks k d)

    abbrev others : List FieldKind
    others = map kind_of (drop (k + 1) ks)

    left : map kind_of (drop k ks) ≡ one ∷ others
    left = ap (map kind_of) (drop_next ks k d h)

    data_last_kind : one ≡ hex → others ≡ []
    data_last_kind q =
        data_end (form_at p) k (storing_at p t.call) others
        (ap (drop k) (sym t.kinds) ∙ drop-map kind_of k ks ∙ left ∙ ap (λ x. x ∷ others) q)

    short : length l ≤ e → NotRead ≡ result
    unfolding read_fields following after
    short i = none_made (form_at p).make _ (t.whole ∙ rw (left, drop_of_length-le l {i = e} i))

    module _ (i : e < length l) where
      abbrev more : Values
      more = read_fields others (following (drop (e + 1 + length (stretch one l (e + 1))) l))

      step : read_fields (map kind_of (drop k ks)) (following (drop e l)) ≡ and_then (field_of one (stretch one l (e + 1))) more
      step = ap (λ x. read_fields x (following (drop e l))) left ∙ next_field l e one others data_last_kind i

      pub taken_bad : None ≡ found (field_of one (stretch one l (e + 1))) (e + 1 + length (stretch one l (e + 1))) → NotRead ≡ result
      unfolding after and_then
      taken_bad q =
          none_made (form_at p).make _ (t.whole ∙ ap (after (take k v)) (step ∙ ap (λ s. and_then s more) (as_bad _ _ (sym q))))

      pub taken_turn : (f : Field) → Some f ≡ found (field_of one (stretch one l (e + 1))) (e + 1 + length (stretch one l (e + 1))) → Taken l p first ks (set v k f.value) f.end (k + 1)
      taken_turn f q =
          let s = as_is _ _ f.value f.end (sym q) in
          record {
            call = t.call;
            kinds = t.kinds;
            room = omega (arith, length-set v k f.value, t.room);
            inside = omega (arith, s.1, stretch_inside l one (e + 1) (omega arith));
            whole =
                t.whole
                ∙ ap (after (take k v)) (step ∙ ap (λ x. and_then x more) s.0)
                ∙ after_one (take k v) f.value more
                ∙ ap (λ x. after x more) (sym (ap (λ j. take j (set v k f.value)) (add-one k) ∙ take-suc-set v k f.value (omega (arith, h, t.room))))
                ∙ ap (λ j. after (take (k + 1) (set v k f.value)) (read_fields others (following (drop j l)))) s.1;
          }

  -- but the line ends
  pub taken_short : k < length ks → length l ≤ e → NotRead ≡ result
  taken_short h i = short h Number i

  -- none is left
  module _ (h : length ks ≤ k) where
    over : drop k ks ≡ []
    over = drop_of_length-le ks {i = k} h

    pub taken_over : e < length l → NotRead ≡ result
    unfolding read_fields after
    taken_over i = none_made (form_at p).make _ (t.whole ∙ rw (over, following_at l e i, fields_at l (e + 1)))

    pub taken_made : (r : Request) → length l ≤ e → r ≡ made_by p v → r ≡ result
    unfolding read_fields following after made_by make_by
    taken_made r i q =
        let n : length (form_at p).kinds ≡ length ks = ap length (sym t.kinds) ∙ length-map ks kind_of in
        let u : read_fields (form_at p).kinds fs ≡ values (take k v) = t.whole ∙ rw (over, drop_of_length-le l {i = e} i, append-nil (take k v)) in
        let w = lowered_is (form_at p).kinds fs (take k v) v 0 u (λ j b. ap (λ n. get_or v n 0) (zero-add j) ∙ sym (get_or-take k v j 0 (omega arith))) in
        q ∙ ap (form_at p).make w ∙ sym (ap (make_by (form_at p).make) u)

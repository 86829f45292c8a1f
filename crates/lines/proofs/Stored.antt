-- The data of a line that asks to store. Assumes nothing.
use Prim.Native.Nat.{ℕ, ◌-◌, ◌*◌, ◌/◌, ◌%◌, ◌≤◌}
use mathlib.Core.Bool.{Bool, true, false}
use mathlib.Core.List.{List, [], ◌∷◌}
use mathlib.Core.Path.{◌≡◌, refl, sym, ap, ◌∙◌}
use native.Mathlib.Omega.{arith}
use lib.Dec.{leb}
use lib.ListN.{length, get_or, take, drop, length-drop}
use lib.Seq.{take_all, drop-length}
use borrow.Author.Tests.{leb-true, eqb-true}
use Rattle.lists.specs.Bytes.{over}
use Rattle.lists.specs.Choice.{choose}
use Rattle.lists.proofs.Choice.{yes!, no!, true_false, both_left, both_right}
use Rattle.model.specs.declared.Request.{Request}
use Rattle.model.specs.declared.Request.TheVariants.{NotRead}
use Rattle.model.specs.Lines.{fields, is, hex_digits, hex_field, hex_bytes, number, hex, field_of, Values, values, unread, read_fields, Form, forms, at, same_bytes, make_by, read_by, read_all, read_line, stores, length_of, data_of}
use Rattle.model.specs.Places.{EachForm, and}
use Rattle.lines.proofs.Cuts.{last_found}
use Rattle.forms.proofs.Storing.{Storing, never, last, each}
use Rattle.fields.proofs.Decoding.{bytes_length}
use Rattle.fields.proofs.Spelling.{spelt_is}
use Rattle.lines.proofs.Values.{first_of, none_of}

-- the fields after the name of a store: three, and n bytes of data
record Store (fs : List (List ℕ)) (n : ℕ) : Type 0 where
  caller : List ℕ
  register : List ℕ
  address : List ℕ
  hexes : List ℕ
  are : fs ≡ caller ∷ register ∷ address ∷ hexes ∷ []
  count : hex_field hexes ≡ is n

four_fields : (fs : List (List ℕ)) (vs : List ℕ) → read_fields (number ∷ number ∷ number ∷ hex ∷ []) fs ≡ values vs → Store fs (at vs 3)
unfolding field_of
four_fields fs vs e =
    let a = first_of number (number ∷ number ∷ hex ∷ []) fs vs e in
    let b = first_of number (number ∷ hex ∷ []) a.fields a.others a.read in
    let c = first_of number (hex ∷ []) b.fields b.others b.read in
    let d = first_of hex [] c.fields c.others c.read in
    let f : fs ≡ a.field ∷ b.field ∷ c.field ∷ d.field ∷ [] = cc (none_of d.fields d.others d.read).0 in
    let v : vs ≡ a.value ∷ b.value ∷ c.value ∷ d.value ∷ d.others = cc in
    record { caller = a.field; register = b.field; address = c.field; hexes = d.field; are = f; count = d.spells ∙ ap is (sym (ap (λ l. at l 3) v)) }

store_form : (f : Form) (fs : List (List ℕ)) → Storing f → stores (make_by f.make (read_fields f.kinds fs)) ≡ true → Store fs (length_of (make_by f.make (read_fields f.kinds fs)))
unfolding make_by stores
store_form f fs s y = go (read_fields f.kinds fs) refl s y
  where
    go : (x : Values) → read_fields f.kinds fs ≡ x → Storing f → stores (make_by f.make x) ≡ true → Store fs (length_of (make_by f.make x))
    go unread q s y = true_false y refl
    go (values vs) q (never _ n) y = true_false y (n vs)
    go (values vs) q (last k _ l) y = rw (l vs) (four_fields fs vs (ap (λ ks. read_fields ks fs) (sym k) ∙ q))

store_by : (forms : List Form) → EachForm Storing forms → (w : List ℕ) (fs : List (List ℕ)) → stores (read_by forms w fs) ≡ true → Store fs (length_of (read_by forms w fs))
unfolding read_by stores choose
store_by [] e w fs y = true_false y refl
store_by (f ∷ forms) (and s e) w fs y = go (same_bytes f.word w) y (store_by forms e w fs)
  where
    go : (b : Bool) → stores (choose b (make_by f.make (read_fields f.kinds fs)) (read_by forms w fs)) ≡ true → (stores (read_by forms w fs) ≡ true → Store fs (length_of (read_by forms w fs)))
        → Store fs (length_of (choose b (make_by f.make (read_fields f.kinds fs)) (read_by forms w fs)))
    go true y r = store_form f fs s y
    go false y r = r y

-- so a line that asks to store has five fields
record Five (fs : List (List ℕ)) (n : ℕ) : Type 0 where
  word : List ℕ
  others : List (List ℕ)
  are : fs ≡ word ∷ others
  store : Store others n

five_fields : (l : List ℕ) → stores (read_line l) ≡ true → Five (fields l) (length_of (read_line l))
unfolding read_line read_all stores choose
five_fields l y = by_length (leb (length l) 600) y
  where
    by_fields : (fs : List (List ℕ)) → stores (read_all fs) ≡ true → Five fs (length_of (read_all fs))
    by_fields [] y = true_false y refl
    by_fields (w ∷ fs) y = record { word = w; others = fs; are = refl; store = store_by forms each w fs y }

    by_length : (b : Bool) → stores (choose b (read_all (fields l)) NotRead) ≡ true → Five (fields l) (length_of (choose b (read_all (fields l)) NotRead))
    by_length true y = by_fields (fields l) y
    by_length false y = true_false y refl

-- its data are as many bytes as the request says, and at most 257
hex_length : (f : List ℕ) (n : ℕ) → hex_field f ≡ is n → (length (hex_bytes f) ≡ n) × (n ≤ 257)
unfolding hex_field
hex_length f n e =
    let s = spelt_is _ (length f / 2) n e in
    let l = leb-true (length f) 514 (both_right _ _ (both_left _ _ s.0)) in
    (bytes_length f ∙ s.1, omega (arith, s.1))

-- two digits a byte
hex_long : (f : List ℕ) (n : ℕ) → hex_field f ≡ is n → (length f ≡ 2 * n) × (hex_digits f ≡ true)
unfolding hex_field
hex_long f n e =
    let s = spelt_is _ (length f / 2) n e in
    let z = eqb-true (length f % 2) 0 (both_left _ _ (both_left _ _ s.0)) in
    (omega (arith, s.1), both_right _ _ s.0)

data_stored : (l : List ℕ) → stores (read_line l) ≡ true → data_of l ≡ hex_bytes (get_or (fields l) 4 [])
unfolding data_of
data_stored l y = yes! _ _ y

data_hex : (l : List ℕ) → stores (read_line l) ≡ true → (length (data_of l) ≡ length_of (read_line l)) × (length_of (read_line l) ≤ 257)
data_hex l y =
    let f = five_fields l y in
    let e : get_or (fields l) 4 [] ≡ f.store.hexes = ap (λ x. get_or x 4 []) (f.are ∙ ap (λ x. f.word ∷ x) f.store.are) in
    let h = hex_length f.store.hexes (length_of (read_line l)) f.store.count in
    (ap length (data_stored l y ∙ ap hex_bytes e) ∙ h.0, h.1)

pub data_length : (l : List ℕ) → stores (read_line l) ≡ true → length (data_of l) ≡ length_of (read_line l)
data_length l y = (data_hex l y).0

pub data_most : (l : List ℕ) → stores (read_line l) ≡ true → length_of (read_line l) ≤ 257
data_most l y = (data_hex l y).1

-- any other line has none
pub data_none : (l : List ℕ) → stores (read_line l) ≡ false → data_of l ≡ []
unfolding data_of
data_none l n = no! _ _ n

-- as the code finds them: the last of the line, two digits for each of the n bytes that its request says, and none where it doesn't
-- store
module _ (l : List ℕ) (r : Request) (n : ℕ) (e : r ≡ read_line l) (q : n ≡ choose (stores r) (length_of r) 0) where
  abbrev hexes : List ℕ
  hexes = take (length l - (length l - 2 * n)) (drop (length l - 2 * n) l)

  whole : hexes ≡ drop (length l - 2 * n) l
  whole = take_all _ (drop (length l - 2 * n) l) (omega (arith, length-drop (length l - 2 * n) l))

  record Found : Type 0 where
    fits : 2 * n ≤ length l
    digits : hex_digits hexes ≡ true
    room : length hexes / 2 ≤ 257
    bytes : hex_bytes hexes ≡ data_of l

  found : Found
  unfolding hex_digits hex_bytes
  found = go (stores r) refl
    where
      go : (b : Bool) → stores r ≡ b → Found
      go false y =
          let z : n ≡ 0 = q ∙ no! _ _ y in
          let m : length l - 2 * n ≡ length l = omega arith in
          let d : hexes ≡ [] = whole ∙ ap (λ i. drop i l) m ∙ drop-length l in
          record { fits = omega arith; digits = rw d; room = rw d (omega arith); bytes = rw (d, data_none l (ap stores (sym e) ∙ y)) }
      go true y =
          let storing = ap stores (sym e) ∙ y in
          let f = five_fields l storing in
          let s = f.store in
          let g : fields l ≡ f.word ∷ s.caller ∷ s.register ∷ s.address ∷ s.hexes ∷ [] = f.are ∙ ap (λ x. f.word ∷ x) s.are in
          let m : n ≡ length_of (read_line l) = q ∙ yes! _ _ y ∙ ap length_of e in
          let h = hex_long s.hexes n (s.count ∙ ap is (sym m)) in
          let t = last_found l _ _ _ _ _ g in
          let d : hexes ≡ s.hexes = whole ∙ ap (λ i. drop (length l - i) l) (sym h.0) ∙ t.1 in
          record {
            fits = omega (arith, h.0, t.0);
            digits = rw d h.1;
            room = rw d (omega (arith, h.0, m, data_most l storing));
            bytes = rw d (ap hex_bytes (sym (ap (λ x. get_or x 4 []) g)) ∙ sym (data_stored l storing));
          }

  pub data_fits : 2 * n ≤ length l
  data_fits = found.fits

  pub data_digits : hex_digits hexes ≡ true
  data_digits = found.digits

  pub data_room : (m : ℕ) → m ≡ 257 → length hexes / 2 ≤ m
  data_room m h = rw h found.room

  pub data_is : (o t : List ℕ) → t ≡ over o 0 (hex_bytes hexes) → t ≡ over o 0 (data_of l)
  data_is o t e = e ∙ ap (over o 0) found.bytes

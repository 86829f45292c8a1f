-- A new space set into a free slot of a sound table of spaces. Assumes nothing.
use Prim.Native.Nat.{ℕ, ◌+◌, ◌≤◌, ◌<◌}
use mathlib.Core.Bool.{Bool, true, false, not}
use mathlib.Core.List.{List}
use mathlib.Core.Logic.{◌≢◌}
use mathlib.Core.Path.{◌≡◌, refl, sym, ap, ◌∙◌}
use native.Mathlib.Omega.{arith}
use lib.ListN.{length, set, length-set}
use lib.Seq.{get_or-set_same, get_or-set_other}
use borrow.Author.Tests.{eqb-true, eq-eqb, ne_eqb}
use Rattle.lists.specs.Choice.{both}
use Rattle.lists.specs.Places.{count}
use Rattle.lists.proofs.Choice.{not_so, both_left, both_right, both_intro, both_yes, both_no}
use Rattle.lists.proofs.Counts.{count_same, count_more, count_none}
use Rattle.lists.proofs.Maps.{at_set}
use Rattle.model.specs.declared.Guest.{Guest}
use Rattle.model.specs.declared.Space.{Space}
use Rattle.model.specs.Frames.{Layout, frame_of}
use Rattle.model.specs.Names.{good_name, base_name}
use Rattle.model.specs.Searches.{enrolled, is_owned, is_primary, is_data, primaries, data_spaces}
use Rattle.model.specs.Sound.{Live, SpacesOk}
use Rattle.model.specs.Tables.{no_space, space_at, live}
use Rattle.model.proofs.Searches.{live_to, live_of}

-- a guest does not own a space that is not live or has another owner
not_owned : (g : ℕ) (y : Space) → (1 ≤ y.id → y.owner ≡ g → ⊥) → is_owned g y ≡ false
not_owned g y n = not_so (is_owned g y) (λ e. n (live_to y (both_left _ _ e)) (eqb-true y.owner g (both_right (live y) _ e)))

-- a guest that owns no live space has none counted
module _ (ss : List Space) (g : ℕ) (none : (u : ℕ) → Live ss u → (space_at ss u).owner ≡ g → ⊥) where
  pub no_primaries : primaries ss g ≡ 0
  unfolding primaries
  no_primaries = count_none _ 32 (λ u _. both_no _ (not_owned g (space_at ss u) (none u)))

  pub no_data_lem : data_spaces ss g ≡ 0
  unfolding data_spaces
  no_data_lem = count_none _ 32 (λ u _. both_no _ (not_owned g (space_at ss u) (none u)))

-- What a space has to be to go into a sound table: its owner is enrolled, its identification is the next, and no space of its
-- owner has its name.
pub record Fits (next : ℕ) (gs : List Guest) (ss : List Space) (x : Space) : Type 0 where
  pub live : 1 ≤ x.id
  pub id : x.id ≡ next
  pub owner : enrolled gs x.owner ≡ true
  pub pages : 1 ≤ x.pages
  pub name : good_name x.name ≡ true
  pub new : (u : ℕ) → Live ss u → (space_at ss u).owner ≡ x.owner → (space_at ss u).name ≡ x.name → ⊥

-- Where its pages lie, in slot j: `l` is the layout before, `m` after. Live spaces stay where they are; each page of the new one
-- has a frame of its own, inside F, that no live space has.
pub record Placed (F : ℕ) (ss : List Space) (j : ℕ) (x : Space) (l m : Layout) : Type 0 where
  pub others : (u p : ℕ) → Live ss u → frame_of m u p ≡ frame_of l u p
  pub inside : (p : ℕ) → p < x.pages → frame_of m j p < F
  pub own : (p q : ℕ) → p < x.pages → q < x.pages → frame_of m j p ≡ frame_of m j q → p ≡ q
  pub free : (u p q : ℕ) → Live ss u → p < (space_at ss u).pages → q < x.pages → frame_of l u p ≢ frame_of m j q

record Namesakes (y z : Space) : Type 0 where
  owner : y.owner ≡ z.owner
  name : y.name ≡ z.name

-- the space x set into the free slot j
module _ (ss : List Space) (j : ℕ) (x : Space) (len : length ss ≡ 32) (j-lt : j < 32) (free : (space_at ss j).id ≡ 0) where
  room : j < length ss
  room = omega arith

  -- a live space stands as it stood
  pub stands : (u : ℕ) → Live ss u → space_at (set ss j x) u ≡ space_at ss u
  stands u l = get_or-set_other ss j u x no_space (λ e. omega (arith, ap (λ v. (space_at ss v).id) e))

  -- what holds of the new space and of each live one
  each : (P : Space → Type 0) → P x → ((u : ℕ) → Live ss u → P (space_at ss u)) → (u : ℕ) → Live (set ss j x) u → P (space_at (set ss j x) u)
  each P new old u = at_set (λ y. 1 ≤ y.id → P y) ss j x u no_space room (λ _ _. new) (λ _. old u)

  -- no two spaces are alike, where no two live ones were and none is like the new one
  apart : (Alike : Space → Space → Type 0) → ((v : ℕ) → Live ss v → Alike x (space_at ss v) → ⊥) → ((u : ℕ) → Live ss u → Alike (space_at ss u) x → ⊥)
      → ((u v : ℕ) → Live ss u → Live ss v → Alike (space_at ss u) (space_at ss v) → u ≡ v)
      → (u v : ℕ) → Live (set ss j x) u → Live (set ss j x) v → Alike (space_at (set ss j x) u) (space_at (set ss j x) v) → u ≡ v
  apart Alike new-left new-right old u v =
      at_set (λ y. 1 ≤ y.id → Live (set ss j x) v → Alike y (space_at (set ss j x) v) → u ≡ v) ss j x u no_space room
      (λ e _. at_set (λ z. 1 ≤ z.id → Alike x z → u ≡ v) ss j x v no_space room (λ f _ _. e ∙ sym f) (λ _ m a. absurd (new-left v m a)))
      (λ _ l. at_set (λ z. 1 ≤ z.id → Alike (space_at ss u) z → u ≡ v) ss j x v no_space room (λ _ _ a. absurd (new-right u l a)) (λ _ m a. old u v l m a))

  -- the table stays sound, also where more guests are enrolled than before
  pub spaces_made : (F next : ℕ) (gs hs : List Guest) (l m : Layout) → SpacesOk F next gs ss l → ((h : ℕ) → enrolled gs h ≡ true → enrolled hs h ≡ true) → Fits next hs ss x
      → Placed F ss j x l m → SpacesOk F (next + 1) hs (set ss j x) m
  spaces_made F next gs hs l m ok still f lies = record {
    len = length-set ss j x ∙ len;
    owner = each (λ y. enrolled hs y.owner ≡ true) f.owner (λ u a. still _ (ok.owner u a));
    pages = each (λ y. 1 ≤ y.pages) f.pages ok.pages;
    inside = λ u p.
        at_set (λ y. 1 ≤ y.id → p < y.pages → frame_of m u p < F) ss j x u no_space room (λ e _ h. rw e (lies.inside p h)) (λ _ a h. rw (lies.others u p a) (ok.inside u p a h));
    apart = one_frame;
    id_below = each (λ y. y.id < next + 1) (omega (arith, f.id)) (λ u a. omega (arith, ok.id_below u a));
    id_own = apart (λ y z. y.id ≡ z.id) (λ v b e. omega (arith, f.id, ok.id_below v b)) (λ u a e. omega (arith, f.id, ok.id_below u a)) ok.id_own;
    name = each (λ y. good_name y.name ≡ true) f.name ok.name;
    name_own = λ u v a b o n. one_name u v a b (record { owner = o; name = n });
    dead = λ u. at_set (λ y. y.id ≡ 0 → y ≡ no_space) ss j x u no_space room (λ _ e. absurd (omega (arith, f.live))) (λ _. ok.dead u);
  }
    where
      one_frame : (u v p q : ℕ) → Live (set ss j x) u → Live (set ss j x) v → p < (space_at (set ss j x) u).pages → q < (space_at (set ss j x) v).pages → frame_of m u p ≡ frame_of m v q
          → (u ≡ v) × (p ≡ q)
      one_frame u v p q =
          at_set (λ y. 1 ≤ y.id → Live (set ss j x) v → p < y.pages → q < (space_at (set ss j x) v).pages → frame_of m u p ≡ frame_of m v q → (u ≡ v) × (p ≡ q)) ss j x u no_space room
          (λ e _. at_set (λ z. 1 ≤ z.id → p < x.pages → q < z.pages → frame_of m u p ≡ frame_of m v q → (u ≡ v) × (p ≡ q)) ss j x v no_space room
          (λ f _ a b s. (e ∙ sym f, lies.own p q a b (rw (e, f) at s)))
          (λ _ w a b s. absurd (lies.free v q p w b a (sym (lies.others v q w) ∙ sym s ∙ ap (λ y. frame_of m y p) e))))
          (λ _ k. at_set (λ z. 1 ≤ z.id → p < (space_at ss u).pages → q < z.pages → frame_of m u p ≡ frame_of m v q → (u ≡ v) × (p ≡ q)) ss j x v no_space room
          (λ f _ a b s. absurd (lies.free u p q k a b (sym (lies.others u p k) ∙ s ∙ ap (λ y. frame_of m y q) f)))
          (λ _ w a b s. ok.apart u v p q k w a b (sym (lies.others u p k) ∙ s ∙ lies.others v q w)))

      one_name : (u v : ℕ) → Live (set ss j x) u → Live (set ss j x) v → Namesakes (space_at (set ss j x) u) (space_at (set ss j x) v) → u ≡ v
      one_name =
          apart Namesakes
          (λ v l k. f.new v l (sym k.owner) (sym k.name))
          (λ u l k. f.new u l k.owner k.name)
          (λ u v l m k. ok.name_own u v l m k.owner k.name)

  -- how many slots pass a test that the free slot did not pass
  module _ (t : Space → Bool) (failed : t (space_at ss j) ≡ false) where
    as_many : t x ≡ false → count (λ u. t (space_at (set ss j x) u)) 32 ≡ count (λ u. t (space_at ss u)) 32
    as_many e =
        count_same _ _ 32 (λ u _. at_set (λ y. t y ≡ t (space_at ss u)) ss j x u no_space room (λ q. e ∙ sym (ap (λ v. t (space_at ss v)) q ∙ failed)) (λ _. refl))

    one_more : t x ≡ true → count (λ u. t (space_at (set ss j x) u)) 32 ≡ count (λ u. t (space_at ss u)) 32 + 1
    one_more e =
        count_more (λ u. t (space_at ss u)) (λ u. t (space_at (set ss j x) u)) 32 j j-lt failed (ap t (get_or-set_same ss j x no_space room) ∙ e)
        (λ u n. ap t (sym (get_or-set_other ss j u x no_space n)))

  -- nobody owned the free slot
  unowned : (g : ℕ) (b : Bool) → both (is_owned g (space_at ss j)) b ≡ false
  unowned g b = both_no b (not_owned g (space_at ss j) (λ l _. omega arith))

  owned : 1 ≤ x.id → (b : Bool) → both (is_owned x.owner x) b ≡ b
  owned l b = both_yes b (both_intro _ _ (live_of x l) (eq-eqb x.owner x.owner refl))

  -- a space named BASE is one more primary of its owner, any other one more data space, and nobody else's counts change
  pub primary_made : 1 ≤ x.id → x.name ≡ base_name
      → (primaries (set ss j x) x.owner ≡ primaries ss x.owner + 1) × (data_spaces (set ss j x) x.owner ≡ data_spaces ss x.owner)
  unfolding primaries data_spaces
  primary_made l n =
      let e = eq-eqb x.name base_name n in
      (one_more (is_primary x.owner) (unowned _ _) (owned l _ ∙ e), as_many (is_data x.owner) (unowned _ _) (owned l _ ∙ ap not e))

  pub data_made : 1 ≤ x.id → x.name ≢ base_name
      → (primaries (set ss j x) x.owner ≡ primaries ss x.owner) × (data_spaces (set ss j x) x.owner ≡ data_spaces ss x.owner + 1)
  unfolding primaries data_spaces
  data_made l n =
      let e = ne_eqb x.name base_name n in
      (as_many (is_primary x.owner) (unowned _ _) (owned l _ ∙ e), one_more (is_data x.owner) (unowned _ _) (owned l _ ∙ ap not e))

  pub others_made : (h : ℕ) → h ≢ x.owner → (primaries (set ss j x) h ≡ primaries ss h) × (data_spaces (set ss j x) h ≡ data_spaces ss h)
  unfolding primaries data_spaces
  others_made h n =
      let e = not_owned h x (λ _ q. n (sym q)) in
      (as_many (is_primary h) (unowned _ _) (both_no _ e), as_many (is_data h) (unowned _ _) (both_no _ e))

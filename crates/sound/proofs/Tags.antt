-- What the tag of a sound slot tells: its owner, and whether it is a data space or a primary. Assumes nothing.
use Prim.Native.Nat.{ℕ, ◌+◌, ◌%◌, ◌≤◌, ◌<◌}
use mathlib.Core.Bool.{true}
use mathlib.Core.List.{List}
use mathlib.Core.Logic.{◌≢◌, ◌⊎◌, inl, inr}
use mathlib.Core.Path.{◌≡◌, refl, sym, ap, ◌∙◌}
use native.Mathlib.Decide.{ℕ_discrete, dec_le}
use native.Mathlib.Omega.{arith}
use lib.Dec.{eqb}
use borrow.Author.Tests.{eq-eqb, ne_eqb}
use Rattle.lists.specs.Choice.{choose}
use Rattle.lists.specs.Decides.{Decides}
use Rattle.lists.proofs.Choice.{both_no, yes!, no! }
use Rattle.lists.proofs.Counts.{count_same}
use Rattle.lists.proofs.Decides.{d_eq, d_both, d_not, same_by}
use Rattle.lists.proofs.Places.{every_at}
use Rattle.model.specs.declared.Guest.{Guest}
use Rattle.model.specs.declared.Space.{Space}
use Rattle.model.specs.Names.{base_name}
use Rattle.model.specs.Searches.{is_owned, is_primary, is_data, primaries, data_spaces}
use Rattle.model.specs.SoundTest.{slot_test}
use Rattle.model.specs.Tables.{no_space, space_at}
use Rattle.model.proofs.Searches.{d_live, enrolled_guest}
use Rattle.model.proofs.SoundParts.{slot_decides}
use Rattle.permitted.specs.Columns.{Filled, Owners, owner_in, OwnersOf}
use Rattle.permitted.specs.Elements.{Owned, OwnerIs}
use Rattle.sound.specs.Columns.{tag_at, slots_test, tag_count}
use Rattle.sound.specs.Elements.{tag_of}

-- a slot is empty, or its owner is a guest
owned_or_empty : (f n : ℕ) (gs : List Guest) (x : Space) → slot_test f n gs x ≡ true → Owned x ⊎ (x ≡ no_space)
owned_or_empty f n gs x e = go (dec_le 1 x.id)
  where
    go : Dec (1 ≤ x.id) → Owned x ⊎ (x ≡ no_space)
    go (yes l) = let g = enrolled_guest gs x.owner (((slot_decides f n gs x).to e).0 l).owner in inl (record { live = l; low = g.low; high = g.high })
    go (no l) = inr (((slot_decides f n gs x).to e).1 (omega arith))

-- the tag of a space with an owner
tag_base : (x : Space) → Owned x → x.name ≡ base_name → tag_of x ≡ x.owner + 16
unfolding tag_of
tag_base x o e = let h = o.high in yes! _ _ (eq-eqb x.name base_name e) ∙ omega arith

tag_data : (x : Space) → Owned x → x.name ≢ base_name → tag_of x ≡ x.owner
unfolding tag_of
tag_data x o e = let h = o.high in no! _ _ (ne_eqb x.name base_name e) ∙ omega arith

tag_none : tag_of no_space ≡ 0
unfolding tag_of choose
tag_none = refl

tag_owner : (x : Space) → Owned x → tag_of x % 16 ≡ x.owner
tag_owner x o = go (ℕ_discrete x.name base_name)
  where
    go : Dec (x.name ≡ base_name) → tag_of x % 16 ≡ x.owner
    go (yes e) = let h = o.high in omega (arith, tag_base x o e)
    go (no e) = let h = o.high in omega (arith, tag_data x o e)

tag_empty : (x : Space) → x ≡ no_space → tag_of x % 16 ≡ 0
tag_empty x e = ap (λ y. tag_of y % 16) e ∙ ap (λ t. t % 16) tag_none

d_owned : (g : ℕ) (x : Space) → Decides (is_owned g x) ((1 ≤ x.id) × (x.owner ≡ g))
d_owned g x = d_both (d_live x) (d_eq x.owner g)

-- whether the tag is that of a data space, or of the primary, of guest k + 1
module _ (x : Space) (k : ℕ) (b : k < 8) where
  data_is : Owned x ⊎ (x ≡ no_space) → eqb (tag_of x % 32) (k + 1) ≡ is_data (k + 1) x
  data_is (inl o) = same_by (d_eq (tag_of x % 32) (k + 1)) (d_both (d_owned (k + 1) x) (d_not (d_eq x.name base_name))) to of
    where
      to : tag_of x % 32 ≡ k + 1 → ((1 ≤ x.id) × (x.owner ≡ k + 1)) × (x.name ≢ base_name)
      to e =
          let h = o.high in
          let n : x.name ≢ base_name = λ q. omega (arith, tag_base x o q) in
          ((o.live, omega (arith, tag_data x o n)), n)

      of : ((1 ≤ x.id) × (x.owner ≡ k + 1)) × (x.name ≢ base_name) → tag_of x % 32 ≡ k + 1
      of ((l, e), n) = let h = o.high in omega (arith, tag_data x o n)
  data_is (inr e) = rw e (ap (λ t. eqb (t % 32) (k + 1)) tag_none ∙ ne_eqb 0 (k + 1) (λ z. omega arith) ∙ sym (both_no _ (both_no _ refl)))

  primary_is : Owned x ⊎ (x ≡ no_space) → eqb (tag_of x % 32) (k + 17) ≡ is_primary (k + 1) x
  primary_is (inl o) = same_by (d_eq (tag_of x % 32) (k + 17)) (d_both (d_owned (k + 1) x) (d_eq x.name base_name)) (to (ℕ_discrete x.name base_name)) of
    where
      to : Dec (x.name ≡ base_name) → tag_of x % 32 ≡ k + 17 → ((1 ≤ x.id) × (x.owner ≡ k + 1)) × (x.name ≡ base_name)
      to (yes q) e = let h = o.high in ((o.live, omega (arith, tag_base x o q)), q)
      to (no q) e = let h = o.high in absurd (omega (arith, tag_data x o q))

      of : ((1 ≤ x.id) × (x.owner ≡ k + 1)) × (x.name ≡ base_name) → tag_of x % 32 ≡ k + 17
      of ((l, e), q) = let h = o.high in omega (arith, tag_base x o q)
  primary_is (inr e) = rw e (ap (λ t. eqb (t % 32) (k + 17)) tag_none ∙ ne_eqb 0 (k + 17) (λ z. omega arith) ∙ sym (both_no _ (both_no _ refl)))

-- all slots
module _ (f n : ℕ) (gs : List Guest) (ss : List Space) (ts : List ℕ) (ok : slots_test f n gs ss ≡ true) (tagged : Filled ts (tag_at ss) 32) where
  slot_owned : (u : ℕ) → u < 32 → Owned (space_at ss u) ⊎ (space_at ss u ≡ no_space)
  slot_owned u l = owned_or_empty f n gs (space_at ss u) (every_at (λ v. slot_test f n gs (space_at ss v)) 32 ok u l)

  -- the owners in the tags
  pub tag_owners_of : OwnersOf ss ts
  tag_owners_of = record { at = λ u l. told u l (slot_owned u l) }
    where
      told : (u : ℕ) → u < 32 → Owned (space_at ss u) ⊎ (space_at ss u ≡ no_space) → OwnerIs (space_at ss u) (owner_in ts u)
      told u l (inl w) = inl (w, ap (λ t. t % 16) (tagged.at u l) ∙ tag_owner (space_at ss u) w)
      told u l (inr e) = inr (e, ap (λ t. t % 16) (tagged.at u l) ∙ tag_empty (space_at ss u) e)

  pub tag_owners : Owners ts
  tag_owners = record { below = λ u l. small u (tag_owners_of.at u l) }
    where
      small : (u : ℕ) → OwnerIs (space_at ss u) (owner_in ts u) → owner_in ts u ≤ 8
      small u (inl (w, e)) = omega (arith, w.high, e)
      small u (inr (_, z)) = omega (arith, z)

  -- the counts of the tags are those of the spaces
  module _ (k : ℕ) (b : k < 8) where
    pub data_count : tag_count ts 32 (k + 1) ≡ data_spaces ss (k + 1)
    unfolding data_spaces
    data_count = count_same _ _ 32 (λ u l. ap (λ t. eqb (t % 32) (k + 1)) (tagged.at u l) ∙ data_is (space_at ss u) k b (slot_owned u l))

    pub primary_count : tag_count ts 32 (k + 17) ≡ primaries ss (k + 1)
    unfolding primaries
    primary_count = count_same _ _ 32 (λ u l. ap (λ t. eqb (t % 32) (k + 17)) (tagged.at u l) ∙ primary_is (space_at ss u) k b (slot_owned u l))

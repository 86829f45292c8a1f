-- The buffer that the reader has filled for a request, and the part of it that a call has. Assumes nothing.
use Prim.Native.Nat.{ℕ, min, ◌≤◌}
use mathlib.Core.Bool.{Bool, true, false}
use mathlib.Core.List.{List, []}
use mathlib.Core.Path.{◌≡◌, refl, subst, sym, ap, ◌∙◌}
use native.Mathlib.Omega.{arith}
use lib.ListN.{length, take, replicate, length-take, length-replicate}
use Rattle.lists.specs.Bytes.{over}
use Rattle.lists.specs.Choice.{choose}
use Rattle.lists.proofs.Bytes.{length-over}
use Rattle.lists.proofs.Choice.{yes!, no! }
use Rattle.lists.proofs.Parts.{take_replicate}
use Rattle.model.specs.declared.Call.{Call}
use Rattle.model.specs.declared.Operation.{Operation}
use Rattle.model.specs.declared.Operation.TheVariants.{Enrol, Create, Destroy, Permit, Isolate, Query, Add, Remove, Load, Mode, Fetch, Store, Reset, Key, Block}
use Rattle.model.specs.declared.Request.{Request}
use Rattle.model.specs.declared.Request.TheVariants.{Call as Asked}
use Rattle.model.specs.Classes.{Moves, no_bytes, from_space, to_space, stores_bytes, class_of}
use Rattle.model.specs.Lines.{stores, length_of}
use Rattle.model.specs.Session.{filled, buffer_for}
use Rattle.model.specs.Parts.{data_in}
use Rattle.turns.specs.Taken.{Prepared, buffer_length}

-- it has 257 bytes
data_most : (q : Request) (b : List ℕ) → (stores q ≡ true → length_of q ≤ 257) → length (data_in q b) ≤ 257
unfolding data_in choose
data_most q b f = go (stores q) f
  where
    go : (t : Bool) → (t ≡ true → length_of q ≤ 257) → length (choose t (take (length_of q) b) []) ≤ 257
    go true f = let h = f refl in omega (arith, length-take (length_of q) b)
    go false f = omega arith

pub prepared_long : (q : Request) (b : List ℕ) → Prepared q b → length b ≡ 257
prepared_long q b p =
    let z : length (replicate {A = ℕ} 257 0) ≡ 257 = length-replicate {A = ℕ} 257 0 in
    ap length p.filled ∙ length-over (replicate 257 0) 0 (data_in q b) (omega (arith, data_most q b p.fits)) ∙ z

-- so a call's part lies in it
pub part_within : (q : Request) (b : List ℕ) (n : ℕ) → Prepared q b → n ≤ 257 → n ≤ length b
part_within q b n p l = omega (arith, prepared_long q b p)

pub part_long : (q : Request) (b : List ℕ) (n : ℕ) → Prepared q b → n ≤ 257 → n ≡ length (take n b)
part_long q b n p l = omega (arith, length-take n b, prepared_long q b p)

-- a request that does not store has no data
pub unstoring : (q : Request) (b : List ℕ) → stores q ≡ false → data_in q b ≡ []
unfolding data_in
unstoring q b e = no! _ _ e

-- The part of a call is the buffer that the model gives it.
module _ (k : Call) (size : ℕ) (b : List ℕ) (p : Prepared (Asked k size) b) where
  part_of : (v : Moves) → (class_of k.operation).moves ≡ v → take (buffer_length v size) b ≡ filled v size (data_in (Asked k size) b)
  unfolding buffer_length stores length_of data_in over
  part_of no_bytes e = refl
  part_of (from_space r a) e =
      let none : data_in (Asked k size) b ≡ [] = unstoring (Asked k size) b (ap stores_bytes e) in
      let zeros : b ≡ replicate 257 0 = p.filled ∙ ap (over (replicate 257 0) 0) none in
      ap (take (min size 257)) zeros ∙ take_replicate (min size 257) 257 0 (omega arith)
  part_of (to_space r a) e =
      let s : stores (Asked k size) ≡ true = ap stores_bytes e in
      let few : min size 257 ≡ size = omega (arith, p.fits s) in
      ap (λ j. take j b) few ∙ sym (yes! _ _ s)

pub part_given : (q : Request) (k : Call) (size n : ℕ) (b : List ℕ) → q ≡ Asked k size → Prepared q b → n ≡ buffer_length (class_of k.operation).moves size
    → take n b ≡ buffer_for k.operation size (data_in q b)
unfolding buffer_for
part_given q k size n b g p c =
    rw (c, g) (part_of k size b (subst (λ (x : Request). Prepared x b) g p) (class_of k.operation).moves refl)

-- How long it is, call by call: all but FETCH and STORE move no bytes.
plain : (o : Operation) → ((r a : ℕ) → o ≡ Fetch r a → ⊥) → ((r a : ℕ) → o ≡ Store r a → ⊥) → (class_of o).moves ≡ no_bytes
plain (Enrol x) f s = refl
plain (Create n p) f s = refl
plain (Destroy i) f s = refl
plain (Permit i g r) f s = refl
plain (Isolate i) f s = refl
plain (Query g n) f s = refl
plain (Add i r) f s = refl
plain (Remove t) f s = refl
plain (Load r v) f s = refl
plain (Mode m) f s = refl
plain (Fetch r a) f s = absurd (f r a refl)
plain (Store r a) f s = absurd (s r a refl)
plain Reset f s = refl
plain (Key k) f s = refl
plain (Block i a k m) f s = refl

module _ (o : Operation) (n : ℕ) where
  pub length-fetch : (r a x : ℕ) → o ≡ Fetch r a → x ≡ min n 257 → x ≡ buffer_length (class_of o).moves n
  unfolding buffer_length
  length-fetch r a x e p = rw e p

  pub length-store : (r a x : ℕ) → o ≡ Store r a → x ≡ min n 257 → x ≡ buffer_length (class_of o).moves n
  unfolding buffer_length
  length-store r a x e p = rw e p

  pub length_none : ((r a : ℕ) → o ≡ Fetch r a → ⊥) → ((r a : ℕ) → o ≡ Store r a → ⊥) → 0 ≡ buffer_length (class_of o).moves n
  unfolding buffer_length
  length_none f s = sym (ap (λ v. buffer_length v n) (plain o f s))

pub length_most : (x n : ℕ) → x ≡ min n 257 → x ≤ 257
length_most x n e = omega arith

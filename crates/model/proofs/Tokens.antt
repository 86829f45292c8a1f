-- What a token names: those that ADD gives, and when the same one comes back. Assumes nothing.
use Prim.Native.Nat.{ℕ, zero, suc, ◌+◌, ◌%◌, ◌≤◌, ◌<◌}
use mathlib.Core.Bool.{true, false, not}
use mathlib.Core.List.{List}
use mathlib.Core.Logic.{◌≢◌}
use mathlib.Core.Path.{◌≡◌, refl, sym, ap, ◌∙◌}
use native.Mathlib.Omega.{arith}
use lib.Dec.{eqb, leb, ltb}
use borrow.Author.Tests.{eqb-true, leb-true, leb-false, ltb-false, ne_eqb, eq-eqb, le-leb, lt-leb, le-ltb}
use Rattle.lists.specs.Choice.{either}
use Rattle.lists.proofs.Choice.{not_to, not_of, both_left, both_right, both_intro, both_yes, both_not, either_none, either_not_left, either_not_right}
use Rattle.model.specs.declared.Entry.{Entry}
use Rattle.model.specs.declared.Right.{Right}
use Rattle.model.specs.declared.Standing.TheVariants.{Valid}
use Rattle.model.specs.declared.State.{State}
use Rattle.model.specs.Answers.{value}
use Rattle.model.specs.Changes.{released}
use Rattle.model.specs.Decision.{Decision, after}
use Rattle.model.specs.Granted.{Added, Removed, added_entry}
use Rattle.model.specs.Searches.{enrolled, slot_of, is_unused}
use Rattle.model.specs.Sound.{IsGuest, IsEntry, Sound}
use Rattle.model.specs.Tables.{guest_at, entry_at}
use Rattle.model.specs.Tokens.{token, entry_number, upper_half, malformed, assigned}
use Rattle.model.proofs.Entries.{entry_set, released_raised}
use Rattle.model.proofs.Searches.{enrolled_guest}

-- a token that is not 0 and not malformed has an entry number of a list, and no leftmost byte
pub record Formed (t : ℕ) : Type 0 where
  pub byte : t < 16777216
  pub entry : IsEntry (entry_number t)

pub formed : (t : ℕ) → t ≢ 0 → malformed t ≡ false → Formed t
unfolding malformed
formed t z e =
    let h = either_not_right (leb 16777216 t) (either (ltb (entry_number t) 2) (ltb 31 (entry_number t))) f in
    record {
      byte = leb-false 16777216 t (either_not_left (leb 16777216 t) (either (ltb (entry_number t) 2) (ltb 31 (entry_number t))) f);
      entry = record {
        low = ltb-false _ 2 (either_not_left (ltb (entry_number t) 2) (ltb 31 (entry_number t)) h);
        high = ltb-false 31 _ (either_not_right (ltb (entry_number t) 2) (ltb 31 (entry_number t)) h);
      };
    }
  where
    f : either (leb 16777216 t) (either (ltb (entry_number t) 2) (ltb 31 (entry_number t))) ≡ false
    f = sym (both_yes _ (not_of (eqb t 0) (ne_eqb t 0 z))) ∙ e

-- A token made of a sequence and an entry number gives both back.
module _ (q n : ℕ) (small : q < 256) (entry : IsEntry n) where
  pub token_number : entry_number (token q n) ≡ n
  token_number = omega arith

  pub token_sequence : upper_half (token q n) ≡ q
  token_sequence = omega arith

  pub token_not_zero : token q n ≢ 0
  token_not_zero = omega arith

  pub token_formed : malformed (token q n) ≡ false
  unfolding malformed
  token_formed =
      both_not (not (eqb (token q n) 0)) _
      (either_none _ _ (lt-leb 16777216 (token q n) (omega arith))
      (either_none _ _ (le-ltb (entry_number (token q n)) 2 (omega arith)) (le-ltb 31 (entry_number (token q n)) (omega arith))))

-- What an assigned token says of its entry.
module _ (es : List Entry) (g l t : ℕ) (is : assigned es g l t ≡ true) where
  pub assigned_listed : entry_number t ≤ l + 1
  unfolding assigned
  assigned_listed = leb-true (entry_number t) (l + 1) (both_left _ _ is)

  pub assigned_used : is_unused (entry_at es g (entry_number t)).standing ≡ false
  unfolding assigned
  assigned_used = not_to _ (both_left _ _ (both_right (leb (entry_number t) (l + 1)) _ is))

  pub assigned_sequence : (entry_at es g (entry_number t)).sequence ≡ upper_half t
  unfolding assigned
  assigned_sequence =
      eqb-true _ (upper_half t)
      (both_right (not (is_unused (entry_at es g (entry_number t)).standing)) _ (both_right (leb (entry_number t) (l + 1)) _ is))

-- and what makes a token assigned
pub assigned_of : (es : List Entry) (g l t : ℕ) → entry_number t ≤ l + 1 → is_unused (entry_at es g (entry_number t)).standing ≡ false
    → (entry_at es g (entry_number t)).sequence ≡ upper_half t → assigned es g l t ≡ true
unfolding assigned
assigned_of es g l t listed used same =
    both_intro _ _ (le-leb (entry_number t) (l + 1) listed) (both_intro _ _ (not_of _ used) (eq-eqb _ (upper_half t) same))

-- the token of an entry in use is assigned
pub token_assigned : (es : List Entry) (g l q n : ℕ) → q < 256 → IsEntry n → n ≤ l + 1 → is_unused (entry_at es g n).standing ≡ false → (entry_at es g n).sequence ≡ q
    → assigned es g l (token q n) ≡ true
token_assigned es g l q n small entry listed used same =
    let e = token_number q n small entry in
    assigned_of es g l (token q n) (rw e listed) (rw e used) (rw e same ∙ sym (token_sequence q n small entry))

-- The token that ADD gives is well formed, names the entry taken, and is assigned from then on.
pub record TokenGiven (s : State) (g : ℕ) (d : Decision) : Type 0 where
  pub not_zero : value d.answer ≢ 0
  pub formed : malformed (value d.answer) ≡ false
  pub entry : entry_number (value d.answer) ≡ added_entry s g
  pub assigned : assigned (after s d).entries g (guest_at (after s d).guests g).list (value d.answer) ≡ true

module _ (s : State) (g i : ℕ) (r : Right) (d : Decision) (ok : Sound s) (on : enrolled s.guests g ≡ true) (done : Added s g i r d) where
  pub added_entry_lem : IsEntry (added_entry s g)
  added_entry_lem = record { low = omega arith; high = omega (arith, done.room, ok.guests.list_high g on) }

  pub added_token : TokenGiven s g d
  unfolding value is_unused
  added_token =
      let n = added_entry s g in
      let q = (entry_at s.entries g n).sequence in
      let guest = enrolled_guest s.guests g on in
      let small = ok.entries.sequence g n guest added_entry_lem in
      let new : Entry = record { standing = Valid (slot_of s.spaces i) r; sequence = q } in
      let back = entry_set s.entries g n new ok.entries.len guest added_entry_lem in
      rw done.is (record {
        not_zero = token_not_zero q n small added_entry_lem;
        formed = token_formed q n small added_entry_lem;
        entry = token_number q n small added_entry_lem;
        assigned = token_assigned _ g _ q n small added_entry_lem (omega (arith, done.room)) (rw back refl) (rw back refl);
      })

-- The sequence of an entry after so many reuses: each time that it becomes unused it goes up by one, and wraps.
unfoldable pub reused : (times sequence : ℕ) → ℕ
reused zero q = q
reused (suc k) q = (reused k q + 1) % 256

-- k reuses add k, so the sequence is back after 256 and not before
module _ (q : ℕ) (small : q < 256) where
  pub reused_sum : (k : ℕ) → reused k q ≡ (q + k) % 256
  unfolding reused
  reused_sum zero = omega arith
  reused_sum (suc k) = omega (arith, reused_sum k)

  pub reused_back : reused 256 q ≡ q
  reused_back = omega (arith, reused_sum 256)

  pub reused_not_before : (k : ℕ) → 1 ≤ k → k < 256 → reused k q ≢ q
  reused_not_before k a b e = omega (arith, reused_sum k)

  -- and with it the token of an entry
  pub token_back : (n : ℕ) → token (reused 256 q) n ≡ token q n
  token_back n = ap (λ x. token x n) reused_back

  pub token_not_before : (n k : ℕ) → 1 ≤ k → k < 256 → token (reused k q) n ≢ token q n
  token_not_before n k a b e = reused_not_before k a b (omega arith)

-- an entry that was valid or revoked is reused once when it is released
pub released_reused : (x : Entry) → is_unused x.standing ≡ false → (released x).sequence ≡ reused 1 x.sequence
unfolding reused
released_reused x used = released_raised x used

-- REMOVE reuses the entry of its token once
pub removed_reused : (s : State) (g t : ℕ) (d : Decision) → Sound s → IsGuest g → Removed s g t d → (entry_at (after s d).entries g (entry_number t)).sequence ≡ reused 1 (upper_half t)
removed_reused s g t d ok i done =
    let a = done.assigned in
    let l = (guest_at s.guests g).list in
    let x = entry_at s.entries g (entry_number t) in
    rw done.is
    (ap (λ (y : Entry). y.sequence) (entry_set s.entries g (entry_number t) (released x) ok.entries.len i (formed t done.not_zero done.formed).entry)
    ∙ released_reused x (assigned_used s.entries g l t a)
    ∙ ap (reused 1) (assigned_sequence s.entries g l t a))

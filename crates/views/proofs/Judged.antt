-- Check 2 by what a call has seen, for every call but ENROL. Assumes nothing.
use Prim.Native.Nat.{ℕ, ◌+◌, ◌≤◌, ◌<◌}
use mathlib.Core.Bool.{true, false}
use mathlib.Core.Path.{◌≡◌, ap, ◌∙◌}
use native.Mathlib.Omega.{arith}
use lib.ListN.{get_or}
use Rattle.lists.proofs.Choice.{no! }
use Rattle.lookup.specs.Rows.{row_of, place_by}
use Rattle.lookup.proofs.Rows.{row_place, enrolled_row}
use Rattle.model.specs.declared.Answer.TheVariants.{BadCaller}
use Rattle.model.specs.declared.Caller.{Caller}
use Rattle.model.specs.declared.Operation.{Operation}
use Rattle.model.specs.declared.State.{State}
use Rattle.model.specs.Arguments.{arguments, check_all}
use Rattle.model.specs.Calls.{enrols, good_caller, judge, perform}
use Rattle.model.specs.Decision.{refuse}
use Rattle.model.specs.Leaves.{caller_place}
use Rattle.model.specs.Replies.{call_of}
use Rattle.model.specs.Searches.{enrolled}
use Rattle.model.specs.Tables.{no_guest, guest_at, guest_place}
use Rattle.model.proofs.Searches.{enrolled_guest}
use Rattle.model.proofs.Rules.{check_yes, check_no, place_no, place_yes, place_is}
use Rattle.asks.proofs.Told.{asks_caller}
use Rattle.views.specs.declared.View.{View}
use Rattle.asks.specs.Asks.{asks_by}
use Rattle.views.specs.Views.{view_of}

module _ (s : State) (g : ℕ) (o : Operation) (v : View) (e : v ≡ view_of s (asks_by g o)) where
  pub seen_place : v.place ≡ caller_place s.guests g
  unfolding view_of
  seen_place =
      ap (λ (x : View). x.place) e
      ∙ ap (λ h. place_by (get_or s.guests (row_of h) no_guest) h) (asks_caller g o)
      ∙ row_place s.guests g

  module _ (l : v.place < 8) where
    pub seen_enrolled : enrolled s.guests g ≡ true
    seen_enrolled = place_yes v.place s.guests g seen_place l

    pub place_own : v.place ≡ guest_place g
    place_own = place_is v.place s.guests g seen_place l

    -- the row is the caller's
    pub row_own : row_of (asks_by g o).caller ≡ guest_place g
    row_own = ap row_of (asks_caller g o) ∙ enrolled_row s.guests g v.place seen_place l

    pub seen_caller : v.place + 1 ≡ g
    seen_caller = let i = enrolled_guest s.guests g seen_enrolled in omega (arith, place_own)

    pub seen_guest : v.guest ≡ guest_at s.guests g
    unfolding view_of
    seen_guest = ap (λ (x : View). x.guest) e ∙ ap (λ k. get_or s.guests k no_guest) row_own

module _ (s : State) (c : Caller) (o : Operation) (n : ℕ) (v : View) (plain : enrols o ≡ false) (e : v ≡ view_of s (asks_by c.guest o)) where
  caller_test : good_caller s c o ≡ enrolled s.guests c.guest
  unfolding good_caller
  caller_test = no! _ _ plain

  pub judged_bad : 8 ≤ v.place → judge s (call_of c o) n ≡ refuse BadCaller
  unfolding judge
  judged_bad h = check_no _ _ (caller_test ∙ place_no v.place s.guests c.guest (seen_place s c.guest o v e) h)

  pub judged_good : v.place < 8 → judge s (call_of c o) n ≡ check_all (arguments s.guests c o n) (perform s c o n)
  unfolding judge
  judged_good l = check_yes _ _ (caller_test ∙ seen_enrolled s c.guest o v e l)

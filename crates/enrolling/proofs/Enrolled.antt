-- ENROL's checks on the tables that they look at. Assumes nothing.
use Prim.Native.Nat.{ℕ, ◌-◌, ◌≤◌, ◌<◌}
use mathlib.Core.Bool.{Bool, true, false, not}
use mathlib.Core.List.{List, []}
use mathlib.Core.Path.{◌≡◌, refl, subst, sym, ◌∙◌}
use native.Mathlib.Omega.{arith}
use lib.Dec.{leb}
use lib.ListN.{set}
use borrow.Author.Tests.{leb-true, not-true, not-false}
use Rattle.lists.specs.Choice.{choose, both}
use Rattle.lists.proofs.Choice.{both_left, both_right}
use Rattle.std.specs.Prelude.{Result, Ok, Err}
use Rattle.model.specs.declared.Answer.{Answer}
use Rattle.model.specs.declared.Answer.TheVariants.{Done, BadCaller, Limit}
use Rattle.model.specs.declared.Caller.{Caller}
use Rattle.model.specs.declared.Guest.{Guest}
use Rattle.model.specs.declared.Kind.TheVariants.{Pages, Allowance, ListSize, Flag}
use Rattle.model.specs.declared.Operation.TheVariants.{Enrol}
use Rattle.model.specs.declared.Settings.{Settings}
use Rattle.model.specs.declared.Space.{Space}
use Rattle.model.specs.declared.State.{State}
use Rattle.model.specs.Arguments.{arguments, check_all}
use Rattle.model.specs.Calls.{enrol, enrolling, making, perform, enrols, may_enrol, good_caller, judge, new_guest}
use Rattle.model.specs.Changes.{space_added}
use Rattle.model.specs.Decision.{Decision, refuse, check}
use Rattle.model.specs.Names.{base_name}
use Rattle.model.specs.Leaves.{in_run}
use Rattle.model.specs.Replies.{reply, call_of, Carried}
use Rattle.model.specs.Sound.{IsGuest}
use Rattle.model.specs.SoundTest.{sound}
use Rattle.model.specs.Step.{clear_frames}
use Rattle.model.specs.Tables.{guest_place, with_guests}
use Rattle.model.proofs.Rules.{check_yes, check_no}
use Rattle.model.proofs.Sound.{may_enrol_lem}
use Rattle.enrolling.specs.Enrolling.{settings_checked, Decides, EnrolsTo}
use Rattle.making.specs.declared.Placed.{Placed}
use Rattle.making.specs.Placing.{PlacedTo, CallNotPlaced}
use Rattle.making.proofs.Done as making
use Rattle.sound.proofs.Kept.{carried_sound}

-- the checks of the arguments, over the five tests
abbrev checked : (a b c d e : Bool) → Result (Unit {0}) Answer
checked a b c d e =
    choose a
    (choose b
    (choose c
    (choose d
    (choose e (Ok tt)
    (Err (Limit Flag 6)))
    (Err (Limit ListSize 5)))
    (Err (Limit Flag 4)))
    (Err (Limit Allowance 3)))
    (Err (Limit Pages 2))

abbrev checks : (a b c d e : Bool) → Decision → Decision
checks a b c d e z = check a (Limit Pages 2) (check b (Limit Allowance 3) (check c (Limit Flag 4) (check d (Limit ListSize 5) (check e (Limit Flag 6) z))))

-- what each tells of the decision z that follows
Told : (a b c d e : Bool) → Result (Unit {0}) Answer → Type 0
Told a b c d e (Ok y) = (a ≡ true) × (b ≡ true) × (c ≡ true) × (d ≡ true) × (e ≡ true)
Told a b c d e (Err r) = (z : Decision) → checks a b c d e z ≡ refuse r

told : (a b c d e : Bool) → Told a b c d e (checked a b c d e)
unfolding choose check Told
told false b c d e = λ z. refl
told true false c d e = λ z. refl
told true true false d e = λ z. refl
told true true true false e = λ z. refl
told true true true true false = λ z. refl
told true true true true true = (refl, refl, refl, refl, refl)

module _ (x : Settings) (r : Result (Unit {0}) Answer) (e : r ≡ settings_checked x) where
  abbrev pages_ok : Bool
  pages_ok = both (leb 1 x.pages) (leb x.pages 512)

  abbrev list_ok : Bool
  list_ok = both (leb 1 x.list) (leb x.list 30)

  told_as : (y : Result (Unit {0}) Answer) → r ≡ y → Told pages_ok (leb x.allowance 31) (leb x.share 1) list_ok (leb x.asf 1) y
  unfolding settings_checked
  told_as y is = subst (Told _ _ _ _ _) (sym e ∙ is) (told _ _ _ _ _)

  module _ (is : r ≡ Ok tt) where
    right : (pages_ok ≡ true) × (leb x.allowance 31 ≡ true) × (leb x.share 1 ≡ true) × (list_ok ≡ true) × (leb x.asf 1 ≡ true)
    unfolding Told
    right = told_as (Ok tt) is

    pub pages_low : 1 ≤ x.pages
    pages_low = leb-true 1 x.pages (both_left _ _ right.0)

    pub pages_high : x.pages ≤ 512
    pages_high = leb-true x.pages 512 (both_right (leb 1 x.pages) _ right.0)

    allowance_small : x.allowance < 256
    allowance_small = omega (arith, leb-true x.allowance 31 right.1)

    list_small : x.list < 256
    list_small = omega (arith, leb-true x.list 30 (both_right (leb 1 x.list) _ right.3))

-- the call, on the tables that it looks at
module _ (F next : ℕ) (ss : List Space) (gs : List Guest) (c : Caller) (x : Settings) (may : Bool) (e : may ≡ may_enrol gs c.guest) where
  pub enrol_caller : not may ≡ true → CallNotPlaced F next ss gs (call_of c (Enrol x)) BadCaller
  unfolding judge good_caller enrols choose
  enrol_caller f s h q = check_no _ _ (rw q (sym e ∙ not-true may f))

  module _ (f : not may ≡ false) where
    here : may_enrol gs c.guest ≡ true
    here = sym e ∙ not-false may f

    -- check 2
    is_guest_lem : IsGuest c.guest
    is_guest_lem = (may_enrol_lem gs c.guest here).0

    pub owner_small : c.guest ≤ 8
    owner_small = is_guest_lem.high

    enrols_in : (s : State) → s.guests ≡ gs → may_enrol s.guests c.guest ≡ true
    enrols_in s q = rw q here

    module _ (t : Result (Unit {0}) Answer) (te : t ≡ settings_checked x) where
      pub enrol_wrong : (a : Answer) → t ≡ Err a → CallNotPlaced F next ss gs (call_of c (Enrol x)) a
      unfolding judge good_caller enrols choose arguments check_all Told
      enrol_wrong a is s h q = check_yes _ _ (enrols_in s q) ∙ told_as x t te (Err a) is _

      module _ (is : t ≡ Ok tt) where
        passed : (s : State) → s.guests ≡ gs → judge s (call_of c (Enrol x)) 0 ≡ making s x.pages (enrolling s c.guest x)
        unfolding judge good_caller enrols choose arguments check_all perform enrol
        passed s q =
            let f = right x t te is in
            check_yes _ _ (enrols_in s q) ∙ check_yes _ _ f.0 ∙ check_yes _ _ f.1 ∙ check_yes _ _ f.2 ∙ check_yes _ _ f.3 ∙ check_yes _ _ f.4

        pub enrol_placed : (r : Result Placed Answer) → PlacedTo F next ss c.guest base_name x.pages r → EnrolsTo F next ss gs c x r
        enrol_placed (Err a) p = λ s h q. passed s q ∙ p s h (enrolling s c.guest x)
        enrol_placed (Ok y) p = (sym te ∙ is, λ s h q. record { guest = is_guest_lem; judged = passed s q; placed = p s h })

-- what was decided, in the state that has the tables
module _ (s : State) (c : Caller) (x : Settings) (r : Result Placed Answer) (d : EnrolsTo s.frames s.next s.spaces s.guests c x r) where
  decides : (y : Result Placed Answer) → EnrolsTo s.frames s.next s.spaces s.guests c x y → Decides s.frames s.next s.spaces s.guests c x y
  decides (Err a) h = h
  decides (Ok y) h = h.1

  pub enrol_decides : Decides s.frames s.next s.spaces s.guests c x r
  enrol_decides = decides r d

  module _ (p : Placed) (e : r ≡ Ok p) where
    settled : settings_checked x ≡ Ok tt
    settled = (subst (EnrolsTo s.frames s.next s.spaces s.guests c x) e d).0

    pub allowance_fits : x.allowance < 256
    allowance_fits = allowance_small x _ refl settled

    pub list_fits : x.list < 256
    list_fits = list_small x _ refl settled

    -- the guest's number, and where it stands
    pub number_low : 1 ≤ c.guest
    number_low = making.guest_low s (call_of c (Enrol x)) base_name x.pages (λ t. enrolling t c.guest x) r enrol_decides [] p e

    pub place_low : c.guest - 1 < 8
    place_low = omega (arith, making.guest_high s (call_of c (Enrol x)) base_name x.pages (λ t. enrolling t c.guest x) r enrol_decides [] p e)

    module _ (g : Guest) (is : g ≡ new_guest x) (ok : sound s ≡ true) (t : State) (te : t ≡ space_added (with_guests s (set s.guests (guest_place c.guest) g)) p.slot p.space) where
      pub enrol_done : (a : Answer) (m m' : List ℕ) → a ≡ Done p.space.id → m' ≡ clear_frames (in_run p.space.first p.space.pages) m → Carried s (judge s (call_of c (Enrol x)) 0) (reply a t) m m'
      enrol_done a m m' ae cleared = rw (te, ae, is) (making.makes s (call_of c (Enrol x)) base_name x.pages (λ t. enrolling t c.guest x) r enrol_decides m p e _ m' refl ok cleared)

      pub enrol_sound : sound t ≡ true
      enrol_sound = carried_sound s _ (call_of c (Enrol x)) [] _ (Done p.space.id) ok (enrol_done (Done p.space.id) [] _ refl refl)

-- Which answer a call gets: the number of the first of its checks that fails, in the paper's order. A call's row (specs/Verdict) is the
-- numbers of these checks. Assumes nothing.
use Prim.Native.Nat.{ℕ, ◌+◌}
use mathlib.Core.Bool.{Bool, true, false, not}
use mathlib.Core.List.{List, [], ◌∷◌}
use mathlib.Core.Path.{◌≡◌, refl, sym, ap, ◌∙◌}
use lib.Dec.{leb, ltb, eqb}
use borrow.Author.Tests.{not-false}
use Rattle.lists.specs.Choice.{choose, both, either, implies}
use Rattle.lists.proofs.Choice.{true_false, not_to, yes!, no!, choose_elim, both_no, either_left, either_right, either_none}
use Rattle.model.specs.declared.Answer.{Answer}
use Rattle.model.specs.declared.Answer.TheVariants.{Unsound, BadCaller, NameTaken, NoSpace, NotOwner, NoSharing, AllowanceUsed, SlotsUsed, NoRun, NoIdentification, NotPermitted, ListFull, AletSpecification, AlenTranslation, Addressing, Protection, SpecialOperation, PrimarySpace, KeyProtection}
use Rattle.model.specs.declared.Call.{Call}
use Rattle.model.specs.declared.Caller.{Caller}
use Rattle.model.specs.declared.Operation.{Operation}
use Rattle.model.specs.declared.Operation.TheVariants.{Enrol, Create, Destroy, Permit, Isolate, Query, Add, Remove, Load, Mode, Fetch, Store, Reset, Key, Block}
use Rattle.model.specs.declared.Right.{Right}
use Rattle.model.specs.declared.Right.TheVariants.{Read, Write}
use Rattle.model.specs.declared.Standing.{Standing}
use Rattle.model.specs.declared.Standing.TheVariants.{Unused, Valid, Revoked}
use Rattle.model.specs.declared.State.{State}
use Rattle.model.specs.Answers.{limit_number, number}
use Rattle.model.specs.Arguments.{Argument, arguments, check_all}
use Rattle.model.specs.Calls.{making, enrol, create, owning, destroy, permit, isolate, entitled, query, add, remove, load, mode, writes, access_at, access, target, access_key, fetching, storing, reset, set_key, block, perform, good_caller, judge, ready, decide}
use Rattle.model.specs.Decision.{Decision, Effect, check}
use Rattle.model.specs.Frames.{size_of}
use Rattle.model.specs.Keys.{key_permits}
use Rattle.model.specs.Names.{base_name}
use Rattle.model.specs.Searches.{is_unused, slot_of, slot_named, primary_slot, data_spaces, free_slot, free_run, free_entry}
use Rattle.model.specs.Tables.{space_at, guest_at, cpu_at, cpu_place, entry_at}
use Rattle.model.specs.Tokens.{malformed, assigned, entry_number, token_used}
use Rattle.model.specs.Translation.{Translation, through_standing, translate}
use Rattle.model.specs.Verdict.{own_row, row}
use Rattle.model.proofs.Tokens.{assigned_used}
use Rattle.model.proofs.Reached.{slot_in, right_in}

-- A check, with the number that a call answers where it fails. A call's answer is that of the first that fails.
pub record Check : Type 0 where
  pub answer : ℕ
  pub passes : Bool

abbrev pub test : (answer : ℕ) → Bool → Check
test a b = record { answer = a; passes = b }

unfoldable pub first_failed : List Check → ℕ
first_failed [] = 0
first_failed (c ∷ cs) = choose c.passes (first_failed cs) c.answer

-- The checks after 1, 2 and those of the arguments, in the order of the call's row.
module _ (s : State) (g : ℕ) where
  -- ENROL and CREATE: "9, 11, 10"
  abbrev making_checks : (pages : ℕ) → List Check
  making_checks pages = test 9 (ltb (free_slot s.spaces) 32) ∷ test 11 (ltb s.next 65536) ∷ test 10 (ltb (free_run s pages) s.frames) ∷ []

  -- DESTROY, PERMIT, ISOLATE and BLOCK: "5, 6"
  abbrev owning_checks : (id : ℕ) → List Check → List Check
  owning_checks i more =
      test 5 (ltb (slot_of s.spaces i) 32) ∷ test 6 (eqb (space_at s.spaces (slot_of s.spaces i)).owner g) ∷ more

-- FETCH and STORE: "14, 15, 16, 17, 18", of which 18 is a store's alone, and 22 "after 18". What the token names is read where it
-- names something.
abbrev is_revoked : Standing → Bool
is_revoked Unused = false
is_revoked (Valid u r) = false
is_revoked Revoked = true

abbrev store_checks : (storing : Bool) → Right → List Check → List Check
store_checks true r more = test 18 (writes r) ∷ more
store_checks false r more = more

abbrev access_checks : State → (guest key token address buffer : ℕ) → (storing : Bool) → Translation → List Check
access_checks s g key t a n storing x =
    test 14 (not (malformed t))
    ∷ test 15 (either (eqb t 0) (assigned s.entries g (guest_at s.guests g).list t))
    ∷ test 16 (either (eqb t 0) (not (is_revoked (entry_at s.entries g (entry_number t)).standing)))
    ∷ test 17 (leb (a + n) (size_of s.spaces (slot_in x)))
    ∷ store_checks storing (right_in x) (test 22 (key_permits s storing key (slot_in x) a n) ∷ [])

abbrev transfer_checks : State → Caller → (register address buffer : ℕ) → (storing : Bool) → List Check
transfer_checks s c r a n storing = access_checks s c.guest (access_key s c) (token_used (cpu_at s.cpus (cpu_place c)) r) a n storing (target s c r)

abbrev pub own_checks : State → Caller → Operation → (buffer : ℕ) → List Check
own_checks s c (Enrol x) n = making_checks s c.guest x.pages
own_checks s c (Create name pages) n =
    test 4 (leb 32 (slot_named s.spaces c.guest name))
    ∷ test 8 (not (eqb (data_spaces s.spaces c.guest) (guest_at s.guests c.guest).allowance))
    ∷ making_checks s c.guest pages
own_checks s c (Destroy id) n =
    owning_checks s c.guest id (test 20 (not (eqb (space_at s.spaces (slot_of s.spaces id)).name base_name)) ∷ [])
own_checks s c (Permit id guest right) n = owning_checks s c.guest id (test 7 (guest_at s.guests c.guest).share ∷ [])
own_checks s c (Isolate id) n = owning_checks s c.guest id []
own_checks s c (Query owner name) n =
    test 5 (both (ltb (slot_named s.spaces owner name) 32) (entitled s c.guest (slot_named s.spaces owner name) Read)) ∷ []
own_checks s c (Add id right) n =
    test 5 (ltb (slot_of s.spaces id) 32)
    ∷ test 12 (entitled s c.guest (slot_of s.spaces id) right)
    ∷ test 13 (ltb (free_entry s.entries c.guest (guest_at s.guests c.guest).list) (guest_at s.guests c.guest).list)
    ∷ []
own_checks s c (Remove token) n =
    test 14 (not (either (eqb token 0) (malformed token)))
    ∷ test 15 (assigned s.entries c.guest (guest_at s.guests c.guest).list token)
    ∷ []
own_checks s c (Load register value) n = []
own_checks s c (Mode m) n = test 19 (implies (eqb m 1) (guest_at s.guests c.guest).asf) ∷ []
own_checks s c (Fetch register address) n = transfer_checks s c register address n false
own_checks s c (Store register address) n = transfer_checks s c register address n true
own_checks s c Reset n = []
own_checks s c (Key key) n = []
own_checks s c (Block id address key mark) n =
    owning_checks s c.guest id (test 17 (ltb address (size_of s.spaces (slot_of s.spaces id))) ∷ [])

-- "All check 1, then 2 first"; then each argument, from left to right
abbrev argument_checks : List Argument → List Check → List Check
argument_checks [] more = more
argument_checks (a ∷ rest) more = test (limit_number a.kind) a.fits ∷ argument_checks rest more

abbrev pub checks : State → (scratch : ℕ) → Call → (buffer : ℕ) → List Check
checks s m k n =
    test 1 (ready s m)
    ∷ test 2 (good_caller s k.caller k.operation)
    ∷ argument_checks (arguments s.guests k.caller k.operation n) (own_checks s k.caller k.operation n)

none_failed : 0 ≡ first_failed []
unfolding first_failed
none_failed = refl

-- a check that passes is passed over, one that fails gives its answer
pass : {x : ℕ} (a : ℕ) (b : Bool) (cs : List Check) → b ≡ true → x ≡ first_failed cs → x ≡ first_failed (test a b ∷ cs)
unfolding first_failed
pass a b cs e q = q ∙ sym (yes! _ a e)

stop : (a : ℕ) (b : Bool) (cs : List Check) → b ≡ false → a ≡ first_failed (test a b ∷ cs)
unfolding first_failed
stop a b cs e = sym (no! (first_failed cs) a e)

first : (b : Bool) (a : Answer) (d : Decision) (cs : List Check) → number d.answer ≡ first_failed cs → number (check b a d).answer ≡ first_failed (test (number a) b ∷ cs)
unfolding check
first true a d cs e = pass (number a) true cs refl e
first false a d cs e = stop (number a) false cs refl

first_limits : (args : List Argument) (d : Decision) (cs : List Check) → number d.answer ≡ first_failed cs → number (check_all args d).answer ≡ first_failed (argument_checks args cs)
unfolding check_all number
first_limits [] d cs e = e
first_limits (a ∷ more) d cs e = first a.fits _ _ (argument_checks more cs) (first_limits more d cs e)

first_store : (storing : Bool) (r : Right) (d : Decision) (cs : List Check) → number d.answer ≡ first_failed cs
    → number (check (implies storing (writes r)) Protection d).answer ≡ first_failed (store_checks storing r cs)
unfolding implies check number
first_store true r d cs e = first (writes r) Protection d cs e
first_store false r d cs e = e

-- FETCH and STORE, by what the token is
module _ (s : State) (g key t a n : ℕ) (storing : Bool) (f : ℕ → Effect) where
  abbrev Fine : Translation → Type 0
  Fine x = number (access s key a n storing f x).answer ≡ first_failed (access_checks s g key t a n storing x)

  first_inside : (u : ℕ) (r : Right) → number (access_at s key a n storing (f u) u r).answer
      ≡ first_failed (test 17 (leb (a + n) (size_of s.spaces u)) ∷ store_checks storing r (test 22 (key_permits s storing key u a n) ∷ []))
  unfolding access_at number
  first_inside u r = first _ Addressing _ _ (first_store storing r _ _ (first _ KeyProtection _ [] none_failed))

  first_access : Fine (translate s g t)
  unfolding translate through_standing access number malformed is_unused
  first_access =
      choose_elim Fine (eqb t 0) _ _
      (λ z. pass 14 _ _ (ap not (both_no _ (ap not z))) (pass 15 _ _ (either_left _ _ z) (pass 16 _ _ (either_left _ _ z) (first_inside (primary_slot s.spaces g) Write))))
      (λ z. choose_elim Fine (malformed t) _ _ (λ m. stop 14 _ _ (ap not m))
      (λ m. choose_elim Fine (not listed) _ _ (λ l. pass 14 _ _ (ap not m) (stop 15 _ _ (either_none _ _ z (not_to listed l))))
      (λ l. pass 14 _ _ (ap not m) (pass 15 _ _ (either_right _ _ (not-false listed l)) (through z (not-false listed l) standing refl)))))
    where
      listed : Bool
      listed = assigned s.entries g (guest_at s.guests g).list t

      standing : Standing
      standing = (entry_at s.entries g (entry_number t)).standing

      through : eqb t 0 ≡ false → listed ≡ true → (x : Standing) → standing ≡ x → number (access s key a n storing f (through_standing x)).answer
          ≡ first_failed (test 16 (either (eqb t 0) (not (is_revoked standing))) ∷ test 17 (leb (a + n) (size_of s.spaces (slot_in (through_standing x)))) ∷ store_checks storing (right_in (through_standing x)) (test 22 (key_permits s storing key (slot_in (through_standing x)) a n) ∷ []))
      through z l Unused e = true_false (ap is_unused e) (assigned_used s.entries g (guest_at s.guests g).list t l)
      through z l (Valid u r) e = pass 16 _ _ (either_right _ _ (ap (λ y. not (is_revoked y)) e)) (first_inside u r)
      through z l Revoked e = stop 16 _ _ (either_none _ _ z (ap (λ y. not (is_revoked y)) e))

-- Any call after the checks 1 and 2 and those of its arguments, and any call.
module _ (s : State) (c : Caller) where
  first_performed : (k : Operation) (n : ℕ) → number (perform s c k n).answer ≡ first_failed (own_checks s c k n)
  unfolding perform enrol create making owning destroy permit isolate query add remove load mode fetching storing reset target set_key block number
  first_performed (Enrol x) n = first _ SlotsUsed _ _ (first _ NoIdentification _ _ (first _ NoRun _ [] none_failed))
  first_performed (Create name pages) n =
      first _ NameTaken _ _ (first _ AllowanceUsed _ _ (first _ SlotsUsed _ _ (first _ NoIdentification _ _ (first _ NoRun _ [] none_failed))))
  first_performed (Destroy id) n = first _ NoSpace _ _ (first _ NotOwner _ _ (first _ PrimarySpace _ [] none_failed))
  first_performed (Permit id guest right) n = first _ NoSpace _ _ (first _ NotOwner _ _ (first _ NoSharing _ [] none_failed))
  first_performed (Isolate id) n = first _ NoSpace _ _ (first _ NotOwner _ [] none_failed)
  first_performed (Query owner name) n = first _ NoSpace _ [] none_failed
  first_performed (Add id right) n = first _ NoSpace _ _ (first _ NotPermitted _ _ (first _ ListFull _ [] none_failed))
  first_performed (Remove token) n = first _ AletSpecification _ _ (first _ AlenTranslation _ [] none_failed)
  first_performed (Load register value) n = none_failed
  first_performed (Mode m) n = first _ SpecialOperation _ [] none_failed
  first_performed (Fetch register address) n = first_access s c.guest _ _ address n false _
  first_performed (Store register address) n = first_access s c.guest _ _ address n true _
  first_performed Reset n = none_failed
  first_performed (Key key) n = none_failed
  first_performed (Block id address key mark) n = first _ NoSpace _ _ (first _ NotOwner _ _ (first _ Addressing _ [] none_failed))

pub answer_first : (s : State) (m : ℕ) (k : Call) (n : ℕ) → number (decide s m k n).answer ≡ first_failed (checks s m k n)
unfolding decide judge number
answer_first s m k n =
    first _ Unsound _ _ (first _ BadCaller _ _
    (first_limits (arguments s.guests k.caller k.operation n) _ _ (first_performed s k.caller k.operation n)))

-- A call's row has the numbers of its checks, in their order, and no other.
abbrev numbers : List Check → List ℕ
numbers [] = []
numbers (c ∷ cs) = c.answer ∷ numbers cs

own_row_lem : (s : State) (c : Caller) (k : Operation) (n : ℕ) → own_row k ≡ numbers (argument_checks (arguments s.guests c k n) (own_checks s c k n))
unfolding own_row arguments limit_number
own_row_lem s c (Enrol x) n = refl
own_row_lem s c (Create name pages) n = refl
own_row_lem s c (Destroy id) n = refl
own_row_lem s c (Permit id guest right) n = refl
own_row_lem s c (Isolate id) n = refl
own_row_lem s c (Query owner name) n = refl
own_row_lem s c (Add id right) n = refl
own_row_lem s c (Remove token) n = refl
own_row_lem s c (Load register value) n = refl
own_row_lem s c (Mode m) n = refl
own_row_lem s c (Fetch register address) n = refl
own_row_lem s c (Store register address) n = refl
own_row_lem s c Reset n = refl
own_row_lem s c (Key key) n = refl
own_row_lem s c (Block id address key mark) n = refl

pub row_checks : (s : State) (m : ℕ) (k : Call) (n : ℕ) → row k.operation ≡ 0 ∷ numbers (checks s m k n)
unfolding row
row_checks s m k n = ap (λ r. 0 ∷ 1 ∷ 2 ∷ r) (own_row_lem s k.caller k.operation n)

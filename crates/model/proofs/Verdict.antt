-- Every call's verdict: one law over all calls, from one law about a check. Assumes nothing.
use Prim.Native.Nat.{ℕ, ◌+◌, ◌≤◌}
use mathlib.Core.Bool.{Bool, true, false, not}
use Rattle.std.specs.Prelude.{Ok, Err}
use mathlib.Core.List.{List, [], ◌∷◌}
use mathlib.Core.Path.{◌≡◌, refl, ap}
use native.Mathlib.Omega.{arith}
use lib.Dec.{leb, ltb, eqb}
use borrow.Author.Tests.{eqb-true, eqb-false, eq-eqb, ne_eqb, leb-true, ltb-true}
use Rattle.lists.specs.Choice.{both, either, implies}
use Rattle.lists.proofs.Choice.{true_false, not_to, both_left, both_right, either_not_left, either_not_right, implies_to, implies_not, choose_elim}
use Rattle.model.specs.declared.Answer.{Answer}
use Rattle.model.specs.declared.Answer.TheVariants.{Unsound, BadCaller, Limit, NameTaken, NoSpace, NotOwner, NoSharing, AllowanceUsed, SlotsUsed, NoRun, NoIdentification, NotPermitted, ListFull, AletSpecification, AlenTranslation, AddressingCapability, Addressing, Protection, SpecialOperation, PrimarySpace, KeyProtection}
use Rattle.model.specs.declared.Call.{Call}
use Rattle.model.specs.declared.Caller.{Caller}
use Rattle.model.specs.declared.Change.{Change}
use Rattle.model.specs.declared.Change.TheVariants.{Keep}
use Rattle.model.specs.declared.Kind.{Kind}
use Rattle.model.specs.declared.Operation.{Operation}
use Rattle.model.specs.declared.Operation.TheVariants.{Enrol, Create, Destroy, Permit, Isolate, Query, Add, Remove, Load, Mode, Fetch, Store, Reset, Key, Block}
use Rattle.model.specs.declared.Right.{Right}
use Rattle.model.specs.declared.Right.TheVariants.{Read}
use Rattle.model.specs.declared.Standing.{Standing}
use Rattle.model.specs.declared.Standing.TheVariants.{Unused, Valid, Revoked}
use Rattle.model.specs.declared.State.{State}
use Rattle.model.specs.Answers.{limit_number, names_argument, number}
use Rattle.model.specs.Arguments.{Argument, arguments, check_all}
use Rattle.model.specs.Calls.{making, enrol, create, owning, destroy, permit, isolate, entitled, query, add, remove, load, mode, writes, access_at, access, target, access_key, fetching, storing, reset, set_key, block, perform, good_caller, judge, ready, decide}
use Rattle.model.specs.Decision.{Decision, Effect, fetch, store, refuse, accept, check}
use Rattle.model.specs.Frames.{size_of}
use Rattle.model.specs.Granted.{Made, Owning, Accessed, Performed, AllFit, Granted}
use Rattle.model.specs.Keys.{key_permits}
use Rattle.model.specs.Names.{base_name}
use Rattle.model.specs.Searches.{slot_of, slot_named, data_spaces, free_slot, free_run, free_entry}
use Rattle.model.specs.Tables.{space_at, guest_at, entry_at}
use Rattle.model.specs.Tokens.{malformed, assigned, entry_number}
use Rattle.model.specs.Translation.{Translation, reaches, through_standing, translate}
use Rattle.model.specs.Verdict.{row, own_row, listed, Verdict, refused, granted}
use Rattle.model.proofs.Answers.{argument_named}

-- a check refuses with its own answer, or the rest decides
pub check_verdict : (row : List ℕ) (Good : Decision → Type 0) (b : Bool) (a : Answer) (d : Decision)
    → eqb (number a) 0 ≡ false → listed (number a) row ≡ true → (b ≡ true → Verdict row Good d) → Verdict row Good (check b a d)
unfolding check
check_verdict row Good true a d n l k = k refl
check_verdict row Good false a d n l k = refused (record { answer = a; not_done = n; listed = l; is = refl })

pub verdict_map : {row : List ℕ} {P Q : Decision → Type 0} {d : Decision} → (P d → Q d) → Verdict row P d → Verdict row Q d
verdict_map f (refused r) = refused r
verdict_map f (granted p) = granted (f p)

-- whether the row has the number of each argument's kind
abbrev lists_kinds : List Argument → List ℕ → Bool
lists_kinds [] row = true
lists_kinds (a ∷ more) row = both (listed (limit_number a.kind) row) (lists_kinds more row)

not_done : (k : Kind) → eqb (limit_number k) 0 ≡ false
unfolding names_argument both
not_done k = ne_eqb (limit_number k) 0 (λ e. true_false (argument_named k) (ap names_argument e))

check_all_lem : (row : List ℕ) (Good : Decision → Type 0) (args : List Argument) (d : Decision) → lists_kinds args row ≡ true → (AllFit args → Verdict row Good d) → Verdict row Good (check_all args d)
unfolding check_all AllFit number
check_all_lem row Good [] d l k = k tt
check_all_lem row Good (a ∷ more) d l k =
    check_verdict row Good a.fits (Limit a.kind a.place) (check_all more d) (not_done a.kind) (both_left _ _ l) (λ e.
    check_all_lem row Good more d (both_right (listed (limit_number a.kind) row) _ l) (λ fit. k (e, fit)))

-- The calls after the checks 1 and 2 and those of the arguments.
module _ (s : State) (row : List ℕ) where
  making_verdict : (pages : ℕ) (c : Change) → listed 9 row ≡ true → listed 11 row ≡ true → listed 10 row ≡ true → Verdict row (Made s pages c) (making s pages c)
  unfolding making number
  making_verdict pages c l9 l11 l10 =
      check_verdict row (Made s pages c) (ltb (free_slot s.spaces) 32) SlotsUsed _ refl l9 (λ e1.
      check_verdict row (Made s pages c) (ltb s.next 65536) NoIdentification _ refl l11 (λ e2.
      check_verdict row (Made s pages c) (ltb (free_run s pages) s.frames) NoRun _ refl l10 (λ e3.
      granted (record { slot = ltb-true _ _ e1; next = ltb-true _ _ e2; run = ltb-true _ _ e3; is = refl }))))

  owning_verdict : (Good : Decision → Type 0) (g u : ℕ) (d : Decision) → listed 5 row ≡ true → listed 6 row ≡ true → (Owning s g u → Verdict row Good d) → Verdict row Good (owning s g u d)
  unfolding owning number
  owning_verdict Good g u d l5 l6 k =
      check_verdict row Good (ltb u 32) NoSpace _ refl l5 (λ e1.
      check_verdict row Good (eqb (space_at s.spaces u).owner g) NotOwner _ refl l6 (λ e2.
      k (record { slot = ltb-true _ _ e1; owner = eqb-true _ _ e2 })))

-- translation refuses with one of three answers
refusal_elim : (P : Answer → Type 0) → P AletSpecification → P AlenTranslation → P AddressingCapability → (s : State) (g t : ℕ) (a : Answer) → translate s g t ≡ Err a → P a
unfolding translate through_standing
refusal_elim P p14 p15 p16 s g t a =
    choose_elim Fine (eqb t 0) _ _ (λ _ e. absurd (let z : ◌≡◌ {A = ℕ} 0 1 = cc in omega arith)) (λ _.
    choose_elim Fine (malformed t) _ _ (λ _ e. let q : AletSpecification ≡ a = cc in rw (← q) p14) (λ _.
    choose_elim Fine (not (assigned s.entries g (guest_at s.guests g).list t)) _ _ (λ _ e. let q : AlenTranslation ≡ a = cc in rw (← q) p15) (λ _.
    through (entry_at s.entries g (entry_number t)).standing)))
  where
    Fine : Translation → Type 0
    Fine x = x ≡ Err a → P a

    through : (x : Standing) → Fine (through_standing x)
    through Unused e = let q : AlenTranslation ≡ a = cc in rw (← q) p15
    through (Valid u r) e = absurd (let z : ◌≡◌ {A = ℕ} 0 1 = cc in omega arith)
    through Revoked e = let q : AddressingCapability ≡ a = cc in rw (← q) p16

refusal : (row : List ℕ) (Good : Decision → Type 0) (a : Answer) → eqb (number a) 0 ≡ false → listed (number a) row ≡ true → Verdict row Good (refuse a)
refusal row Good a n l = refused (record { answer = a; not_done = n; listed = l; is = refl })

module _ (s : State) (c : Caller) (row : List ℕ) (r a n : ℕ) (storing : Bool) (f : ℕ → Effect) where
  abbrev Fetched : Decision → Type 0
  Fetched = Accessed s c r a n storing f

  access_verdict : listed 14 row ≡ true → listed 15 row ≡ true → listed 16 row ≡ true → listed 17 row ≡ true → (storing ≡ true → listed 18 row ≡ true) → listed 22 row ≡ true
      → Verdict row Fetched (access s (access_key s c) a n storing f (target s c r))
  unfolding access access_at number check target
  access_verdict l14 l15 l16 l17 l18 l22 = go (target s c r) refl
    where
      protect : (u : ℕ) (x : Right) → target s c r ≡ reaches u x → a + n ≤ size_of s.spaces u → (b : Bool) → implies storing (writes x) ≡ b
          → Verdict row Fetched (check b Protection (check (key_permits s storing (access_key s c) u a n) KeyProtection (accept 0 Keep (f u))))
      protect u x e i true w =
          check_verdict row Fetched (key_permits s storing (access_key s c) u a n) KeyProtection _ refl l22 (λ k.
          granted (record { slot = u; right = x; reached = e; inside = i; writable = implies_to storing (writes x) w; key = k; is = refl }))
      protect u x e i false w = refusal row Fetched Protection refl (l18 (implies_not storing (writes x) w))

      go : (t : Translation) → target s c r ≡ t → Verdict row Fetched (access s (access_key s c) a n storing f t)
      go (Ok x) e =
          check_verdict row Fetched (leb (a + n) (size_of s.spaces x.slot)) Addressing _ refl l17 (λ i.
          protect x.slot x.right e (leb-true _ _ i) (implies storing (writes x.right)) refl)
      go (Err x) e =
          refusal_elim (λ y. Verdict row Fetched (refuse y))
          (refusal row Fetched AletSpecification refl l14)
          (refusal row Fetched AlenTranslation refl l15)
          (refusal row Fetched AddressingCapability refl l16)
          s _ _ x e

-- Any call after the checks 1 and 2 and those of its arguments.
module _ (s : State) (c : Caller) where
  abbrev Fine : Operation → ℕ → Type 0
  Fine k n = Verdict (row k) (Performed s c k n) (perform s c k n)

  performed : (k : Operation) (n : ℕ) → Fine k n
  unfolding perform Performed row own_row listed number either enrol create destroy permit isolate query add remove load mode fetching storing reset set_key block
  performed (Enrol x) n = making_verdict s _ x.pages _ refl refl refl
  performed (Create name pages) n =
      check_verdict _ _ (leb 32 (slot_named s.spaces c.guest name)) NameTaken _ refl refl (λ e1.
      check_verdict _ _ (not (eqb (data_spaces s.spaces c.guest) (guest_at s.guests c.guest).allowance)) AllowanceUsed _ refl refl (λ e2.
      verdict_map (λ m. record { new = leb-true _ _ e1; room = eqb-false _ _ (not_to _ e2); made = m }) (making_verdict s _ pages _ refl refl refl)))
  performed (Destroy id) n =
      owning_verdict s _ _ c.guest (slot_of s.spaces id) _ refl refl (λ o.
      check_verdict _ _ (not (eqb (space_at s.spaces (slot_of s.spaces id)).name base_name)) PrimarySpace _ refl refl (λ e.
      granted (record { owning = o; not_primary = eqb-false _ _ (not_to _ e); is = refl })))
  performed (Permit id guest right) n =
      owning_verdict s _ _ c.guest (slot_of s.spaces id) _ refl refl (λ o.
      check_verdict _ _ (guest_at s.guests c.guest).share NoSharing _ refl refl (λ e.
      granted (record { owning = o; sharing = e; is = refl })))
  performed (Isolate id) n =
      owning_verdict s _ _ c.guest (slot_of s.spaces id) _ refl refl (λ o. granted (record { owning = o; is = refl }))
  performed (Query owner name) n =
      check_verdict _ _ (both (ltb (slot_named s.spaces owner name) 32) (entitled s c.guest (slot_named s.spaces owner name) Read)) NoSpace _ refl refl (λ e.
      granted (record { slot = ltb-true _ _ (both_left _ _ e); right = both_right (ltb (slot_named s.spaces owner name) 32) _ e; is = refl }))
  performed (Add id right) n =
      check_verdict _ _ (ltb (slot_of s.spaces id) 32) NoSpace _ refl refl (λ e1.
      check_verdict _ _ (entitled s c.guest (slot_of s.spaces id) right) NotPermitted _ refl refl (λ e2.
      check_verdict _ _ (ltb (free_entry s.entries c.guest (guest_at s.guests c.guest).list) (guest_at s.guests c.guest).list) ListFull _ refl refl (λ e3.
      granted (record { slot = ltb-true _ _ e1; right = e2; room = ltb-true _ _ e3; is = refl }))))
  performed (Remove token) n =
      check_verdict _ _ (not (either (eqb token 0) (malformed token))) AletSpecification _ refl refl (λ e1.
      check_verdict _ _ (assigned s.entries c.guest (guest_at s.guests c.guest).list token) AlenTranslation _ refl refl (λ e2.
      let f = not_to (either (eqb token 0) (malformed token)) e1 in
      granted (record { not_zero = eqb-false _ _ (either_not_left (eqb token 0) (malformed token) f); formed = either_not_right (eqb token 0) (malformed token) f; assigned = e2; is = refl })))
  performed (Load register value) n = granted (record { is = refl })
  performed (Mode m) n =
      check_verdict _ _ (implies (eqb m 1) (guest_at s.guests c.guest).asf) SpecialOperation _ refl refl (λ e.
      granted (record { asf = λ q. implies_to (eqb m 1) _ e (eq-eqb m 1 q); is = refl }))
  performed (Fetch register address) n = access_verdict s c _ register address n false (λ u. fetch u address) refl refl refl refl (λ e. true_false e refl) refl
  performed (Store register address) n = access_verdict s c _ register address n true (λ u. store u address) refl refl refl refl (λ _. refl) refl
  performed Reset n = granted (record { is = refl })
  performed (Key key) n = granted (record { is = refl })
  performed (Block id address key mark) n =
      owning_verdict s _ _ c.guest (slot_of s.spaces id) _ refl refl (λ o.
      check_verdict _ _ (ltb address (size_of s.spaces (slot_of s.spaces id))) Addressing _ refl refl (λ e.
      granted (record { owning = o; inside = ltb-true _ _ e; is = refl })))

  -- the row of each call has the numbers of its arguments
  lists_kinds_lem : (k : Operation) (n : ℕ) → lists_kinds (arguments s.guests c k n) (row k) ≡ true
  unfolding arguments row own_row listed limit_number both either
  lists_kinds_lem (Enrol x) n = refl
  lists_kinds_lem (Create name pages) n = refl
  lists_kinds_lem (Destroy id) n = refl
  lists_kinds_lem (Permit id guest right) n = refl
  lists_kinds_lem (Isolate id) n = refl
  lists_kinds_lem (Query owner name) n = refl
  lists_kinds_lem (Add id right) n = refl
  lists_kinds_lem (Remove token) n = refl
  lists_kinds_lem (Load register value) n = refl
  lists_kinds_lem (Mode m) n = refl
  lists_kinds_lem (Fetch register address) n = refl
  lists_kinds_lem (Store register address) n = refl
  lists_kinds_lem Reset n = refl
  lists_kinds_lem (Key key) n = refl
  lists_kinds_lem (Block id address key mark) n = refl

-- Check 2, the checks of the arguments, and the call.
record Judged (s : State) (k : Call) (n : ℕ) (d : Decision) : Type 0 where
  caller : good_caller s k.caller k.operation ≡ true
  arguments : AllFit (arguments s.guests k.caller k.operation n)
  performed : Performed s k.caller k.operation n d

judged_all : (s : State) (k : Call) (n : ℕ) → Verdict (row k.operation) (Judged s k n) (judge s k n)
unfolding judge number row listed either
judged_all s k n =
    check_verdict _ _ (good_caller s k.caller k.operation) BadCaller _ refl refl (λ e2.
    check_all_lem _ _ (arguments s.guests k.caller k.operation n) _ (lists_kinds_lem s k.caller k.operation n) (λ e3.
    verdict_map (λ p. record { caller = e2; arguments = e3; performed = p }) (performed s k.caller k.operation n)))

pub judged : (s : State) (k : Call) (n : ℕ) → Verdict (row k.operation) (Performed s k.caller k.operation n) (judge s k n)
judged s k n = verdict_map (λ (g : Judged s k n (judge s k n)). g.performed) (judged_all s k n)

-- Every call, on every state, with every argument and buffer.
pub verdict : (s : State) (m : ℕ) (k : Call) (n : ℕ) → Verdict (row k.operation) (Granted s m k n) (decide s m k n)
unfolding decide number row listed either
verdict s m k n =
    check_verdict _ _ (ready s m) Unsound _ refl refl (λ e1.
    verdict_map (λ (g : Judged s k n (judge s k n)). record { ready = e1; caller = g.caller; arguments = g.arguments; performed = g.performed }) (judged_all s k n))

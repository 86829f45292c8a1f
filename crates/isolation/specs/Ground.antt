-- Demand 3's second half: in every list from a fresh state, each fetch or store that reaches a space has a ground in the calls
-- before it. It is by the owner, or through an entry that the guest added after the owner permitted it that much. The ground that
-- the record has for a fetch or store, in the words of "Demand 3, word by word". A record has its latest call first.
use Rattle.std.specs.Prelude.{ℕ, ◌<◌, true, List, [], ◌∷◌, ◌++◌, ◌⊎◌, ◌≡◌}
use Rattle.model.specs.declared.Operation.{Operation}
use Rattle.model.specs.declared.Right.{Right}
use Rattle.model.specs.declared.Right.TheVariants.{Read, Write}
use Rattle.model.specs.Classes.{is_store}
use Rattle.model.specs.Fresh.{empty_tables}
use Rattle.model.specs.Step.{Ready, Issue, after_run}
use Rattle.isolation.specs.History.{Event, Deed, enrolled, created, permitted, isolated, added, removed, reset, deed, recorded}
use Rattle.isolation.specs.Reaches.{Through, Reaches}
use Rattle.isolation.specs.Recall.{used_in}

-- no call of the record did a deed of which P holds
abbrev pub Never : (Deed → Type 0) → List Event → Type 0
Never P [] = Unit {0}
Never P (e ∷ h) = (P (deed e) → ⊥) × Never P h

-- A call of the record did this deed. A record has its latest call first, as it grows at its head: so what came later stands in
-- front of the call, and what came earlier behind it.
pub record Did (h : List Event) (d : Deed) : Type 0 where
  pub later : List Event
  pub event : Event
  pub earlier : List Event
  pub split : h ≡ later ++ (event ∷ earlier)
  pub is : deed event ≡ d

-- "A space's owner is the guest whose ENROL or CREATE gave its identification."
abbrev pub Owns : List Event → (guest id : ℕ) → Type 0
Owns h g x = Did h (enrolled g x) ⊎ Did h (created g x)

-- a right that is at least another: write includes read
abbrev pub AtLeast : (given asked : Right) → Type 0
AtLeast Read Read = Unit {0}
AtLeast Read Write = ⊥
AtLeast Write r = Unit {0}

-- the guest adds the token again, removes it, or resets
abbrev pub GivesUp : (guest token : ℕ) → Deed → Type 0
GivesUp g t d = ((x : ℕ) × (r : Right) × (d ≡ added g x r t)) ⊎ ((d ≡ removed g t) ⊎ (d ≡ reset g))

-- the space is isolated, or its owner resets
abbrev pub Withdraws : (owner id : ℕ) → Deed → Type 0
Withdraws o x d = ((g : ℕ) × (d ≡ isolated g x)) ⊎ (d ≡ reset o)

-- "a PERMIT of that space to it by the owner, with at least the ADD's right, came before that ADD, with no ISOLATE of that
-- space and no RESET by the owner since that PERMIT". `after_add` is what was recorded since the ADD, `before_add` what before it;
-- so "since that PERMIT" is from the PERMIT to the ADD (`since`) and from the ADD on (`since_add`).
pub record PermittedBefore (after_add before_add : List Event) (owner guest id : ℕ) (asked : Right) : Type 0 where
  pub right : Right
  pub did : Did before_add (permitted owner id guest right)
  pub enough : AtLeast right asked
  pub since : Never (Withdraws owner id) did.later
  pub since_add : Never (Withdraws owner id) after_add

-- "Else it is that of the guest's last ADD with this token as value; for a store, that ADD was made with W; and the guest has
-- made no REMOVE of the token and no RESET since. If the guest isn't the owner, a PERMIT .."
pub record ByEntry (h : List Event) (operation : Operation) (guest token id : ℕ) : Type 0 where
  pub right : Right
  pub did : Did h (added guest id right token)
  pub last : Never (GivesUp guest token) did.later
  pub write : is_store operation ≡ true → right ≡ Write
  pub owner : ℕ
  pub owns : Owns h owner id
  pub basis : (owner ≡ guest) ⊎ PermittedBefore did.later did.earlier owner guest id right

-- "For token 0 the space reached is that of the guest's ENROL."
pub record Ground (h : List Event) (i : Issue) (id : ℕ) : Type 0 where
  pub register : ℕ
  pub through : Through i.call.operation register
  pub way : ((used_in h i.call.caller register ≡ 0) × Did h (enrolled i.call.caller.guest id))
      ⊎ ((used_in h i.call.caller register ≡ 0 → ⊥) × ByEntry h i.call.operation i.call.caller.guest (used_in h i.call.caller register) id)

-- The claim: for every list from a fresh state of any F with any scratch, whatever call comes next.
abbrev pub Grounded : Type 0
Grounded =
    (F : ℕ) (scratch : List ℕ) (calls : List Issue) (next : Issue) (id : ℕ)
    → Ready (record { tables = empty_tables F 1; scratch = scratch })
    → Reaches (after_run (record { tables = empty_tables F 1; scratch = scratch }) calls) next id
    → Ground (recorded [] (record { tables = empty_tables F 1; scratch = scratch }) calls) next id

-- "Every space ever made gets the next identification .. never given twice": each identification given is above all that were
-- given before it, so a space's owner is one guest.
abbrev pub Gives : Deed → (id : ℕ) → Type 0
Gives d x = (g : ℕ) × ((d ≡ enrolled g x) ⊎ (d ≡ created g x))

unfoldable pub Rising : List Event → Type 0
Rising [] = Unit {0}
Rising (e ∷ h) = ((x g y : ℕ) → Gives (deed e) x → Owns h g y → y < x) × Rising h

abbrev pub RisingIds : Type 0
RisingIds =
    (F : ℕ) (scratch : List ℕ) (calls : List Issue)
    → Ready (record { tables = empty_tables F 1; scratch = scratch })
    → Rising (recorded [] (record { tables = empty_tables F 1; scratch = scratch }) calls)

abbrev pub OneOwner : Type 0
OneOwner = (h : List Event) (g o x : ℕ) → Rising h → Owns h g x → Owns h o x → g ≡ o

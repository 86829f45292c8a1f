-- What answer 0 implies, call by call: the checks that were passed, and what was then decided. The laws of the calls and
-- the claims about whole lists lean on these alone.
use Rattle.std.specs.Prelude.{ℕ, ◌+◌, ◌/◌, ◌≤◌, ◌<◌, Bool, true, false, List, [], ◌∷◌, ◌≢◌, ◌≡◌, eqb}
use Rattle.model.specs.declared.Call.{Call}
use Rattle.model.specs.declared.Caller.{Caller}
use Rattle.model.specs.declared.Change.{Change}
use Rattle.model.specs.declared.Change.TheVariants.{Keep, SetPermit, SetEntry, SetRegister, SetMode, DestroySpace, IsolateSpace, ResetGuest, SetKey, SetCell}
use Rattle.model.specs.declared.Operation.{Operation}
use Rattle.model.specs.declared.Operation.TheVariants.{Enrol, Create, Destroy, Permit, Isolate, Query, Add, Remove, Load, Mode, Fetch, Store, Reset, Key, Block}
use Rattle.model.specs.declared.Right.{Right}
use Rattle.model.specs.declared.Right.TheVariants.{Read}
use Rattle.model.specs.declared.Standing.TheVariants.{Valid}
use Rattle.model.specs.declared.State.{State}
use Rattle.model.specs.Arguments.{Argument, arguments}
use Rattle.model.specs.Calls.{enrolling, creating, destroying, entitled, writes, target, access_key, good_caller, ready}
use Rattle.model.specs.Changes.{raised, released, applied}
use Rattle.model.specs.Decision.{Decision, Effect, none, clear, fetch, store, accept, done}
use Rattle.model.specs.Frames.{layout, frame_of, size_of, has_frame}
use Rattle.model.specs.Keys.{key_permits}
use Rattle.model.specs.Names.{base_name}
use Rattle.model.specs.Searches.{is_data, slot_of, slot_named, data_spaces, free_slot, free_run, free_entry}
use Rattle.model.specs.Sizes.{slot_count, frame_size, spent_identification}
use Rattle.model.specs.Tables.{space_at, guest_at, cpu_place, grant_at, permit_place, entry_at, entry_place}
use Rattle.model.specs.Tokens.{token, entry_number, malformed, assigned}
use Rattle.model.specs.Translation.{reaches}

-- a space was made
pub record Made (s : State) (pages : ℕ) (c : Change) (d : Decision) : Type 0 where
  pub slot : free_slot s.spaces < slot_count
  pub next : s.next < spent_identification
  pub run : free_run s pages < s.frames
  pub is : d ≡ accept s.next c (clear (has_frame (layout (applied s c)) (applied s c).spaces (free_slot s.spaces)))

pub record Created (s : State) (g name pages : ℕ) (d : Decision) : Type 0 where
  pub new : slot_count ≤ slot_named s.spaces g name
  pub room : data_spaces s.spaces g ≢ (guest_at s.guests g).allowance
  pub made : Made s pages (creating s g name pages) d

-- the space i is live in slot u and guest g owns it
pub record Owning (s : State) (g u : ℕ) : Type 0 where
  pub slot : u < slot_count
  pub owner : (space_at s.spaces u).owner ≡ g

pub record Destroyed (s : State) (g i : ℕ) (d : Decision) : Type 0 where
  pub owning : Owning s g (slot_of s.spaces i)
  pub not_primary : (space_at s.spaces (slot_of s.spaces i)).name ≢ base_name
  pub is : d ≡ destroying s (eqb (slot_of s.spaces i)) (DestroySpace (slot_of s.spaces i))

pub record Permitted (s : State) (g i h : ℕ) (r : Right) (d : Decision) : Type 0 where
  pub owning : Owning s g (slot_of s.spaces i)
  pub sharing : (guest_at s.guests g).share ≡ true
  pub is : d ≡ done (SetPermit (permit_place (slot_of s.spaces i) h) (record { grant = raised (grant_at s.permits (slot_of s.spaces i) h) r }))

pub record Isolated (s : State) (g i : ℕ) (d : Decision) : Type 0 where
  pub owning : Owning s g (slot_of s.spaces i)
  pub is : d ≡ done (IsolateSpace (slot_of s.spaces i))

pub record Queried (s : State) (g owner name : ℕ) (d : Decision) : Type 0 where
  pub slot : slot_named s.spaces owner name < slot_count
  pub right : entitled s g (slot_named s.spaces owner name) Read ≡ true
  pub is : d ≡ accept (space_at s.spaces (slot_named s.spaces owner name)).id Keep none

-- the number of the entry that ADD takes
abbrev pub added_entry : State → (guest : ℕ) → ℕ
added_entry s g = free_entry s.entries g (guest_at s.guests g).list + 2

pub record Added (s : State) (g i : ℕ) (r : Right) (d : Decision) : Type 0 where
  pub slot : slot_of s.spaces i < slot_count
  pub right : entitled s g (slot_of s.spaces i) r ≡ true
  pub room : free_entry s.entries g (guest_at s.guests g).list < (guest_at s.guests g).list
  pub is : d ≡ accept (token (entry_at s.entries g (added_entry s g)).sequence (added_entry s g)) (SetEntry (entry_place g (added_entry s g)) (record { standing = Valid (slot_of s.spaces i) r; sequence = (entry_at s.entries g (added_entry s g)).sequence })) none

pub record Removed (s : State) (g t : ℕ) (d : Decision) : Type 0 where
  pub not_zero : t ≢ 0
  pub formed : malformed t ≡ false
  pub assigned : assigned s.entries g (guest_at s.guests g).list t ≡ true
  pub is : d ≡ done (SetEntry (entry_place g (entry_number t)) (released (entry_at s.entries g (entry_number t))))

pub record Loaded (c : Caller) (r v : ℕ) (d : Decision) : Type 0 where
  pub is : d ≡ done (SetRegister (cpu_place c) r v)

pub record ModeSet (s : State) (c : Caller) (m : ℕ) (d : Decision) : Type 0 where
  pub asf : m ≡ 1 → (guest_at s.guests c.guest).asf ≡ true
  pub is : d ≡ done (SetMode (cpu_place c) (eqb m 1))

-- a fetch or store: the token used was translated to the space in `slot` with `right`
pub record Accessed (s : State) (c : Caller) (r a n : ℕ) (storing : Bool) (f : ℕ → Effect) (d : Decision) : Type 0 where
  pub slot : ℕ
  pub right : Right
  pub reached : target s c r ≡ reaches slot right
  pub inside : a + n ≤ size_of s.spaces slot
  pub writable : storing ≡ true → writes right ≡ true
  pub key : key_permits s storing (access_key s c) slot a n ≡ true
  pub is : d ≡ accept 0 Keep (f slot)

pub record ResetDone (s : State) (g : ℕ) (d : Decision) : Type 0 where
  pub is : d ≡ destroying s (λ u. is_data g (space_at s.spaces u)) (ResetGuest g)

pub record KeySet (c : Caller) (k : ℕ) (d : Decision) : Type 0 where
  pub is : d ≡ done (SetKey (cpu_place c) k)

pub record Blocked (s : State) (g i a k m : ℕ) (d : Decision) : Type 0 where
  pub owning : Owning s g (slot_of s.spaces i)
  pub inside : a < size_of s.spaces (slot_of s.spaces i)
  pub is : d ≡ done (SetCell (frame_of (layout s) (slot_of s.spaces i) (a / frame_size)) (record { key = k; mark = eqb m 1 }))

unfoldable pub Performed : State → Caller → Operation → (buffer : ℕ) → Decision → Type 0
Performed s c (Enrol x) n d = Made s x.pages (enrolling s c.guest x) d
Performed s c (Create name pages) n d = Created s c.guest name pages d
Performed s c (Destroy id) n d = Destroyed s c.guest id d
Performed s c (Permit id guest right) n d = Permitted s c.guest id guest right d
Performed s c (Isolate id) n d = Isolated s c.guest id d
Performed s c (Query owner name) n d = Queried s c.guest owner name d
Performed s c (Add id right) n d = Added s c.guest id right d
Performed s c (Remove token) n d = Removed s c.guest token d
Performed s c (Load register value) n d = Loaded c register value d
Performed s c (Mode m) n d = ModeSet s c m d
Performed s c (Fetch register address) n d = Accessed s c register address n false (λ u. fetch u address) d
Performed s c (Store register address) n d = Accessed s c register address n true (λ u. store u address) d
Performed s c Reset n d = ResetDone s c.guest d
Performed s c (Key key) n d = KeySet c key d
Performed s c (Block id address key mark) n d = Blocked s c.guest id address key mark d

-- every argument is inside its limits
unfoldable pub AllFit : List Argument → Type 0
AllFit [] = Unit {0}
AllFit (a ∷ more) = (a.fits ≡ true) × AllFit more

pub record Granted (s : State) (m : ℕ) (k : Call) (n : ℕ) (d : Decision) : Type 0 where
  pub ready : ready s m ≡ true
  pub caller : good_caller s k.caller k.operation ≡ true
  pub arguments : AllFit (arguments s.guests k.caller k.operation n)
  pub performed : Performed s k.caller k.operation n d

-- Paper 01, "The calls, each with its order of checks": each call as a decision on tables and lengths, its checks one chain
-- in the paper's order. The checks of its arguments follow check 2 and stand in Arguments: where a row of the paper has its one
-- number for them, ".." stands here, and the numbers are those of paper 02, M-102.
use Rattle.std.specs.Prelude.{ℕ, ◌+◌, ◌*◌, ◌/◌, Bool, true, false, not, List, leb, ltb, eqb, Ok, Err}
use Rattle.lists.specs.Choice.{choose, both, either, implies}
use Rattle.model.specs.declared.Answer.TheVariants.{Unsound, BadCaller, NameTaken, NoSpace, NotOwner, NoSharing, AllowanceUsed, SlotsUsed, NoRun, NoIdentification, NotPermitted, ListFull, AletSpecification, AlenTranslation, Addressing, Protection, SpecialOperation, PrimarySpace, KeyProtection}
use Rattle.model.specs.declared.Call.{Call}
use Rattle.model.specs.declared.Caller.{Caller}
use Rattle.model.specs.declared.Change.{Change}
use Rattle.model.specs.declared.Change.TheVariants.{Keep, SetPermit, SetEntry, SetRegister, SetMode, AddSpace, AddGuest, DestroySpace, IsolateSpace, ResetGuest, SetKey, SetCell}
use Rattle.model.specs.declared.Guest.{Guest}
use Rattle.model.specs.declared.Operation.{Operation}
use Rattle.model.specs.declared.Operation.TheVariants.{Enrol, Create, Destroy, Permit, Isolate, Query, Add, Remove, Load, Mode, Fetch, Store, Reset, Key, Block}
use Rattle.model.specs.declared.Right.{Right}
use Rattle.model.specs.declared.Right.TheVariants.{Read, Write}
use Rattle.model.specs.declared.Settings.{Settings}
use Rattle.model.specs.declared.Space.{Space}
use Rattle.model.specs.declared.Standing.TheVariants.{Valid}
use Rattle.model.specs.declared.State.{State}
use Rattle.model.specs.Arguments.{arguments, check_all}
use Rattle.model.specs.Classes.{class_of}
use Rattle.model.specs.Changes.{allows, raised, released, freed, applied}
use Rattle.model.specs.Decision.{Decision, Effect, none, clear, fetch, store, refuse, accept, done, check}
use Rattle.model.specs.Frames.{layout, frame_of, size_of, has_frame}
use Rattle.model.specs.Keys.{key_permits}
use Rattle.model.specs.Names.{base_name}
use Rattle.model.specs.Searches.{enrolled, is_data, slot_of, slot_named, data_spaces, free_slot, free_run, free_entry}
use Rattle.model.specs.Sizes.{guest_count, slot_count, frame_size, spent_identification}
use Rattle.model.specs.SoundTest.{sound}
use Rattle.model.specs.Tables.{space_at, guest_at, guest_place, cpu_at, cpu_place, grant_at, permit_place, entry_at, entry_place}
use Rattle.model.specs.Tokens.{token, entry_number, malformed, assigned, token_used}
use Rattle.model.specs.Translation.{Translation, translate}

-- ENROL and CREATE "take the lowest unused space slot and the lowest run of free frames, and fill it with zeros".
-- Both end in the checks 9, 11, 10; `c` is the change that adds the space.
unfoldable pub new_space : State → (guest name pages : ℕ) → Space
new_space s g name pages = record { id = s.next; owner = g; name = name; first = free_run s pages; pages = pages }

unfoldable pub making : State → (pages : ℕ) → Change → Decision
making s pages c =
    check (ltb (free_slot s.spaces) slot_count) SlotsUsed
    (check (ltb s.next spent_identification) NoIdentification
    (check (ltb (free_run s pages) s.frames) NoRun
    (accept s.next c (clear (has_frame (layout (applied s c)) (applied s c).spaces (free_slot s.spaces))))))

-- "ENROL guest, pages 1-512, allowance 0-31, share 0/1, L, ASF 0/1: then .., 9, 11, 10. Makes the guest's primary space,
-- named BASE. Value: its identification."
unfoldable pub new_guest : Settings → Guest
new_guest x = record { enrolled = true; allowance = x.allowance; share = eqb x.share 1; list = x.list; asf = eqb x.asf 1 }

abbrev pub enrolling : State → (guest : ℕ) → Settings → Change
enrolling s g x = AddGuest (free_slot s.spaces) (new_space s g base_name x.pages) (guest_place g) (new_guest x)

unfoldable pub enrol : State → (guest : ℕ) → Settings → Decision
enrol s g x = making s x.pages (enrolling s g x)

-- "CREATE name, pages 1-512: .., 4, 8, 9, 11, 10. Value: identification. The primary doesn't count in the allowance."
abbrev pub creating : State → (guest name pages : ℕ) → Change
creating s g name pages = AddSpace (free_slot s.spaces) (new_space s g name pages)

unfoldable pub create : State → (guest name pages : ℕ) → Decision
create s g name pages =
    check (leb slot_count (slot_named s.spaces g name)) NameTaken
    (check (not (eqb (data_spaces s.spaces g) (guest_at s.guests g).allowance)) AllowanceUsed
    (making s pages (creating s g name pages)))

-- the checks 5 and 6, for the space in slot u
unfoldable pub owning : State → (guest slot : ℕ) → Decision → Decision
owning s g u d =
    check (ltb u slot_count) NoSpace
    (check (eqb (space_at s.spaces u).owner g) NotOwner d)

-- Paper 02, M-101: "destroying fills the frames with zeros as well, also in RESET". The frames are those that the spaces in the
-- slots `gone` have before the change.
abbrev pub destroying : State → (gone : ℕ → Bool) → Change → Decision
destroying s gone c = accept 0 c (clear (freed (layout s) s.spaces gone))

-- "DESTROY space: 5, 6, 20. Every valid entry for it, in every list, becomes revoked. Permits vanish; frames are free for
-- use again."
unfoldable pub destroy : State → (guest id : ℕ) → Decision
destroy s g i =
    let u = slot_of s.spaces i in
    owning s g u
    (check (not (eqb (space_at s.spaces u).name base_name)) PrimarySpace
    (destroying s (eqb u) (DestroySpace u)))

-- "PERMIT space, guest h, read or write: .., 5, 6, 7. The right becomes the greater of old and new; write includes read."
unfoldable pub permit : State → (guest id other : ℕ) → Right → Decision
permit s g i h r =
    let u = slot_of s.spaces i in
    owning s g u
    (check (guest_at s.guests g).share NoSharing
    (done (SetPermit (permit_place u h) (record { grant = raised (grant_at s.permits u h) r }))))

-- "ISOLATE space: 5, 6. All permits for it go; other guests' valid entries for it become revoked, the owner's stay."
unfoldable pub isolate : State → (guest id : ℕ) → Decision
isolate s g i =
    let u = slot_of s.spaces i in
    owning s g u (done (IsolateSpace u))

-- whether guest g owns the space in slot u, or is permitted the right r to it
unfoldable pub entitled : State → (guest slot : ℕ) → Right → Bool
entitled s g u r = either (eqb (space_at s.spaces u).owner g) (allows (grant_at s.permits u g) r)

-- "QUERY owner, name: .., 5. Value: the identification if caller owns it or is permitted; otherwise 5, the same as for an
-- absent space."
unfoldable pub query : State → (guest owner name : ℕ) → Decision
query s g owner name =
    let u = slot_named s.spaces owner name in
    check (both (ltb u slot_count) (entitled s g u Read)) NoSpace (accept (space_at s.spaces u).id Keep none)

-- "ADD space, read or write: 5, 12, 13. Value: the token. The owner may add either right."
unfoldable pub add : State → (guest id : ℕ) → Right → Decision
add s g i r =
    let u = slot_of s.spaces i in
    let k = free_entry s.entries g (guest_at s.guests g).list in
    let q = (entry_at s.entries g (k + 2)).sequence in
    check (ltb u slot_count) NoSpace
    (check (entitled s g u r) NotPermitted
    (check (ltb k (guest_at s.guests g).list) ListFull
    (accept (token q (k + 2)) (SetEntry (entry_place g (k + 2)) (record { standing = Valid u r; sequence = q })) none)))

-- "REMOVE token: 14 (also for token 0), 15. Valid or revoked, the entry becomes unused."
unfoldable pub remove : State → (guest token : ℕ) → Decision
remove s g t =
    check (not (either (eqb t 0) (malformed t))) AletSpecification
    (check (assigned s.entries g (guest_at s.guests g).list t) AlenTranslation
    (done (SetEntry (entry_place g (entry_number t)) (released (entry_at s.entries g (entry_number t))))))

-- "LOAD register 0-15, any 32-bit value: .."
unfoldable pub load : Caller → (register value : ℕ) → Decision
load c r v = done (SetRegister (cpu_place c) r v)

-- "MODE 0 primary, 1 access-register: .., 19."
unfoldable pub mode : State → Caller → (mode : ℕ) → Decision
mode s c m =
    check (implies (eqb m 1) (guest_at s.guests c.guest).asf) SpecialOperation
    (done (SetMode (cpu_place c) (eqb m 1)))

-- "FETCH and STORE register, address: .. (register or length), 14, 15, 16, 17, 18. Bytes of the fetch go to the buffer; a
-- store replaces only the bytes named." The address and length are added as numbers without a width. Paper 02, M-100: "22, key
-- protection, in FETCH and STORE after 18".
unfoldable pub writes : Right → Bool
writes Read = false
writes Write = true

-- what follows translation: the checks 17, 18 and 22, where `storing` tells a store from a fetch and `key` is the access key
unfoldable pub access_at : State → (key address buffer : ℕ) → (storing : Bool) → Effect → (slot : ℕ) → Right → Decision
access_at s key a n storing f u r =
    check (leb (a + n) (size_of s.spaces u)) Addressing
    (check (implies storing (writes r)) Protection
    (check (key_permits s storing key u a n) KeyProtection (accept 0 Keep f)))

unfoldable pub access : State → (key address buffer : ℕ) → (storing : Bool) → ((slot : ℕ) → Effect) → Translation → Decision
access s key a n storing f (Ok x) = access_at s key a n storing (f x.slot) x.slot x.right
access s key a n storing f (Err x) = refuse x

-- the token that a caller uses through a register, translated
unfoldable pub target : State → Caller → (register : ℕ) → Translation
target s c r = translate s c.guest (token_used (cpu_at s.cpus (cpu_place c)) r)

-- the access key of a caller
abbrev pub access_key : State → Caller → ℕ
access_key s c = (cpu_at s.cpus (cpu_place c)).key

unfoldable pub fetching : State → Caller → (register address buffer : ℕ) → Decision
fetching s c r a n = access s (access_key s c) a n false (λ u. fetch u a) (target s c r)

unfoldable pub storing : State → Caller → (register address buffer : ℕ) → Decision
storing s c r a n = access s (access_key s c) a n true (λ u. store u a) (target s c r)

-- "RESET: all the caller's entries become unused, its data spaces are destroyed, its primary is isolated." No check follows
-- check 2.
unfoldable pub reset : State → (guest : ℕ) → Decision
reset s g = destroying s (λ u. is_data g (space_at s.spaces u)) (ResetGuest g)

-- Paper 02, M-100: "A guest's KEY call sets its access key".
unfoldable pub set_key : Caller → (key : ℕ) → Decision
set_key c k = done (SetKey (cpu_place c) k)

-- "BLOCK takes a space the caller owns, address in it, key, mark (0 or 1); an address past the end gives 17."
unfoldable pub block : State → (guest id address key mark : ℕ) → Decision
block s g i a k m =
    let u = slot_of s.spaces i in
    owning s g u
    (check (ltb a (size_of s.spaces u)) Addressing
    (done (SetCell (frame_of (layout s) u (a / frame_size)) (record { key = k; mark = eqb m 1 }))))

-- Any call, after the checks 1 and 2 and those of its arguments.
unfoldable pub perform : State → Caller → Operation → (buffer : ℕ) → Decision
perform s c (Enrol x) n = enrol s c.guest x
perform s c (Create name pages) n = create s c.guest name pages
perform s c (Destroy id) n = destroy s c.guest id
perform s c (Permit id guest right) n = permit s c.guest id guest right
perform s c (Isolate id) n = isolate s c.guest id
perform s c (Query owner name) n = query s c.guest owner name
perform s c (Add id right) n = add s c.guest id right
perform s c (Remove token) n = remove s c.guest token
perform s c (Load register value) n = load c register value
perform s c (Mode m) n = mode s c m
perform s c (Fetch register address) n = fetching s c register address n
perform s c (Store register address) n = storing s c register address n
perform s c Reset n = reset s c.guest
perform s c (Key key) n = set_key c key
perform s c (Block id address key mark) n = block s c.guest id address key mark

-- Check 2: "caller not 1 to 8 or not enrolled; for ENROL, not 1 to 8 or already enrolled"
unfoldable pub enrols : Operation → Bool
enrols k = (class_of k).enrols

unfoldable pub may_enrol : List Guest → (guest : ℕ) → Bool
may_enrol gs g = both (both (leb 1 g) (leb g guest_count)) (not (guest_at gs g).enrolled)

unfoldable pub good_caller : State → Caller → Operation → Bool
good_caller s c k = choose (enrols k) (may_enrol s.guests c.guest) (enrolled s.guests c.guest)

-- Check 2, the checks of the arguments, and the call: what a caller that holds a sound state and its scratch is answered.
unfoldable pub judge : State → Call → (buffer : ℕ) → Decision
judge s k n =
    check (good_caller s k.caller k.operation) BadCaller
    (check_all (arguments s.guests k.caller k.operation n)
    (perform s k.caller k.operation n))

-- Check 1: "state not sound, or scratch length is not F x 4,096"
unfoldable pub ready : State → (scratch : ℕ) → Bool
ready s m = both (sound s) (eqb m (s.frames * frame_size))

-- The decision on any call: "All check 1, then 2 first." Its type hands it no byte of scratch and none of a buffer.
unfoldable pub decide : State → (scratch : ℕ) → Call → (buffer : ℕ) → Decision
decide s m k n = check (ready s m) Unsound (judge s k n)

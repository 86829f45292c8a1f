-- What the record alone tells, each as a fold over it: who owns a space, what a guest is permitted, what a token gives. This
-- is the executable form; it is proved equal to the tables' translation after every list (proofs/Recall).
use Rattle.std.specs.Prelude.{ℕ, Bool, false, not, List, [], ◌∷◌, eqb}
use Rattle.lists.specs.Choice.{choose, both}
use Rattle.model.specs.declared.Caller.{Caller}
use Rattle.model.specs.declared.Grant.{Grant}
use Rattle.model.specs.declared.Grant.TheVariants.{Nothing}
use Rattle.model.specs.declared.Right.{Right}
use Rattle.model.specs.declared.Right.TheVariants.{Write}
use Rattle.model.specs.Changes.{raised}
use Rattle.model.specs.Tokens.{malformed}
use Rattle.isolation.specs.History.{Event, Deed, nothing, enrolled, created, destroyed, permitted, isolated, added, removed, loaded, switched, reset, deed}

-- "A space's owner is the guest whose ENROL or CREATE gave its identification." 0 where none did
unfoldable pub owner_by : Deed → (id rest : ℕ) → ℕ
owner_by nothing x o = o
owner_by (enrolled g i) x o = choose (eqb i x) g o
owner_by (created g i) x o = choose (eqb i x) g o
owner_by (destroyed g i) x o = o
owner_by (permitted g i h r) x o = o
owner_by (isolated g i) x o = o
owner_by (added g i r t) x o = o
owner_by (removed g t) x o = o
owner_by (loaded c r v) x o = o
owner_by (switched c m) x o = o
owner_by (reset g) x o = o

unfoldable pub owner_in : List Event → (id : ℕ) → ℕ
owner_in [] x = 0
owner_in (e ∷ h) x = owner_by (deed e) x (owner_in h x)

-- "For token 0 the space reached is that of the guest's ENROL." 0 where it made none
unfoldable pub home_by : Deed → (guest rest : ℕ) → ℕ
home_by nothing g i = i
home_by (enrolled h x) g i = choose (eqb h g) x i
home_by (created h x) g i = i
home_by (destroyed h x) g i = i
home_by (permitted h x o r) g i = i
home_by (isolated h x) g i = i
home_by (added h x r t) g i = i
home_by (removed h t) g i = i
home_by (loaded c r v) g i = i
home_by (switched c m) g i = i
home_by (reset h) g i = i

unfoldable pub home_in : List Event → (guest : ℕ) → ℕ
home_in [] g = 0
home_in (e ∷ h) g = home_by (deed e) g (home_in h g)

-- what guest g is permitted of the space x: PERMIT raises it; DESTROY and ISOLATE of the space and RESET by its owner end it
unfoldable pub grant_by : Deed → (owner id guest : ℕ) → Grant → Grant
grant_by nothing o x g a = a
grant_by (enrolled h i) o x g a = a
grant_by (created h i) o x g a = a
grant_by (destroyed h i) o x g a = choose (eqb i x) Nothing a
grant_by (permitted h i k r) o x g a = choose (both (eqb i x) (eqb k g)) (raised a r) a
grant_by (isolated h i) o x g a = choose (eqb i x) Nothing a
grant_by (added h i r t) o x g a = a
grant_by (removed h t) o x g a = a
grant_by (loaded c r v) o x g a = a
grant_by (switched c m) o x g a = a
grant_by (reset h) o x g a = choose (eqb h o) Nothing a

unfoldable pub grant_in : List Event → (id guest : ℕ) → Grant
grant_in [] x g = Nothing
grant_in (e ∷ h) x g = grant_by (deed e) (owner_in h x) x g (grant_in h x g)

-- What a token gives: a space and a right, or the refusal 14, 15 or 16.
pub data Given : Type 0 where
  space : (id : ℕ) (right : Right) → Given
  misformed : Given
  unassigned : Given
  withdrawn : Given

-- a space that the test names is withdrawn
unfoldable pub unless : (ℕ → Bool) → Given → Given
unless t (space i r) = choose (t i) withdrawn (space i r)
unless t misformed = misformed
unless t unassigned = unassigned
unless t withdrawn = withdrawn

-- guest g's token t: its last ADD with this value gives it; its REMOVE of the token and its RESET end it; DESTROY of the
-- space, and if g is not the owner ISOLATE of it and RESET by its owner, withdraw it
unfoldable pub token_by : Deed → ((id : ℕ) → ℕ) → (guest token : ℕ) → Given → Given
token_by nothing own g t a = a
token_by (enrolled h i) own g t a = a
token_by (created h i) own g t a = a
token_by (destroyed h i) own g t a = unless (eqb i) a
token_by (permitted h i k r) own g t a = a
token_by (isolated h i) own g t a = unless (λ x. both (eqb i x) (not (eqb (own x) g))) a
token_by (added h i r k) own g t a = choose (both (eqb h g) (eqb k t)) (space i r) a
token_by (removed h k) own g t a = choose (both (eqb h g) (eqb k t)) unassigned a
token_by (loaded c r v) own g t a = a
token_by (switched c m) own g t a = a
token_by (reset h) own g t a = choose (eqb h g) unassigned (unless (λ x. eqb (own x) h) a)

unfoldable pub token_in : List Event → (guest token : ℕ) → Given
token_in [] g t = unassigned
token_in (e ∷ h) g t = token_by (deed e) (owner_in h) g t (token_in h g t)

-- any token, token 0 and malformed ones included
unfoldable pub recall : List Event → (guest token : ℕ) → Given
recall h g t = choose (eqb t 0) (space (home_in h g) Write) (choose (malformed t) misformed (token_in h g t))

-- "The token used follows from the caller's last MODE and last LOAD of that register, 0 if none."
abbrev pub same_caller : Caller → Caller → Bool
same_caller c d = eqb c.guest d.guest

unfoldable pub mode_by : Deed → Caller → Bool → Bool
mode_by nothing c b = b
mode_by (enrolled g i) c b = b
mode_by (created g i) c b = b
mode_by (destroyed g i) c b = b
mode_by (permitted g i k r) c b = b
mode_by (isolated g i) c b = b
mode_by (added g i r t) c b = b
mode_by (removed g t) c b = b
mode_by (loaded d r v) c b = b
mode_by (switched d m) c b = choose (same_caller d c) (eqb m 1) b
mode_by (reset g) c b = b

unfoldable pub mode_in : List Event → Caller → Bool
mode_in [] c = false
mode_in (e ∷ h) c = mode_by (deed e) c (mode_in h c)

unfoldable pub load_by : Deed → Caller → (register rest : ℕ) → ℕ
load_by nothing c r v = v
load_by (enrolled g i) c r v = v
load_by (created g i) c r v = v
load_by (destroyed g i) c r v = v
load_by (permitted g i k q) c r v = v
load_by (isolated g i) c r v = v
load_by (added g i q t) c r v = v
load_by (removed g t) c r v = v
load_by (loaded d q w) c r v = choose (both (same_caller d c) (eqb q r)) w v
load_by (switched d m) c r v = v
load_by (reset g) c r v = v

unfoldable pub load_in : List Event → Caller → (register : ℕ) → ℕ
load_in [] c r = 0
load_in (e ∷ h) c r = load_by (deed e) c r (load_in h c r)

-- "In primary mode, and for register 0 in either mode, the token used is 0 whatever was loaded."
unfoldable pub used_in : List Event → Caller → (register : ℕ) → ℕ
used_in h c r = choose (both (mode_in h c) (not (eqb r 0))) (load_in h c r) 0

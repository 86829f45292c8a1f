-- What a call touches beside its answer: one table of all calls, and what follows for tables, scratch and buffer. Assumes
-- nothing.
use Prim.Native.Nat.{ℕ}
use mathlib.Core.List.{List}
use mathlib.Core.Path.{◌≡◌, refl}
use lib.ListN.{length}
use Rattle.model.specs.declared.Caller.{Caller}
use Rattle.model.specs.declared.Operation.{Operation}
use Rattle.model.specs.declared.Operation.TheVariants.{Enrol, Create, Destroy, Permit, Isolate, Query, Add, Remove, Load, Mode, Fetch, Store, Reset, Key, Block}
use Rattle.model.specs.declared.State.{State}
use Rattle.model.specs.Arguments.{arguments}
use Rattle.model.specs.Calls.{judge, perform}
use Rattle.model.specs.Decision.{Decision, after, Effect, none, clear, fetch, store}
use Rattle.model.specs.Granted.{Performed}
use Rattle.model.specs.Leaves.{scratch_judged, buffer_judged}
use Rattle.model.specs.Replies.{call_of}
use Rattle.model.specs.Step.{scratch_after, buffer_after}
use Rattle.model.specs.Verdict.{row, Verdict, refused, granted}
use Rattle.model.proofs.Verdict.{judged}

-- the tables alone; nothing; the tables and frames: a new space's, or those of spaces that go; the lent buffer; a space's bytes
pub data Touch : Type 0 where
  tables : Touch
  nothing : Touch
  frames : Touch
  buffer : Touch
  bytes : Touch

abbrev pub touch : Operation → Touch
touch (Enrol x) = frames
touch (Create name pages) = frames
touch (Destroy id) = frames
touch (Permit id guest right) = tables
touch (Isolate id) = tables
touch (Query owner name) = nothing
touch (Add id right) = tables
touch (Remove token) = tables
touch (Load register value) = tables
touch (Mode m) = tables
touch (Fetch register address) = buffer
touch (Store register address) = bytes
touch Reset = frames
touch (Key key) = tables
touch (Block id address key mark) = tables

-- the effects that each may have
abbrev Fits : Touch → Effect → Type 0
Fits t none = Unit {0}
Fits frames (clear fs) = Unit {0}
Fits tables (clear fs) = ⊥
Fits nothing (clear fs) = ⊥
Fits buffer (clear fs) = ⊥
Fits bytes (clear fs) = ⊥
Fits buffer (fetch u a) = Unit {0}
Fits tables (fetch u a) = ⊥
Fits nothing (fetch u a) = ⊥
Fits frames (fetch u a) = ⊥
Fits bytes (fetch u a) = ⊥
Fits bytes (store u a) = Unit {0}
Fits tables (store u a) = ⊥
Fits nothing (store u a) = ⊥
Fits frames (store u a) = ⊥
Fits buffer (store u a) = ⊥

-- whether the tables stay
abbrev Stays : Touch → (before after : State) → Type 0
Stays tables s t = Unit {0}
Stays frames s t = Unit {0}
Stays nothing s t = t ≡ s
Stays buffer s t = t ≡ s
Stays bytes s t = t ≡ s

record Touches (t : Touch) (s : State) (d : Decision) : Type 0 where
  effect : Fits t d.effect
  stays : Stays t s (after s d)

module _ (s : State) (c : Caller) where
  performed_touches : (k : Operation) (n : ℕ) (d : Decision) → Performed s c k n d → Touches (touch k) s d
  unfolding Performed
  performed_touches (Enrol x) n d p = rw p.is (record { effect = tt; stays = tt })
  performed_touches (Create name pages) n d p = rw p.made.is (record { effect = tt; stays = tt })
  performed_touches (Destroy id) n d p = rw p.is (record { effect = tt; stays = tt })
  performed_touches (Permit id guest right) n d p = rw p.is (record { effect = tt; stays = tt })
  performed_touches (Isolate id) n d p = rw p.is (record { effect = tt; stays = tt })
  performed_touches (Query owner name) n d p = rw p.is (record { effect = tt; stays = refl })
  performed_touches (Add id right) n d p = rw p.is (record { effect = tt; stays = tt })
  performed_touches (Remove token) n d p = rw p.is (record { effect = tt; stays = tt })
  performed_touches (Load register value) n d p = rw p.is (record { effect = tt; stays = tt })
  performed_touches (Mode m) n d p = rw p.is (record { effect = tt; stays = tt })
  performed_touches (Fetch register address) n d p = rw p.is (record { effect = tt; stays = refl })
  performed_touches (Store register address) n d p = rw p.is (record { effect = tt; stays = refl })
  performed_touches Reset n d p = rw p.is (record { effect = tt; stays = tt })
  performed_touches (Key key) n d p = rw p.is (record { effect = tt; stays = tt })
  performed_touches (Block id address key mark) n d p = rw p.is (record { effect = tt; stays = tt })

  -- a refusal touches nothing
  stays_same : (t : Touch) → Stays t s s
  stays_same tables = tt
  stays_same nothing = refl
  stays_same frames = tt
  stays_same buffer = refl
  stays_same bytes = refl

  touches : (k : Operation) (n : ℕ) → Touches (touch k) s (judge s (call_of c k) n)
  touches k n = go (judged s (call_of c k) n)
    where
      go : Verdict (row k) (λ d. Performed s c k n d) (judge s (call_of c k) n) → Touches (touch k) s (judge s (call_of c k) n)
      go (refused r) = rw r.is (record { effect = tt; stays = stays_same (touch k) })
      go (granted p) = performed_touches k n (judge s (call_of c k) n) p

-- What each leaves as it was.
abbrev pub LeavesTables : Touch → Type 0
LeavesTables tables = ⊥
LeavesTables nothing = Unit {0}
LeavesTables frames = ⊥
LeavesTables buffer = Unit {0}
LeavesTables bytes = Unit {0}

abbrev pub LeavesScratch : Touch → Type 0
LeavesScratch tables = Unit {0}
LeavesScratch nothing = Unit {0}
LeavesScratch frames = ⊥
LeavesScratch buffer = Unit {0}
LeavesScratch bytes = ⊥

abbrev pub LeavesBuffer : Touch → Type 0
LeavesBuffer tables = Unit {0}
LeavesBuffer nothing = Unit {0}
LeavesBuffer frames = Unit {0}
LeavesBuffer buffer = ⊥
LeavesBuffer bytes = Unit {0}

-- which move no byte of the buffer, so that neither its length nor what it holds matters
abbrev pub Unmoving : Touch → Type 0
Unmoving tables = Unit {0}
Unmoving nothing = Unit {0}
Unmoving frames = Unit {0}
Unmoving buffer = ⊥
Unmoving bytes = ⊥

same_tables : (t : Touch) (s s' : State) → LeavesTables t → Stays t s s' → s' ≡ s
same_tables tables s s' l e = absurd l
same_tables nothing s s' l e = e
same_tables frames s s' l e = absurd l
same_tables buffer s s' l e = e
same_tables bytes s s' l e = e

same_scratch : (t : Touch) (e : Effect) (s : State) (m b : List ℕ) → LeavesScratch t → Fits t e → scratch_after s e m b ≡ m
unfolding scratch_after
same_scratch t none s m b l f = refl
same_scratch tables (clear fs) s m b l f = absurd f
same_scratch nothing (clear fs) s m b l f = absurd f
same_scratch frames (clear fs) s m b l f = absurd l
same_scratch buffer (clear fs) s m b l f = absurd f
same_scratch bytes (clear fs) s m b l f = absurd f
same_scratch t (fetch u a) s m b l f = refl
same_scratch tables (store u a) s m b l f = absurd f
same_scratch nothing (store u a) s m b l f = absurd f
same_scratch frames (store u a) s m b l f = absurd f
same_scratch buffer (store u a) s m b l f = absurd f
same_scratch bytes (store u a) s m b l f = absurd l

same_buffer : (t : Touch) (e : Effect) (s : State) (m b : List ℕ) → LeavesBuffer t → Fits t e → buffer_after s e m b ≡ b
unfolding buffer_after
same_buffer t none s m b l f = refl
same_buffer t (clear fs) s m b l f = refl
same_buffer tables (fetch u a) s m b l f = absurd f
same_buffer nothing (fetch u a) s m b l f = absurd f
same_buffer frames (fetch u a) s m b l f = absurd f
same_buffer buffer (fetch u a) s m b l f = absurd l
same_buffer bytes (fetch u a) s m b l f = absurd f
same_buffer t (store u a) s m b l f = refl

any_buffer : (t : Touch) (e : Effect) (s : State) (m b b' : List ℕ) → Unmoving t → Fits t e → scratch_after s e m b ≡ scratch_after s e m b'
unfolding scratch_after
any_buffer t none s m b b' l f = refl
any_buffer t (clear fs) s m b b' l f = refl
any_buffer t (fetch u a) s m b b' l f = refl
any_buffer tables (store u a) s m b b' l f = absurd f
any_buffer nothing (store u a) s m b b' l f = absurd f
any_buffer frames (store u a) s m b b' l f = absurd f
any_buffer buffer (store u a) s m b b' l f = absurd f
any_buffer bytes (store u a) s m b b' l f = absurd l

-- The same of what check 2, the checks of the arguments and the call come to.
module _ (s : State) (c : Caller) (k : Operation) where
  pub tables_kept : (n : ℕ) → LeavesTables (touch k) → after s (judge s (call_of c k) n) ≡ s
  tables_kept n l = same_tables (touch k) s _ l (touches s c k n).stays

  pub scratch_kept : (m b : List ℕ) → LeavesScratch (touch k) → scratch_judged s (call_of c k) m b ≡ m
  unfolding scratch_judged
  scratch_kept m b l = same_scratch (touch k) _ _ m b l (touches s c k (length b)).effect

  pub buffer_kept : (m b : List ℕ) → LeavesBuffer (touch k) → buffer_judged s (call_of c k) m b ≡ b
  unfolding buffer_judged
  buffer_kept m b l = same_buffer (touch k) _ _ m b l (touches s c k (length b)).effect

  pub bufferless : (n : ℕ) (m b b' : List ℕ) → Unmoving (touch k)
      → scratch_after (after s (judge s (call_of c k) n)) (judge s (call_of c k) n).effect m b ≡ scratch_after (after s (judge s (call_of c k) n)) (judge s (call_of c k) n).effect m b'
  bufferless n m b b' l = any_buffer (touch k) _ _ m b b' l (touches s c k n).effect

pub any_length : (s : State) (c : Caller) (k : Operation) (n : ℕ) → Unmoving (touch k) → judge s (call_of c k) n ≡ judge s (call_of c k) 0
unfolding judge arguments perform
any_length s c (Enrol x) n u = refl
any_length s c (Create name pages) n u = refl
any_length s c (Destroy id) n u = refl
any_length s c (Permit id guest right) n u = refl
any_length s c (Isolate id) n u = refl
any_length s c (Query owner name) n u = refl
any_length s c (Add id right) n u = refl
any_length s c (Remove token) n u = refl
any_length s c (Load register value) n u = refl
any_length s c (Mode m) n u = refl
any_length s c (Fetch register address) n u = absurd u
any_length s c (Store register address) n u = absurd u
any_length s c Reset n u = refl
any_length s c (Key key) n u = refl
any_length s c (Block id address key mark) n u = refl

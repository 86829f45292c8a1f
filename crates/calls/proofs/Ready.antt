-- Check 1, and what follows it. Assumes nothing.
use Prim.Native.Nat.{ℕ, ◌*◌}
use mathlib.Core.Bool.{Bool, true, false}
use mathlib.Core.List.{List}
use mathlib.Core.Path.{◌≡◌, subst, ap, sym, ◌∙◌}
use lib.ListN.{length}
use borrow.Author.Tests.{eqb-true}
use Rattle.lists.proofs.Choice.{both_left, both_right}
use Rattle.model.specs.declared.Answer.{Answer}
use Rattle.model.specs.declared.Answer.TheVariants.{Unsound}
use Rattle.model.specs.declared.Call.{Call}
use Rattle.model.specs.declared.Reply.{Reply}
use Rattle.model.specs.declared.State.{State}
use Rattle.model.specs.Calls.{ready}
use Rattle.model.specs.Promise.{Promise, step_of}
use Rattle.model.specs.Replies.{reply, replied}
use Rattle.model.specs.SoundTest.{sound}
use Rattle.model.proofs.Promise.{promise_unready, promise_ready}
use Rattle.deciding.specs.Served.{Served}

-- what check 1 has found
pub ready_sound : (s : State) (m : ℕ) (x : Bool) → x ≡ ready s m → x ≡ true → sound s ≡ true
unfolding ready
ready_sound s m x e t = both_left (sound s) _ (sym e ∙ t)

pub ready_room : (s : State) (m : ℕ) (x : Bool) → x ≡ ready s m → x ≡ true → m ≡ s.frames * 4096
unfolding ready
ready_room s m x e t = eqb-true _ _ (both_right (sound s) _ (sym e ∙ t))

-- check 1 refuses
pub refuses : (s : State) (k : Call) (m b : List ℕ) (x : Bool) → x ≡ ready s (length m) → x ≡ false → Promise (step_of s m k b) Unsound s m b
refuses s k m b x e f = promise_unready s k m b (sym e ∙ f)

-- check 1 passes
pub serves : (s : State) (k : Call) (m b m' b' : List ℕ) (r : Reply) (x : Bool) → x ≡ ready s (length m) → x ≡ true → Served s k r m b m' b'
    → Promise (step_of s m k b) r.answer r.state m' b'
unfolding replied
serves s k m b m' b' r x e t d =
    promise_ready s k m b r.answer r.state m' b' (sym e ∙ t) (ap (λ y. y.answer) d.reply) (ap (λ y. y.state) d.reply) d.scratch d.buffer

-- the same where the state that the caller owns is what the call has left where it was lent
pub serves_at : (s : State) (k : Call) (m b m' b' : List ℕ) (a : Answer) (t u : State) (x : Bool) → x ≡ ready s (length m) → x ≡ true → Served s k (reply a u) m b m' b' → u ≡ t
    → Promise (step_of s m k b) a t m' b'
serves_at s k m b m' b' a t u x e y d q = subst (λ v. Promise (step_of s m k b) a v m' b') q (serves s k m b m' b' (reply a u) x e y d)

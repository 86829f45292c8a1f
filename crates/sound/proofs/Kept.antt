-- A call leaves a sound state sound. Assumes nothing.
use Prim.Native.Nat.{ℕ, ◌*◌}
use mathlib.Core.Bool.{true}
use mathlib.Core.List.{List}
use mathlib.Core.Path.{◌≡◌, refl, subst}
use borrow.Author.Tests.{eq-eqb}
use Rattle.lists.proofs.Choice.{both_intro}
use Rattle.model.specs.declared.Answer.{Answer}
use Rattle.model.specs.declared.Answer.TheVariants.{Unsound}
use Rattle.model.specs.declared.Call.{Call}
use Rattle.model.specs.declared.Reply.{Reply}
use Rattle.model.specs.declared.State.{State}
use Rattle.model.specs.Calls.{ready, decide, judge}
use Rattle.model.specs.Decision.{after}
use Rattle.model.specs.Replies.{reply, replied, Carried}
use Rattle.model.specs.SoundTest.{sound}
use Rattle.model.proofs.Rules.{check_yes}
use Rattle.model.proofs.Sound.{sound_kept}
use Rattle.model.proofs.SoundTest.{sound_decides}

pub judged_sound : (s : State) (k : Call) (n : ℕ) → sound s ≡ true → sound (after s (judge s k n)) ≡ true
unfolding ready decide
judged_sound s k n ok =
    let e : decide s (s.frames * 4096) k n ≡ judge s k n = check_yes Unsound (judge s k n) (both_intro _ _ ok (eq-eqb (s.frames * 4096) _ refl)) in
    subst (λ d. sound (after s d) ≡ true) e ((sound_decides _).of (sound_kept s (s.frames * 4096) k n ((sound_decides s).to ok)))

-- of the reply of a call
pub replied_sound : (s : State) (k : Call) (n : ℕ) (r : Reply) → sound s ≡ true → r ≡ replied s (judge s k n) → sound r.state ≡ true
unfolding replied
replied_sound s k n r ok e = rw e (judged_sound s k n ok)

pub carried_sound : (s t : State) (k : Call) (m m' : List ℕ) (a : Answer) → sound s ≡ true → Carried s (judge s k 0) (reply a t) m m' → sound t ≡ true
carried_sound s t k m m' a ok d = replied_sound s k 0 (reply a t) ok d.reply

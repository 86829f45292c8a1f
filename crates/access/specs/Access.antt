-- What FETCH and STORE come to on what they have seen: for every caller and every sound state which shows this, what the model
-- says. `m` is scratch, `b` the lent buffer.
use Rattle.std.specs.Prelude.{ℕ, true, List, Err, ◌≡◌, length, leb, ltb}
use Rattle.lists.specs.Choice.{choose}
use Rattle.model.specs.declared.Answer.{Answer}
use Rattle.model.specs.declared.Answer.TheVariants.{BadCaller, Limit}
use Rattle.model.specs.declared.Caller.{Caller}
use Rattle.model.specs.declared.Kind.TheVariants.{Register, Length}
use Rattle.model.specs.declared.Operation.TheVariants.{Fetch, Store}
use Rattle.model.specs.declared.State.{State}
use Rattle.model.specs.Arguments.{good_length}
use Rattle.model.specs.Calls.{judge}
use Rattle.model.specs.Leaves.{scratch_judged, buffer_judged}
use Rattle.model.specs.Replies.{call_of}
use Rattle.model.specs.SoundTest.{sound}
use Rattle.model.specs.Translation.{Translation}
use Rattle.translation.specs.Translated.{translated_by}
use Rattle.views.specs.declared.View.{View}
use Rattle.asks.specs.Asks.{asks_by}
use Rattle.views.specs.Views.{view_of}

-- what a register reaches, for so many bytes: the checks 2 and 3, and what translation comes to
unfoldable pub reached_by : View → (register length : ℕ) → Translation
reached_by v r n =
    choose (ltb v.place 8)
    (choose (leb r 15)
    (choose (good_length n) (translated_by v.slot v.guest.list v.entry v.token) (Err (Limit Length 4)))
    (Err (Limit Register 2)))
    (Err BadCaller)

pub record Fetches (v : View) (register address : ℕ) (m b : List ℕ) (x : Answer) (b' : List ℕ) : Type 0 where
  pub is : (s : State) (c : Caller) → sound s ≡ true → v ≡ view_of s (asks_by c.guest (Fetch register address))
      → (x ≡ (judge s (call_of c (Fetch register address)) (length b)).answer) × (b' ≡ buffer_judged s (call_of c (Fetch register address)) m b)

pub record Stores (v : View) (register address : ℕ) (m b : List ℕ) (x : Answer) (m' : List ℕ) : Type 0 where
  pub is : (s : State) (c : Caller) → sound s ≡ true → v ≡ view_of s (asks_by c.guest (Store register address))
      → (x ≡ (judge s (call_of c (Store register address)) (length b)).answer) × (m' ≡ scratch_judged s (call_of c (Store register address)) m b)

-- The first half of demand 3. The decision sees tables and lengths alone, so both runs decide alike; what is left is bytes: a place
-- outside the live changed spaces was outside them before the call, or the call cleared it. Assumes nothing.
use Prim.Native.Nat.{ℕ, ◌+◌, ◌/◌, ◌<◌}
use mathlib.Core.Bool.{Bool, true, false}
use mathlib.Core.List.{List, [], ◌∷◌}
use mathlib.Core.Logic.{◌≢◌, ◌⊎◌, inl, inr, ⊎_elim}
use mathlib.Core.Path.{◌≡◌, refl, sym, ap, ap₂, ◌∙◌}
use native.Mathlib.Omega.{arith}
use lib.ListN.{length, get_or}
use Rattle.lists.specs.Bytes.{put}
use Rattle.lists.proofs.Bytes.{put_off, put_agree, get_agree}
use Rattle.lists.proofs.Choice.{true_false, not_so, true_or_false, choose_eq}
use Rattle.model.specs.declared.State.{State}
use Rattle.model.specs.Answers.{number, value}
use Rattle.model.specs.Decision.{Decision, after, Effect, none, clear, fetch, store}
use Rattle.model.specs.Frames.{layout, place_of}
use Rattle.model.specs.Lawful.{Inside, cleared, EffectInside, Lawful}
use Rattle.model.specs.Sound.{Sound}
use Rattle.model.specs.Step.{Machine, Ready, Issue, decision, step, scratch_after, buffer_after}
use Rattle.model.specs.Tables.{space_at}
use Rattle.model.proofs.Addresses.{place_has}
use Rattle.model.proofs.Clearing.{clears_at}
use Rattle.model.proofs.Lawful.{lawful_step}
use Rattle.model.proofs.Sound.{ready_kept, length-scratch_after}
use Rattle.isolation.specs.Reaches.{Reaches, ReachesIn}
use Rattle.isolation.specs.TwoRuns.{Outside, EqualOutside, Alike, MayDiffer, Grows, Varied, SameCall, SameRuns, TwoRuns}
use Rattle.isolation.proofs.Outside.{outside_before, own_outside}
use Rattle.isolation.proofs.Reaching.{touches, reaches_one}

-- One decision on two scratch areas that agree outside X. `s` are the tables before it, `d` the decision.
module _ (X L : ℕ → Bool) (s : State) (d : Decision) (ok : Sound (after s d)) (b₁ b₂ m₁ m₂ : List ℕ) (law : Lawful s (length b₁) d)
    (room : length m₁ ≡ length m₂) (long : length b₁ ≡ length b₂) (agree : EqualOutside X L s m₁ m₂) where
  abbrev t : State
  t = after s d

  -- a place outside X after it that was not cleared agreed before
  before : (p : ℕ) → Outside X L t (p / 4096) → cleared d.effect (p / 4096) ≡ false → get_or m₁ p 0 ≡ get_or m₂ p 0
  before p out clean = agree p (outside_before X L s (length b₁) d law (p / 4096) out clean)

  -- R says that the call reaches a space of X: what it touches is the one space that it reaches
  abbrev Touched : ℕ → ℕ → Type 0
  Touched u a = (d.effect ≡ store u a) ⊎ (d.effect ≡ fetch u a)

  module _ (R : Type 0) (reach : (u a : ℕ) → Touched u a → X (space_at t.spaces u).id ≡ true → R)
      (only : (u a : ℕ) → Touched u a → R → X (space_at t.spaces u).id ≡ true) (same : (R → ⊥) → b₁ ≡ b₂) where
    -- a store into X leaves every place outside X; any other stores the same bytes
    store_bytes : (v a : ℕ) → d.effect ≡ store v a → Inside t v a (length b₁) → EqualOutside X L t (put (place_of (layout t) v) a b₁ m₁) (put (place_of (layout t) v) a b₂ m₂)
    store_bytes v a e i p out = ⊎_elim within beside (true_or_false (X (space_at t.spaces v).id))
      where
        old : get_or m₁ p 0 ≡ get_or m₂ p 0
        old = before p out (ap (λ f. cleared f (p / 4096)) e)

        away : X (space_at t.spaces v).id ≡ true → (k : ℕ) → k < a + length b₁ → p ≢ place_of (layout t) v k
        away x k h q = out.live v i.live x (rw q (place_has t.spaces (layout t) v k (omega (arith, i.fits))))

        within : X (space_at t.spaces v).id ≡ true → get_or (put (place_of (layout t) v) a b₁ m₁) p 0 ≡ get_or (put (place_of (layout t) v) a b₂ m₂) p 0
        within x =
            put_off (place_of (layout t) v) a b₁ m₁ p (λ k _ h. away x k h)
            ∙ old
            ∙ sym (put_off (place_of (layout t) v) a b₂ m₂ p (λ k _ h. away x k (rw long h)))

        beside : X (space_at t.spaces v).id ≡ false → get_or (put (place_of (layout t) v) a b₁ m₁) p 0 ≡ get_or (put (place_of (layout t) v) a b₂ m₂) p 0
        beside n =
            put_agree (place_of (layout t) v) a b₁ m₁ m₂ p room old
            ∙ ap (λ b. get_or (put (place_of (layout t) v) a b m₂) p 0) (same (λ r. true_false (only v a (inl e) r) n))

    effect_bytes : (e : Effect) → d.effect ≡ e → EffectInside t (length b₁) e → EqualOutside X L t (scratch_after t e m₁ b₁) (scratch_after t e m₂ b₂)
    unfolding scratch_after
    effect_bytes none e i p out = before p out (ap (λ f. cleared f (p / 4096)) e)
    effect_bytes (fetch v a) e i p out = before p out (ap (λ f. cleared f (p / 4096)) e)
    effect_bytes (clear fs) e i p out =
        clears_at fs m₁ p ∙ choose_eq (fs (p / 4096)) (λ _. refl) (λ n. before p out (ap (λ f. cleared f (p / 4096)) e ∙ n)) ∙ sym (clears_at fs m₂ p)
    effect_bytes (store v a) e i p out = store_bytes v a e i p out

    -- the lent buffer, unless the call fetches from X
    effect_buffer : (e : Effect) → d.effect ≡ e → EffectInside t (length b₁) e → (R → ⊥) → buffer_after t e m₁ b₁ ≡ buffer_after t e m₂ b₂
    unfolding buffer_after
    effect_buffer none e i away = same away
    effect_buffer (clear fs) e i away = same away
    effect_buffer (store v a) e i away = same away
    effect_buffer (fetch v a) e i away =
        let n = not_so (X (space_at t.spaces v).id) (λ x. away (reach v a (inr e) x)) in
        rw (← long)
        (get_agree (place_of (layout t) v) a (length b₁) m₁ m₂ (λ k _ h.
        before _ (own_outside X L t ok v i.live n k (omega (arith, i.fits))) (ap (λ f. cleared f (place_of (layout t) v k / 4096)) e)))

-- One call.
module _ (X L : ℕ → Bool) (m₁ m₂ : Machine) (ready : Ready m₁) (alike : Alike X L m₁ m₂) (i j : Issue) (may : MayDiffer X m₁ i j) where
  abbrev d : Decision
  d = decision m₁ i

  same_decision : decision m₁ i ≡ decision m₂ j
  same_decision = rw (alike.tables, alike.room, may.call, may.lengths) refl

  after_ready : Ready (step m₁ i).machine
  after_ready = ready_kept m₁ i ready

  -- a touched space is the one that is reached
  touched_reach : (u a : ℕ) → (d.effect ≡ store u a) ⊎ (d.effect ≡ fetch u a) → Reaches m₁ i (space_at (after m₁.tables d).spaces u).id
  touched_reach u a (inl e) = rw e at (touches m₁ ready i)
  touched_reach u a (inr e) = rw e at (touches m₁ ready i)

  reach : (u a : ℕ) → (d.effect ≡ store u a) ⊎ (d.effect ≡ fetch u a) → X (space_at (after m₁.tables d).spaces u).id ≡ true → ReachesIn X m₁ i
  reach u a k x = record { id = (space_at (after m₁.tables d).spaces u).id; reaches = touched_reach u a k; inside = x }

  only : (u a : ℕ) → (d.effect ≡ store u a) ⊎ (d.effect ≡ fetch u a) → ReachesIn X m₁ i → X (space_at (after m₁.tables d).spaces u).id ≡ true
  only u a k r = ap X (reaches_one m₁ ready i (space_at (after m₁.tables d).spaces u).id r.id (touched_reach u a k) r.reaches) ∙ r.inside

  same_call : SameCall X L m₁ m₂ i j
  unfolding step
  same_call =
      let law = lawful_step m₁ i ready in
      record {
        number = ap (λ (x : Decision). number x.answer) same_decision;
        value = ap (λ (x : Decision). value x.answer) same_decision;
        answer = ap (λ (x : Decision). x.answer) same_decision;
        alike = record {
          tables = ap₂ (λ (x : State) (y : Decision). after x y) alike.tables same_decision;
          room = length-scratch_after _ (decision m₁ i).effect m₁.scratch i.buffer ∙ alike.room ∙ sym (length-scratch_after _ (decision m₂ j).effect m₂.scratch j.buffer);
          bytes = rw (← same_decision, ← alike.tables) (effect_bytes X L m₁.tables d after_ready.sound i.buffer j.buffer m₁.scratch m₂.scratch law alike.room may.lengths alike.bytes (ReachesIn X m₁ i) reach only may.same d.effect refl law.inside);
        };
        buffer = λ away. rw (← same_decision, ← alike.tables) (effect_buffer X L m₁.tables d after_ready.sound i.buffer j.buffer m₁.scratch m₂.scratch law alike.room may.lengths alike.bytes (ReachesIn X m₁ i) reach only may.same d.effect refl law.inside away);
      }

-- a larger set leaves less to agree
alike_grown : (X Y L : ℕ → Bool) (m₁ m₂ : Machine) → Grows X Y → Alike X L m₁ m₂ → Alike Y L m₁ m₂
alike_grown X Y L m₁ m₂ g a = record {
  tables = a.tables;
  room = a.room;
  bytes = λ p out. a.bytes p (record { live = λ u l x. out.live u l (g (space_at m₁.tables.spaces u).id x); free = out.free });
}

-- Every call of the list.
pub two_runs : TwoRuns
unfolding Varied SameRuns
two_runs X L [] m₁ m₂ ready alike v = tt
two_runs X L (t ∷ ts) m₁ m₂ ready alike v =
    let here : SameCall t.changed L m₁ m₂ t.first t.second = same_call t.changed L m₁ m₂ ready (alike_grown X t.changed L m₁ m₂ v.0 alike) t.first t.second v.1 in
    (here, two_runs t.changed L ts (step m₁ t.first).machine (step m₂ t.second).machine (ready_kept m₁ t.first ready) here.alike v.2)

-- A fetch or store answered 0 reaches exactly one live space: the one that translation gave, and whose bytes it moves.
-- Assumes nothing.
use Prim.Native.Nat.{ℕ}
use mathlib.Core.Bool.{Bool, true, false}
use mathlib.Core.Logic.{◌⊎◌, inl, inr}
use mathlib.Core.Path.{◌≡◌, refl, sym, ap, ◌∙◌}
use lib.ListN.{length}
use Rattle.model.specs.declared.Right.{Right}
use Rattle.model.specs.declared.Standing.TheVariants.{Valid}
use Rattle.model.specs.declared.State.{State}
use Rattle.model.specs.Answers.{number}
use Rattle.model.specs.Calls.{target}
use Rattle.model.specs.Classes.{Moves, no_bytes, from_space, to_space, class_of}
use Rattle.model.specs.Decision.{Decision, after, Effect, none, clear, fetch, store}
use Rattle.model.specs.Granted.{Accessed, Granted}
use Rattle.model.specs.Names.{base_name}
use Rattle.model.specs.Searches.{enrolled, primary_slot}
use Rattle.model.specs.Sound.{Live, Sound}
use Rattle.model.specs.Step.{Machine, Ready, Issue, decision, step}
use Rattle.model.specs.Tables.{space_at}
use Rattle.model.specs.Through.{ThroughPrimary, ThroughEntry}
use Rattle.model.specs.Verdict.{row, Verdict, refused, granted}
use Rattle.model.proofs.Moving.{Unmoved, MovedAs, performed_moved}
use Rattle.model.proofs.Reached.{reached, reached_live}
use Rattle.model.proofs.Refusals.{performed_number}
use Rattle.model.proofs.Searches.{primary_lt, named_found}
use Rattle.model.proofs.Verdict.{verdict}
use Rattle.isolation.specs.Reaches.{MovesThrough, Through, Named, Reaches}

-- what translation reached is named by the token used
named_by : (s : State) → Sound s → (g t u : ℕ) (r : Right) → enrolled s.guests g ≡ true → ThroughPrimary s g t u r ⊎ ThroughEntry s g t u r → Named s g t u
unfolding primary_slot
named_by s ok g t u r en (inl p) =
    let f = named_found s.spaces g base_name (primary_lt s.spaces g (ok.guests.primary g en)) in
    inl (p.token, record { owner = rw p.slot f.1; name = rw p.slot f.2 })
named_by s ok g t u r en (inr p) = inr (p.token, record { right = r; valid = p.valid })

-- a token names one live space
named_one : (s : State) → Sound s → (g t u v : ℕ) → Live s.spaces u → Live s.spaces v → Named s g t u → Named s g t v → u ≡ v
named_one s ok g t u v lu lv (inl p) (inl q) = ok.spaces.name_own u v lu lv (p.1.owner ∙ sym q.1.owner) (p.1.name ∙ sym q.1.name)
named_one s ok g t u v lu lv (inl p) (inr q) = absurd (q.0 p.0)
named_one s ok g t u v lu lv (inr p) (inl q) = absurd (p.0 q.0)
named_one s ok g t u v lu lv (inr p) (inr q) = let e : Valid u p.1.right ≡ Valid v q.1.right = sym p.1.valid ∙ q.1.valid in cc

one_register : (v : Moves) (r q : ℕ) → MovesThrough v r → MovesThrough v q → r ≡ q
one_register no_bytes r q a b = absurd a
one_register (from_space register address) r q a b = sym a ∙ b
one_register (to_space register address) r q a b = sym a ∙ b

-- one live slot
pub slot_one : (m : Machine) → Ready m → (i : Issue) (x y : ℕ) → (a : Reaches m i x) (b : Reaches m i y) → a.slot ≡ b.slot
slot_one m ready i x y a b =
    let r : a.register ≡ b.register = one_register (class_of i.call.operation).moves a.register b.register a.through b.through in
    named_one m.tables ready.sound _ _ a.slot b.slot a.live b.live a.named (rw (← r) at b.named)

pub reaches_one : (m : Machine) → Ready m → (i : Issue) (x y : ℕ) → Reaches m i x → Reaches m i y → x ≡ y
reaches_one m ready i x y a b =
    sym a.space ∙ ap (λ v. (space_at m.tables.spaces v).id) (slot_one m ready i x y a b) ∙ b.space

-- the effect of a call on a space, by its slot in the tables after the call, comes with reaching it
abbrev pub Touches : Machine → Issue → (after : State) → Effect → Type 0
Touches m i t none = Unit {0}
Touches m i t (clear fs) = Unit {0}
Touches m i t (fetch u a) = Reaches m i (space_at t.spaces u).id
Touches m i t (store u a) = Reaches m i (space_at t.spaces u).id

module _ (m : Machine) (ready : Ready m) (i : Issue) (d : Decision) (done : number (step m i).answer ≡ 0) where
  pub accessed : (r a : ℕ) (storing : Bool) (f : ℕ → Effect) → enrolled m.tables.guests i.call.caller.guest ≡ true → Through i.call.operation r
      → (x : Accessed m.tables i.call.caller r a (length i.buffer) storing f d) → Reaches m i (space_at m.tables.spaces x.slot).id
  unfolding target
  accessed r a storing f en t x =
      record {
        done = done;
        register = r;
        through = t;
        slot = x.slot;
        live = reached_live m.tables ready.sound i.call.caller.guest _ x.slot x.right en x.reached;
        space = refl;
        named = named_by m.tables ready.sound i.call.caller.guest _ x.slot x.right en (reached m.tables i.call.caller.guest _ x.slot x.right x.reached);
      }

  pub accessed_slot : (r a : ℕ) (storing : Bool) (f : ℕ → Effect) (en : enrolled m.tables.guests i.call.caller.guest ≡ true) (t : Through i.call.operation r)
      (x : Accessed m.tables i.call.caller r a (length i.buffer) storing f d) → (accessed r a storing f en t x).slot ≡ x.slot
  unfolding accessed
  accessed_slot r a storing f en t x = refl

  -- a done call, by what it moves
  touched : (v : Moves) → (class_of i.call.operation).moves ≡ v → MovedAs m.tables i.call.caller (length i.buffer) v d → Touches m i (after m.tables d) d.effect
  touched no_bytes e p = unmoved d.effect p
    where
      unmoved : (f : Effect) → Unmoved f → Touches m i (after m.tables d) f
      unmoved none p = tt
      unmoved (clear fs) p = tt
      unmoved (fetch u a) p = absurd p
      unmoved (store u a) p = absurd p
  touched (from_space register address) e p = rw p.accessed.is (accessed register address false (λ u. fetch u address) p.caller (rw e refl) p.accessed)
  touched (to_space register address) e p = rw p.accessed.is (accessed register address true (λ u. store u address) p.caller (rw e refl) p.accessed)

pub touches : (m : Machine) → Ready m → (i : Issue) → Touches m i (after m.tables (decision m i)) (decision m i).effect
unfolding step
touches m ready i = go (verdict m.tables (length m.scratch) i.call (length i.buffer))
  where
    go : Verdict (row i.call.operation) (Granted m.tables (length m.scratch) i.call (length i.buffer)) (decision m i) → Touches m i (after m.tables (decision m i)) (decision m i).effect
    go (refused r) = rw r.is tt
    go (granted g) =
        touched m ready i (decision m i) (performed_number m.tables i.call.caller i.call.operation (length i.buffer) (decision m i) g.performed)
        (class_of i.call.operation).moves refl (performed_moved m.tables i.call.caller i.call.operation (length i.buffer) (decision m i) g.caller g.arguments g.performed)

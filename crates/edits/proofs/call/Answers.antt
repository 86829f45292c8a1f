use mathlib.Core.Path.{refl, ap}
use Rattle.model.specs.declared.Reply.{Reply}
use Rattle.edits.proofs.Kept.{seen_carried, seen_sound, seen_decided}
use Rattle.edits.proofs.call.Goals as goal

pub carry-requires : goal.carry-requires
carry-requires g c = rw c.into.ensures (c.requires.decides _ _ c.decide.ensures).fits

pub invariant_of-s : goal.invariant_of-s
invariant_of-s g c =
    let d = c.requires.decides _ _ c.decide.ensures in
    record { held = seen_sound _ _ _ _ _ c.args.s.now.held c.seen_by-v.ensures d _ (rw c.into.ensures at c.carry.ensures) }

pub returns-clause-answered : goal.returns-clause-answered
returns-clause-answered g c =
    let d = c.requires.decides _ _ c.decide.ensures in
    record { same_state = refl; reply = seen_carried _ _ _ _ _ c.args.s.now.held c.seen_by-v.ensures d _ (rw c.into.ensures at c.carry.ensures) }

pub returns-clause-seen : goal.returns-clause-seen
returns-clause-seen g c =
    let d = c.requires.decides _ _ c.decide.ensures in
    seen_decided _ _ _ _ _ c.seen_by-v.ensures d (ap (λ (r : Reply). r.answer) (rw c.into.ensures at c.carry.ensures))

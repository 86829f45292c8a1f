use Rattle.std.proofs.Common.{arith, ap, inl, inr, length}
use Rattle.writing.proofs.Remaining.{taking_stop, taking_more, taking_end}
use Rattle.writing.proofs.takes_fields.Goals as goal

pub returns-then-not-takes_field : goal.returns-then-not-takes_field
returns-then-not-takes_field c =
    let next = c.in-Some.ensures.steps in
    taking_stop _ _ _ _ c.loop-kind.invariant.1 _ _ _ _ next.0 next.1 c.takes_field.ensures c.if-not-takes_field.true

pub loop-kind-preserved : goal.loop-kind-preserved
loop-kind-preserved c =
    let next = c.in-Some.ensures.steps in (
      omega (arith, ap length next.0, ap length next.1),
      taking_more _ _ _ _ c.loop-kind.invariant.1 _ _ _ _ next.0 next.1 c.takes_field.ensures c.if-not-takes_field.false,
    )

pub returns : goal.returns
returns c =
    taking_end _ _ _ _ c.loop-kind.invariant.1 (elim c.in-None.ensures.steps [ inl e ↦ e.1.0 | inr e ↦ omega (arith, e.1.0) ])

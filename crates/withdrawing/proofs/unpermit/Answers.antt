use Prim.Native.Nat.{◌<◌}
use mathlib.Core.Path.{◌∙◌}
use native.Mathlib.Omega.{arith}
use lib.ListN.{length}
use borrow.Author.Rules.{rules}
use Rattle.lists.proofs.Rules.{maps}
use Rattle.model.specs.Changes.{unpermitted, permit_slot}
use Rattle.model.specs.Leaves.{flag}
use Rattle.model.specs.Tables.{no_permit}
use Rattle.closing.proofs.Defaults.{permit_default}
use Rattle.withdrawing.proofs.Emptying.{emptied_yes, emptied_no}
use Rattle.withdrawing.proofs.unpermit.Goals.{then-closed-k, else-closed-k}
use Rattle.withdrawing.proofs.unpermit.Goals as goal

pub loop-k-init : goal.loop-k-init
loop-k-init c = (omega arith, search maps)

pub loop-k-preserved : goal.loop-k-preserved
loop-k-preserved c =
    let l = c.loop-k in
    let low : l.k < length c.args.permits.now = omega (arith, c.told-permits) in (
      omega arith,
      elim c.if-closed-k.branch [
        | then-closed-k w ↦
            w.permits-is ∙ emptied_yes (λ j p. flag c.args.closed.now (permit_slot j)) no_permit _ _ _ l.invariant.1 low _ (permit_default _ w.default.ensures) w.if-closed-k.true
        | else-closed-k w ↦ w.permits-is ∙ emptied_no (λ j p. flag c.args.closed.now (permit_slot j)) no_permit _ _ _ l.invariant.1 low w.if-closed-k.false
      ],
    )

pub returns : goal.returns
unfolding unpermitted
returns c = search (maps, rules) depth 8

use Prim.Native.Nat.{◌<◌}
use mathlib.Core.Path.{sym, ◌∙◌}
use native.Mathlib.Omega.{arith}
use lib.ListN.{length}
use borrow.Author.Rules.{rules}
use Rattle.lists.proofs.Rules.{maps}
use Rattle.model.specs.Searches.{is_data}
use Rattle.model.specs.Tables.{no_space}
use Rattle.closing.proofs.Defaults.{space_default}
use Rattle.withdrawing.proofs.Emptying.{emptied_yes, emptied_no}
use Rattle.withdrawing.proofs.Resetting.{spaces_reset}
use Rattle.withdrawing.proofs.vacate.Goals.{then-is_data, else-is_data}
use Rattle.withdrawing.proofs.vacate.Goals as goal

pub loop-x-init : goal.loop-x-init
loop-x-init c = (omega arith, search maps)

pub loop-x-preserved : goal.loop-x-preserved
loop-x-preserved c =
    let l = c.loop-x in
    let low : l.x-index < length c.args.spaces.now = omega (arith, c.told-spaces) in (
      omega arith,
      elim c.if-is_data.branch [
        | then-is_data w ↦
            w.spaces-is ∙ emptied_yes (λ v x. is_data c.args.guest x) no_space _ _ _ l.invariant.1 low _ (space_default _ w.default.ensures) (sym c.is_data.ensures ∙ w.if-is_data.true)
        | else-is_data w ↦
            w.spaces-is ∙ emptied_no (λ v x. is_data c.args.guest x) no_space _ _ _ l.invariant.1 low (sym c.is_data.ensures ∙ w.if-is_data.false)
      ],
    )

pub returns : goal.returns
returns c = spaces_reset _ _ _ (search (maps, rules) depth 8)

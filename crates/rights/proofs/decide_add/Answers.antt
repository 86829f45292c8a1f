use Prim.Native.Nat.{◌+◌}
use mathlib.Core.Path.{◌≡◌}
use native.Mathlib.Omega.{arith}
use borrow.Author.Tests.{le-ltb}
use Rattle.lists.proofs.Choice.{both_no, both_not}
use Rattle.model.specs.Calls.{enrols}
use Rattle.edits.proofs.Kept.{decided_bad, decided_err}
use Rattle.rights.proofs.Seen.{add_none, add_not, add_full, add_done}
use Rattle.rights.proofs.decide_add.Goals as goal
use Rattle.rights.proofs.decide_add.Goals.{then-v-ge30-via-then-v-ge30, then-v-ge30-via-else-v-ge30+then-v}

pub returns-in_err-at : goal.returns-in_err-at
unfolding enrols
returns-in_err-at c = let e = c.in_err-at.ensures in decided_err _ _ _ _ c.from_residual.ensures.1 (search decided_bad)

pub returns-then-v-ge32 : goal.returns-then-v-ge32
returns-then-v-ge32 c =
    let at = c.in_ok-at.ensures in
    search add_none

pub returns-then-not-is_entitled : goal.returns-then-not-is_entitled
returns-then-not-is_entitled c =
    let at = c.in_ok-at.ensures in
    let own : c.from.result + 1 ≡ c.args.v.now.place + 1 = omega (arith, at, c.from.ensures) in
    search add_not

pub returns-then-v-ge30 : goal.returns-then-v-ge30
returns-then-v-ge30 c =
    let at = c.in_ok-at.ensures in
    let own : c.from.result + 1 ≡ c.args.v.now.place + 1 = omega (arith, at, c.from.ensures) in
    elim c.then-v-ge30.branch [ then-v-ge30-via-then-v-ge30 w ↦ search (add_full, both_no, le-ltb) | then-v-ge30-via-else-v-ge30+then-v w ↦ search (add_full, both_not, le-ltb) ]

pub returns : goal.returns
returns c =
    let at = c.in_ok-at.ensures in
    let own : c.from.result + 1 ≡ c.args.v.now.place + 1 = omega (arith, at, c.from.ensures) in
    search add_done

use Prim.Native.Nat.{◌+◌}
use mathlib.Core.Path.{◌≡◌}
use native.Mathlib.Omega.{arith}
use Rattle.model.specs.Calls.{enrols}
use Rattle.edits.proofs.Kept.{decided_bad, decided_err}
use Rattle.rights.proofs.Seen.{query_owner, query_name, query_none, query_not, query_done}
use Rattle.rights.proofs.decide_query.Goals as goal
use Rattle.rights.proofs.decide_query.Goals.{then-v-ge32-via-then-v-ge32, then-v-ge32-via-else-v-ge32+then-not-is_entitled}

pub returns-in_err-caller : goal.returns-in_err-caller
unfolding enrols
returns-in_err-caller c = let e = c.in_err-caller.ensures in decided_err _ _ _ _ c.from_residual.ensures.1 (search decided_bad)

pub returns-then-not-is_guest : goal.returns-then-not-is_guest
returns-then-not-is_guest c = let at = c.in_ok-caller.ensures in search query_owner

pub returns-then-not-good_name : goal.returns-then-not-good_name
returns-then-not-good_name c = let at = c.in_ok-caller.ensures in search query_name

pub returns-then-v-ge32 : goal.returns-then-v-ge32
returns-then-v-ge32 c =
    let at = c.in_ok-caller.ensures in
    let own : c.from-caller.result + 1 ≡ c.args.v.now.place + 1 = omega (arith, at, c.from-caller.ensures) in
    elim c.then-v-ge32.branch [ then-v-ge32-via-then-v-ge32 w ↦ search query_none | then-v-ge32-via-else-v-ge32+then-not-is_entitled w ↦ search (query_not, arith) ]

pub returns : goal.returns
returns c =
    let at = c.in_ok-caller.ensures in
    let own : c.from-caller.result + 1 ≡ c.args.v.now.place + 1 = omega (arith, at, c.from-caller.ensures) in
    search (query_done, arith)

use Prim.Native.Nat.{◌+◌}
use mathlib.Core.Path.{◌≡◌}
use native.Mathlib.Omega.{arith}
use Rattle.rights.proofs.Seen.{isolate_bad, isolate_told}
use Rattle.rights.proofs.decide_isolate.Goals as goal

pub returns-in_err-caller : goal.returns-in_err-caller
returns-in_err-caller c = let e = c.in_err-caller.ensures in isolate_bad _ _ _ _ c.from_residual.ensures.1 e.0 e.1

pub returns : goal.returns
returns c =
    let at = c.in_ok-caller.ensures in
    let own : c.from-caller.result + 1 ≡ c.args.v.now.place + 1 = omega (arith, at, c.from-caller.ensures) in
    search isolate_told

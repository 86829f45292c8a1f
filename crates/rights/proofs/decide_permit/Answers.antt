use Prim.Native.Nat.{◌+◌}
use mathlib.Core.Path.{◌≡◌}
use native.Mathlib.Omega.{arith}
use Rattle.model.specs.Calls.{enrols}
use Rattle.edits.proofs.Kept.{decided_bad, decided_err}
use Rattle.rights.proofs.Seen.{permit_self, permit_unknown, permit_refused, permit_unshared, permit_done, slot_byte, permit_byte}
use Rattle.rights.proofs.decide_permit.Goals as goal
use Rattle.rights.proofs.decide_permit.Goals.{then-guest-caller-via-then-guest-caller, then-guest-caller-via-else-guest-caller+then-v-ge8}

pub returns-in_err-caller : goal.returns-in_err-caller
unfolding enrols
returns-in_err-caller c = let e = c.in_err-caller.ensures in decided_err _ _ _ _ c.from_residual.ensures.1 (search decided_bad)

pub returns-then-guest-caller : goal.returns-then-guest-caller
returns-then-guest-caller c =
    let at = c.in_ok-caller.ensures in
    let own : c.from-caller.result + 1 ≡ c.args.v.now.place + 1 = omega (arith, at, c.from-caller.ensures) in
    elim c.then-guest-caller.branch [ then-guest-caller-via-then-guest-caller w ↦ search (permit_self, arith) | then-guest-caller-via-else-guest-caller+then-v-ge8 w ↦ search (permit_unknown, arith) ]

pub returns-in_err-slot : goal.returns-in_err-slot
returns-in_err-slot c =
    let at = c.in_ok-caller.ensures in
    let own : c.from-caller.result + 1 ≡ c.args.v.now.place + 1 = omega (arith, at, c.from-caller.ensures) in
    let w = c.in_err-slot.was in decided_err _ _ _ _ c.from_residual-in_err-slot.ensures.1 (search (permit_refused, arith))

pub returns-then-not-v : goal.returns-then-not-v
returns-then-not-v c =
    let at = c.in_ok-caller.ensures in
    let own : c.from-caller.result + 1 ≡ c.args.v.now.place + 1 = omega (arith, at, c.from-caller.ensures) in
    let w = c.in_ok-slot.was in search (permit_unshared, arith)

pub overflow_mul-slot : goal.overflow_mul-slot
overflow_mul-slot c =
    let at = c.in_ok-caller.ensures in
    let own : c.from-caller.result + 1 ≡ c.args.v.now.place + 1 = omega (arith, at, c.from-caller.ensures) in
    let w = c.in_ok-slot.was in search slot_byte

pub overflow_add-slot : goal.overflow_add-slot
overflow_add-slot c =
    let at = c.in_ok-caller.ensures in
    let own : c.from-caller.result + 1 ≡ c.args.v.now.place + 1 = omega (arith, at, c.from-caller.ensures) in
    let w = c.in_ok-slot.was in search (permit_byte, arith)

pub returns : goal.returns
returns c =
    let at = c.in_ok-caller.ensures in
    let own : c.from-caller.result + 1 ≡ c.args.v.now.place + 1 = omega (arith, at, c.from-caller.ensures) in
    let w = c.in_ok-slot.was in search (permit_done, arith)

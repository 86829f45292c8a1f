use Prim.Native.Nat.{◌+◌}
use mathlib.Core.Path.{◌≡◌}
use native.Mathlib.Omega.{arith}
use Rattle.model.specs.Calls.{enrols}
use Rattle.edits.proofs.Kept.{decided_bad, decided_err}
use Rattle.blocks.proofs.Set.{block_key, block_mark, block_refused, block_outside, block_done}
use Rattle.blocks.proofs.decide_block.Goals as goal

pub returns-in_err-caller : goal.returns-in_err-caller
unfolding enrols
returns-in_err-caller c = let e = c.in_err-caller.ensures in decided_err _ _ _ _ c.from_residual.ensures.1 (search decided_bad)

pub returns-in_err-key : goal.returns-in_err-key
returns-in_err-key c = let at = c.in_ok-caller.ensures in let e = c.in_err-key.ensures in decided_err _ _ _ _ c.from_residual-in_err-key.ensures.1 (search block_key)

pub returns-in_err-mark : goal.returns-in_err-mark
returns-in_err-mark c =
    let at = c.in_ok-caller.ensures in
    let k = c.in_ok-key.ensures in
    let e = c.in_err-mark.ensures in
    decided_err _ _ _ _ c.from_residual-in_err-mark.ensures.1 (search block_mark)

pub returns-in_err-owned_at : goal.returns-in_err-owned_at
returns-in_err-owned_at c =
    let at = c.in_ok-caller.ensures in
    let own : c.from-caller.result + 1 ≡ c.args.v.now.place + 1 = omega (arith, at, c.from-caller.ensures) in
    let k = c.in_ok-key.ensures in
    let m = c.in_ok-mark.ensures in
    let w = c.in_err-owned_at.was in
    decided_err _ _ _ _ c.from_residual-in_err-owned_at.ensures.1 (search block_refused)

pub returns-then-not-has_address : goal.returns-then-not-has_address
returns-then-not-has_address c =
    let at = c.in_ok-caller.ensures in
    let own : c.from-caller.result + 1 ≡ c.args.v.now.place + 1 = omega (arith, at, c.from-caller.ensures) in
    let k = c.in_ok-key.ensures in
    let m = c.in_ok-mark.ensures in
    let w = c.in_ok-owned_at.was in
    search block_outside

pub returns : goal.returns
returns c =
    let at = c.in_ok-caller.ensures in
    let own : c.from-caller.result + 1 ≡ c.args.v.now.place + 1 = omega (arith, at, c.from-caller.ensures) in
    let k = c.in_ok-key.ensures in
    let m = c.in_ok-mark.ensures in
    let w = c.in_ok-owned_at.was in
    search block_done

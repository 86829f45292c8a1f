use Rattle.std.proofs.Common.{ℕ, false, arith, rules, tests}
use Rattle.std.proofs.lemmas.Iterator.{IsFirst-from_position, YieldsList-from_slice}
use Rattle.std.proofs.lemmas.Option.{MatchOption-at_none}
use Rattle.std.proofs.option.Match.{if_some}
use Rattle.moves.proofs.Blocks.{length-rest, rest_more}
use Rattle.moves.proofs.find_by.Goals as goal

pub returns-in-Some-clause-before : goal.returns-in-Some-clause-before
returns-in-Some-clause-before g c =
    let No : ℕ → Type 0 = λ x. goal.F-post g c.args.passes x false in
    let first = if_some _ _ _ c.in-Some.is (IsFirst-from_position _ _ _ (λ x. Unit {0}) No c.position.ensures.ran (YieldsList-from_slice _ c.iter.ensures.rest) (λ x q k. tt) (λ x q k. search (rules, tests))) in
    rest_more No c.args.bytes.now _ _ _ _ (omega (arith, first.0)) (c.pass_blocks-start.ensures.before) first.2

pub returns-clause-before : goal.returns-clause-before
returns-clause-before g c =
    let No : ℕ → Type 0 = λ x. goal.F-post g c.args.passes x false in
    let xs = c.args.bytes.now in
    let start = c.pass_blocks-start.result in
    let none = MatchOption-at_none _ _ c.in-None.is (IsFirst-from_position _ _ _ (λ x. Unit {0}) No c.position.ensures.ran (YieldsList-from_slice _ c.iter.ensures.rest) (λ x q k. tt) (λ x q k. search (rules, tests))) in
    let long = length-rest xs start in
    λ k x y. rest_more No xs _ _ _ _ (omega (arith, long)) (c.pass_blocks-start.ensures.before) none k x (omega (arith, long))

use Rattle.std.proofs.Common.{◌≡◌, ◌∙◌, rules, tests, arith}
use Rattle.std.proofs.lemmas.Iterator.{YieldsList-from_slice}
use Rattle.std.proofs.lemmas.Iterator.Search.{all_from_yields_List}
use Rattle.lists.proofs.Loops.{lefts}
use Rattle.model.specs.SoundTest.{untouched_test}
use Rattle.listed.specs.Standings.{above_test}
use Rattle.listed.proofs.Passes.{above_at}
use Rattle.listed.proofs.Above.{above_all}
use Rattle.listed.proofs.above_ok.Goals as goal

pub loop-k-init : goal.loop-k-init
unfolding above_test
loop-k-init c = search lefts depth 6

pub returns-then-not-all : goal.returns-then-not-all
returns-then-not-all c =
    let above : c.all.result ≡ above_at c.args.guests.now c.args.entries.now c.loop-k.k =
    all_from_yields_List untouched_test _ _ _ c.all.ensures.ran (YieldsList-from_slice _ c.iter.ensures.rest) (λ x b q k. search (rules, tests)) ∙ above_all c.args.entries.now _ _ _ (omega arith) (search rules) (search rules) in
    search (lefts, above) depth 8

pub loop-k-preserved : goal.loop-k-preserved
loop-k-preserved c =
    let above : c.all.result ≡ above_at c.args.guests.now c.args.entries.now c.loop-k.k =
    all_from_yields_List untouched_test _ _ _ c.all.ensures.ran (YieldsList-from_slice _ c.iter.ensures.rest) (λ x b q k. search (rules, tests)) ∙ above_all c.args.entries.now _ _ _ (omega arith) (search rules) (search rules) in
    search (lefts, above) depth 8

pub returns : goal.returns
returns c = search lefts depth 6

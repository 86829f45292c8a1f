use Rattle.std.proofs.Common.{◌≡◌, rules, tests}
use Rattle.std.proofs.lemmas.Iterator.{YieldsList-from_slice}
use Rattle.std.proofs.lemmas.Iterator.Search.{position_from_yields_List}
use Rattle.std.specs.List.{position}
use Rattle.letters.proofs.Words.{is_set, letters_behind, no_letters}
use Rattle.letters.proofs.letters_of.Goals as goal

pub returns-in-Some : goal.returns-in-Some
returns-in-Some c =
    let e : c.position.result ≡ position is_set c.args.word.now =
    position_from_yields_List is_set _ _ c.position.result c.position.ensures.ran (YieldsList-from_slice c.args.word.now cc) (λ x b q k. search (rules, tests)) in
    letters_behind _ _ (cc)

pub returns-in-None : goal.returns-in-None
returns-in-None c =
    let e : c.position.result ≡ position is_set c.args.word.now =
    position_from_yields_List is_set _ _ c.position.result c.position.ensures.ran (YieldsList-from_slice c.args.word.now cc) (λ x b q k. search (rules, tests)) in
    no_letters _ (cc)

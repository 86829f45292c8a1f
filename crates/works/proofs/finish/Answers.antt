use Rattle.std.proofs.Common.{[], arith}
use Rattle.std.proofs.lemmas.Bool.{some_since}
use Rattle.model.specs.Session.{new_session}
use Rattle.feeds.proofs.Bounds.{undone_room}
use Rattle.works.proofs.finish.Goals as goal

pub unwrap-requires-in-Rewriting : goal.unwrap-requires-in-Rewriting
unwrap-requires-in-Rewriting c = some_since _ _ _ c.finish-in-Rewriting.ensures (λ f. let few = undone_room (f (new_session [])) in omega (arith, few))

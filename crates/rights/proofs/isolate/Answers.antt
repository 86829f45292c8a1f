use mathlib.Core.Path.{refl}
use native.Mathlib.Omega.{arith}
use Rattle.model.specs.declared.Answer.TheVariants.{Done}
use Rattle.model.specs.declared.Operation.TheVariants.{Isolate}
use Rattle.model.specs.Replies.{reply, call_of}
use Rattle.sound.proofs.Kept.{replied_sound}
use Rattle.rights.proofs.Seen.{isolate_refused, isolate_low, isolate_done, isolate_seen_refused, isolate_seen_done}
use Rattle.rights.proofs.isolate.Goals as goal

pub close-requires : goal.close-requires
close-requires c = search (isolate_low, c.args.s.now.held, arith)

pub returns-in-Err-clause-answered : goal.returns-in-Err-clause-answered
returns-in-Err-clause-answered c = record { same_state = refl; reply = search (isolate_refused, c.args.s.now.held) }

pub returns-in-Ok-clause-answered : goal.returns-in-Ok-clause-answered
returns-in-Ok-clause-answered c = record { same_state = refl; reply = search (isolate_done, c.args.s.now.held) }

pub invariant_of-s : goal.invariant_of-s
invariant_of-s c = record { held = replied_sound _ (call_of c.args.caller (Isolate c.args.id)) 0 (reply (Done 0) c.close.new.s) c.args.s.now.held (search (isolate_done, c.args.s.now.held)) }

pub returns-in-Err-clause-seen : goal.returns-in-Err-clause-seen
returns-in-Err-clause-seen c = search isolate_seen_refused

pub returns-in-Ok-clause-seen : goal.returns-in-Ok-clause-seen
returns-in-Ok-clause-seen c = search isolate_seen_done

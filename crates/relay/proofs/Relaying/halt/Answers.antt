use Rattle.std.proofs.Common.{ℕ, [], ap, ◌∙◌}
use Rattle.relay.specs.Spoken.{replied_to}
use Rattle.relay.specs.Ran.{failed, interrupted}
use Rattle.relay.proofs.Relaying.halt.Goals as goal
use Rattle.relay.proofs.Relaying.halt.Goals.{in-Interrupted, in-Failed}

pub returns-clause-line : goal.returns-clause-line
returns-clause-line c = λ m. c.replied.ensures ∙ ap (λ (n : ℕ). replied_to n []) (c.line.ensures _ m)

pub returns-clause-stops : goal.returns-clause-stops
returns-clause-stops c =
    elim c.match-stopped.branch [ in-Interrupted w ↦ rw (w.in-Interrupted.is, w.error-is) interrupted | in-Failed w ↦ rw (w.in-Failed.is, w.error-is) failed ]

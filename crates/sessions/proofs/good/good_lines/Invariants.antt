use Rattle.std.specs.Prelude.{◌≡◌, ◌≤◌, length}
use Rattle.sessions.proofs.good.good_lines.Given as goal

abbrev pub invariant-loop-line : goal.invariant-loop-line
invariant-loop-line l = (length l.text ≡ length l.initial.text) × (l.at ≤ length l.text)

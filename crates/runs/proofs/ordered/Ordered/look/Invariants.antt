use Rattle.std.proofs.Common.{◌+◌}
use Rattle.runs.proofs.Looks.{Seen}
use Rattle.runs.proofs.ordered.Ordered.look.Given as goal

abbrev pub invariant-loop-run : goal.invariant-loop-run
invariant-loop-run l = Seen l.self.runs.now l.span.first l.span.end (l.at + l.run-index) l.at l.low l.high l.held

use Rattle.std.proofs.Common.{◌≤◌}
use Rattle.granules.specs.Lines.{lines_left}
use Rattle.granules.proofs.session.Session.next_request.Given as goal

abbrev pub invariant-loop-line : goal.invariant-loop-line
invariant-loop-line g l = lines_left l.self.lines ≤ lines_left l.initial.self.lines

abbrev pub decreases-loop-line : goal.decreases-loop-line
decreases-loop-line g l = lines_left l.self.lines

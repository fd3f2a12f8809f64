use Rattle.std.proofs.Common.{◌≤◌}
use Rattle.granules.specs.Lines.{lines_left}
use Rattle.granules.proofs.session.Session.until_limit.Given as goal

abbrev pub invariant-loop-request : goal.invariant-loop-request
invariant-loop-request g l = lines_left l.self.lines ≤ lines_left l.initial.self.lines

abbrev pub decreases-loop-request : goal.decreases-loop-request
decreases-loop-request g l = lines_left l.self.lines

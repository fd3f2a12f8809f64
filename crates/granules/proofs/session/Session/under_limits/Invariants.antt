use Rattle.granules.specs.Lines.{lines_left}
use Rattle.granules.proofs.session.Session.under_limits.Given as goal

abbrev pub decreases-loop-twice : goal.decreases-loop-twice
decreases-loop-twice g l = lines_left l.self.lines

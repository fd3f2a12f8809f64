use Rattle.granules.specs.Lines.{lines_left}
use Rattle.granules.proofs.session.Session.until_limited.Given as goal

abbrev pub decreases-loop-backing : goal.decreases-loop-backing
decreases-loop-backing g l = lines_left l.self.lines

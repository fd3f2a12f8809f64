use Rattle.granules.specs.Lines.{lines_left}
use Rattle.granules.proofs.session.Session.first_mask.Given as goal

abbrev pub decreases-loop-request : goal.decreases-loop-request
decreases-loop-request g l = lines_left l.self.lines

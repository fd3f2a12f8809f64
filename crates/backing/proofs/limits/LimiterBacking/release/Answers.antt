use Rattle.backing.proofs.Limiting.{left_released}
use Rattle.backing.proofs.limits.LimiterBacking.release.Goals as goal

pub returns-clause-after : goal.returns-clause-after
returns-clause-after g c =
    let below = c.args.self.now.below in
    left_released (g.B.Backing.means below) (g.B.Backing.means c.release.new.self) c.args.self.now.left c.args.stretch.first c.args.stretch.count c.in_ok-removed.removed c.saturating_add-self.result
    (g.B.Backing.sound below) c.in_ok-removed.ensures.after c.in_ok-removed.ensures.answer c.saturating_add-self.ensures

use Rattle.std.proofs.Common.{◌≡◌, ◌-◌}
use Rattle.backing.specs.Meaning.{missing}
use Rattle.backing.proofs.interface.Backing.missing.Given as goal

abbrev pub invariant-loop-g : goal.invariant-loop-g
invariant-loop-g g l = l.wanted ≡ missing (g.Self.Backing.means l.self) l.fn.stretch.first (l.g - l.fn.stretch.first)

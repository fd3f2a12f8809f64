use Rattle.std.proofs.Common.{◌+◌, ◌-◌, ◌≤◌, not, sym, ap, ◌∙◌, add-zero, arith, rules}
use Rattle.backing.specs.Meaning.{one}
use Rattle.backing.specs.Soundness.{tally_le}
use Rattle.backing.proofs.Tallies.{outside_none, outside_more}
use Rattle.backing.proofs.interface.Backing.missing.Goals as goal
use Rattle.backing.proofs.interface.Backing.missing.Goals.{then-not-held, else-not-held}

pub loop-g-init : goal.loop-g-init
loop-g-init g c = outside_none (g.Self.Backing.means c.args.self.now).held c.args.stretch.first c.in_ok-span.span.first c.in_ok-span.ensures.first

pub overflow_add-wanted : goal.overflow_add-wanted
overflow_add-wanted g c =
    let few = tally_le (λ x. not ((g.Self.Backing.means c.args.self.now).held x)) c.args.stretch.first (c.loop-g.g - c.args.stretch.first) in
    let same = c.loop-g.invariant in
    search rules

pub loop-g-preserved : goal.loop-g-preserved
loop-g-preserved g c =
    let from : c.args.stretch.first ≤ c.loop-g.g = omega (arith, c.in_ok-span.ensures.first) in
    let more = outside_more (g.Self.Backing.means c.args.self.now).held c.args.stretch.first c.loop-g.wanted c.if-not-held.wanted c.loop-g.g c.loop-g.invariant from in
    elim c.if-not-held.branch [
      | then-not-held w ↦ more (w.wanted-is ∙ ap (λ b. c.loop-g.wanted + one (not b)) w.if-not-held.ensures)
      | else-not-held w ↦ more (w.wanted-is ∙ sym (add-zero _) ∙ ap (λ b. c.loop-g.wanted + one (not b)) w.if-not-held.ensures)
    ]

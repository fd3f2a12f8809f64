use Rattle.std.proofs.Common.{◌≤◌, false, subst, sym, arith}
use Rattle.std.proofs.lemmas.Bool.Decides.{nat_tests}
use Rattle.backing.proofs.Lawful.{all_released}
use Rattle.backing.proofs.Tallies.{tally_part, turned_fewer}
use Rattle.runs.specs.Lent.{items_of}
use Rattle.runs.specs.Rows.{in_runs}
use Rattle.runs.specs.Reach.{parted, Reaches}
use Rattle.runs.specs.Lists.{runs_of}
use Rattle.runs.proofs.Turns.{Turned, few_runs, parting}
use Rattle.runs.proofs.Keeps.{Changed, changed, spares_kept, still_ok}
use Rattle.runs.proofs.lists.RunListBacking.release.Goals as goal
use Rattle.runs.proofs.lists.RunListBacking.release.Goals.{After-look-reach, After-cut}

-- what the span reaches, in the fields
reached : (c : After-look-reach) → Reaches (items_of c.self.inside.rows) c.in_ok-span.span.first c.in_ok-span.span.end c.look-reach.result
reached c = subst (λ l. Reaches (runs_of l) c.in_ok-span.span.first c.in_ok-span.span.end c.look-reach.result) (sym c.self.view_is) c.look-reach.ensures

turned : (c : After-look-reach) → Turned c.self.inside.size (items_of c.self.inside.rows) (parted (items_of c.self.inside.rows) c.look-reach.result c.in_ok-span.span.first c.in_ok-span.span.end) c.in_ok-span.span.first c.in_ok-span.span.end false
turned c =
    let l = c.self.inside in
    let span = c.in_ok-span.span in
    let fits : c.in_ok-span.span.end ≤ c.self.inside.size = grind (arith, nat_tests) in
    parting l.size (items_of l.rows) l.ok.apart span.first span.end span.some fits c.look-reach.result (reached c)

pub cut-requires-clause-fits : goal.cut-requires-clause-fits
cut-requires-clause-fits c =
    let l = c.self.inside in
    omega (arith, l.ok.covered, few_runs l.size _ (turned (goal.at.cut-requires-clause-fits c).After-look-reach).apart)

-- the runs that hold the list's set afterwards
now : (c : After-cut) → Changed c.self.inside.size c.self.inside.rows.places.now (items_of c.self.inside.rows) c.in_ok-span.span.first c.in_ok-span.span.end false c.cut.new.runs.places.now c.cut.new.runs.len
now c =
    let l = c.self.inside in
    let span = c.in_ok-span.span in
    let e = c.cut.ensures in
    changed l.size l.rows.places.now (items_of l.rows) span.first span.end false c.cut.new.runs.places.now (parted (items_of c.self.inside.rows) c.look-reach.result c.in_ok-span.span.first c.in_ok-span.span.end) c.cut.new.runs.len
    (turned (goal.at.After-cut c).After-look-reach) e.runs e.count e.rest

pub invariant_of-self-inside : goal.invariant_of-self-inside
invariant_of-self-inside c =
    let l = c.self.inside in
    let span = c.in_ok-span.span in
    let n = now (goal.at.invariant_of-self-inside c).After-cut in
    let fits : c.in_ok-span.span.end ≤ c.self.inside.size = grind (arith, nat_tests) in
    let fewer = turned_fewer (in_runs (items_of l.rows)) (in_runs (items_of c.cut.new.runs)) span.first span.end l.size span.some fits n.turned.held in (
      still_ok l.size l.rows.places.now (items_of l.rows) span.first span.end false c.cut.new.runs.places.now c.cut.new.runs.len n
          l.rows.len l.count _ l.ok c.cut.new.runs.used (grind (arith, fewer)),
      tt,
    )

pub overflow_sub-self : goal.overflow_sub-self
overflow_sub-self c =
    let l = c.self.inside in
    let part = tally_part (in_runs (items_of l.rows)) c.args.stretch.first c.args.stretch.count l.size in
    let reaches = reached (goal.at.overflow_sub-self c).After-look-reach in
    grind (arith, nat_tests, part, reaches, l.ok.counted)

pub returns-clause-after : goal.returns-clause-after
returns-clause-after c =
    let held = (now (goal.at.returns-clause-after c).After-cut).turned.held in
    rw (← c.self.view_is) (all_released _ _ _ _ _ _ _ c.in_ok-span.ensures.first c.in_ok-span.ensures.end held)

pub returns-clause-spares : goal.returns-clause-spares
returns-clause-spares c =
    let l = c.self.inside in
    let span = c.in_ok-span.span in
    rw (← c.self.view_is) (spares_kept l.size l.rows.places.now (items_of l.rows) span.first span.end false c.cut.new.runs.places.now c.cut.new.runs.len (now (goal.at.returns-clause-spares c).After-cut))

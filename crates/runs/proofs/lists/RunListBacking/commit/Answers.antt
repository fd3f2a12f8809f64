use Rattle.std.proofs.Common.{◌≤◌, true, subst, sym, arith}
use Rattle.std.proofs.lemmas.Bool.Decides.{nat_tests}
use Rattle.backing.specs.Replies.{commit_reply}
use Rattle.backing.proofs.Lawful.{all_committed}
use Rattle.backing.proofs.Tallies.{tally_both, tally_room, turned_more}
use Rattle.runs.specs.Lent.{items_of}
use Rattle.runs.specs.Rows.{in_runs}
use Rattle.runs.specs.Reach.{merged, Reaches}
use Rattle.runs.specs.Lists.{list_means, runs_of}
use Rattle.runs.proofs.Turns.{Turned, few_runs, merging}
use Rattle.runs.proofs.Keeps.{Changed, changed, spares_kept, still_ok}
use Rattle.runs.proofs.lists.RunListBacking.commit.Goals as goal
use Rattle.runs.proofs.lists.RunListBacking.commit.Goals.{After-look-reach, After-merge}

-- what the span reaches, in the fields
reached : (c : After-look-reach) → Reaches (items_of c.self.inside.rows) c.in_ok-span.span.first c.in_ok-span.span.end c.look-reach.result
reached c = subst (λ l. Reaches (runs_of l) c.in_ok-span.span.first c.in_ok-span.span.end c.look-reach.result) (sym c.self.view_is) c.look-reach.ensures

turned : (c : After-look-reach) → Turned c.self.inside.size (items_of c.self.inside.rows) (merged (items_of c.self.inside.rows) c.look-reach.result) c.in_ok-span.span.first c.in_ok-span.span.end true
turned c =
    let l = c.self.inside in
    let span = c.in_ok-span.span in
    let fits : c.in_ok-span.span.end ≤ c.self.inside.size = grind (arith, nat_tests) in
    merging l.size (items_of l.rows) l.ok.apart span.first span.end span.some fits c.look-reach.result (reached c)

pub merge-requires-clause-fits : goal.merge-requires-clause-fits
merge-requires-clause-fits c =
    let l = c.self.inside in
    omega (arith, l.ok.covered, few_runs l.size _ (turned (goal.at.merge-requires-clause-fits c).After-look-reach).apart)

-- the runs that hold the list's set afterwards
now : (c : After-merge) → Changed c.self.inside.size c.self.inside.rows.places.now (items_of c.self.inside.rows) c.in_ok-span.span.first c.in_ok-span.span.end true c.merge.new.runs.places.now c.merge.new.runs.len
now c =
    let l = c.self.inside in
    let span = c.in_ok-span.span in
    let e = c.merge.ensures in
    changed l.size l.rows.places.now (items_of l.rows) span.first span.end true c.merge.new.runs.places.now (merged (items_of c.self.inside.rows) c.look-reach.result) c.merge.new.runs.len
    (turned (goal.at.After-merge c).After-look-reach) e.runs e.count e.rest

pub invariant_of-self-inside : goal.invariant_of-self-inside
invariant_of-self-inside c =
    let l = c.self.inside in
    let span = c.in_ok-span.span in
    let n = now (goal.at.invariant_of-self-inside c).After-merge in
    let fits : c.in_ok-span.span.end ≤ c.self.inside.size = grind (arith, nat_tests) in
    let more = turned_more (in_runs (items_of l.rows)) (in_runs (items_of c.merge.new.runs)) span.first span.end l.size span.some fits n.turned.held in (
      still_ok l.size l.rows.places.now (items_of l.rows) span.first span.end true c.merge.new.runs.places.now c.merge.new.runs.len n
          l.rows.len l.count _ l.ok c.merge.new.runs.used (grind (arith, tally_both, more)),
      tt,
    )

pub returns-clause-answer : goal.returns-clause-answer
unfolding commit_reply
returns-clause-answer c =
    let room = tally_room (list_means c.args.self.now).held c.args.stretch.first c.args.stretch.count c.args.self.now.size in
    grind (arith, nat_tests, tally_both, room)

pub returns-clause-after : goal.returns-clause-after
returns-clause-after c =
    let held = (now (goal.at.returns-clause-after c).After-merge).turned.held in
    rw (← c.self.view_is) (all_committed _ _ _ _ _ _ _ c.in_ok-span.ensures.first c.in_ok-span.ensures.end held)

pub returns-clause-spares : goal.returns-clause-spares
returns-clause-spares c =
    let l = c.self.inside in
    let span = c.in_ok-span.span in
    rw (← c.self.view_is) (spares_kept l.size l.rows.places.now (items_of l.rows) span.first span.end true c.merge.new.runs.places.now c.merge.new.runs.len (now (goal.at.returns-clause-spares c).After-merge))

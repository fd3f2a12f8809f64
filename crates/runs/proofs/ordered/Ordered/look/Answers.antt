use Rattle.std.proofs.Common.{◌≡◌, ◌+◌, ◌-◌, ◌<◌, ◌≤◌, min, max, ltb, leb, get_or, length, take, drop, length-take, length-drop, get_or-take, refl, ap, ◌∙◌, arith, rules}
use Rattle.std.proofs.lemmas.Bool.{le-leb, ltb-true}
use Rattle.std.proofs.lemmas.List.Sorted.{IsPartitionPoint-from_clause}
use Rattle.backing.proofs.Parts.{get_or-part}
use Rattle.backing.specs.Meaning.{most_granules}
use Rattle.runs.specs.declared.rows.Run.{Run}
use Rattle.runs.specs.Rows.{end_of}
use Rattle.runs.proofs.Order.{blank}
use Rattle.runs.proofs.Looks.{seen_from, seen_met, seen_same, run_fits, few_more, all_seen}
use Rattle.runs.proofs.Passing.{point_past}
use Rattle.runs.proofs.Points.{firsts_parted, ends_parted, Reached, reached_by}
use Rattle.runs.proofs.ordered.Ordered.look.Goals as goal
use Rattle.runs.proofs.ordered.Ordered.look.Goals.{After-passing-met, In-loop-run}

-- what the two searches found
reached : (c : After-passing-met) → Reached c.args.self.now.runs.now c.args.span.first c.args.span.end c.passing-at.result (c.passing-at.result + c.passing-met.result)
reached c =
    let rs = c.args.self.now.runs.now in
    let apart = c.args.self.now.apart in
    let at = c.passing-at.result in
    let some = c.args.span.some in
    let few : c.passing-met.result ≤ length rs - at = omega (arith, c.passing-met.ensures.bound, length-take (length rs - c.passing-at.result) (drop c.passing-at.result rs)) in
    let ends = IsPartitionPoint-from_clause (λ r. ltb (end_of r) c.args.span.first) _ _ c.passing-at.ensures.partitioned (ends_parted rs (most_granules + 1) apart c.args.span.first) (λ a r q k. search rules) in
    reached_by rs c.args.span.first c.args.span.end at (at + c.passing-met.result) c.passing-at.ensures.bound (omega (arith, few, c.passing-at.ensures.bound)) ends
    (point_past (λ r. leb r.first c.args.span.end) rs (firsts_parted rs (most_granules + 1) apart c.args.span.end) at c.passing-met.result _ refl few
    (λ k d h. le-leb _ _ (omega (arith, some, ltb-true _ _ (ends.0 k d (omega arith) h))))
    (λ parted. IsPartitionPoint-from_clause (λ r. leb r.first c.args.span.end) _ _ c.passing-met.ensures.partitioned parted (λ a r q k. search rules)))

pub loop-run-init : goal.loop-run-init
loop-run-init c =
    let rs = c.args.self.now.runs.now in
    let r = reached (goal.at.loop-run-init c).After-passing-met in
    seen_from rs c.args.self.now.apart c.args.span.first c.args.span.end c.args.span.some c.passing-at.result r.at_in r.ends _ _ _ _ (omega arith) (omega arith) (omega arith) (omega arith)

abbrev the_run : In-loop-run → Run
the_run c = get_or (take c.passing-met.result (take (length c.args.self.now.runs.now - c.passing-at.result) (drop c.passing-at.result c.args.self.now.runs.now))) c.loop-run.run-index blank

-- the run of a turn, and where it stands
place : (c : In-loop-run) → c.loop-run.run-index < c.passing-met.result
place c =
    omega (arith, c.loop-run-test.true, length-take c.passing-met.result (take (length c.args.self.now.runs.now - c.passing-at.result) (drop c.passing-at.result c.args.self.now.runs.now)))

within : (c : In-loop-run) → c.passing-at.result + c.loop-run.run-index < length c.args.self.now.runs.now
within c = omega (arith, place c, (reached (goal.at.In-loop-run c).After-passing-met).past_in)

item : (c : In-loop-run) → the_run c ≡ get_or c.args.self.now.runs.now (c.passing-at.result + c.loop-run.run-index) blank
item c =
    let rs = c.args.self.now.runs.now in
    get_or-take c.passing-met.result (take (length rs - c.passing-at.result) (drop c.passing-at.result rs)) c.loop-run.run-index blank (place c)
    ∙ get_or-part c.passing-at.result (length rs - c.passing-at.result) rs c.loop-run.run-index blank (omega (arith, within c))

-- the run fits, meets the span or lies right beside it, and adds no more than the span has
record Turn (c : In-loop-run) : Type 0 where
  fits : end_of (the_run c) < (most_granules + 1)
  begins : (the_run c).first ≤ c.args.span.end
  meets : c.args.span.first ≤ end_of (the_run c)
  few : c.loop-run.held + (min (end_of (the_run c)) c.args.span.end - max (the_run c).first c.args.span.first) ≤ c.args.span.end - c.args.span.first

turn : (c : In-loop-run) → Turn c
turn c =
    let r = reached (goal.at.In-loop-run c).After-passing-met in
    let firsts = ap (λ x. x.first) (item c) in
    let ends = ap end_of (item c) in
    let k = c.passing-at.result + c.loop-run.run-index in
    record {
      fits = omega (arith, ends, run_fits c.args.self.now.runs.now c.args.self.now.apart c.args.span.first c.args.span.end c.args.span.some (c.passing-at.result + c.loop-run.run-index) c.passing-at.result c.loop-run.low c.loop-run.high c.loop-run.held blank (within c) c.loop-run.invariant);
      begins = omega (arith, firsts, r.begins k blank (omega (arith, place c)));
      meets = omega (arith, ends, r.meets k blank (omega arith) (within c));
      few = omega (arith, firsts, ends, few_more c.args.self.now.runs.now c.args.self.now.apart c.args.span.first c.args.span.end c.args.span.some (c.passing-at.result + c.loop-run.run-index) c.passing-at.result c.loop-run.low c.loop-run.high c.loop-run.held blank (within c) c.loop-run.invariant);
    }

pub end-requires : goal.end-requires
end-requires c = let t = turn (goal.at.end-requires c).In-loop-run in omega (arith, t.fits)

pub overflow_sub-held : goal.overflow_sub-held
overflow_sub-held c = let t = turn (goal.at.overflow_sub-held c).In-loop-run in omega (arith, t.begins, t.meets, c.args.span.some)

pub overflow_add-held : goal.overflow_add-held
overflow_add-held c =
    let t = turn (goal.at.overflow_add-held c).In-loop-run in
    let small : c.loop-run.held + (c.min.result - c.max.result) ≤ most_granules = omega (arith, t.few, c.min.ensures, c.max.ensures, c.end-in-loop-run.ensures, c.requires) in
    search rules

pub loop-run-preserved : goal.loop-run-preserved
loop-run-preserved c =
    let a = (goal.at.loop-run-preserved c).In-loop-run in
    let r = reached (goal.at.loop-run-preserved c).After-passing-met in
    let at = c.passing-at.result in
    let k = c.passing-at.result + c.loop-run.run-index in
    let firsts = ap (λ x. x.first) (item a) in
    let ends = ap end_of (item a) in
    seen_same c.args.self.now.runs.now c.args.span.first c.args.span.end (k + 1) (at + (c.loop-run.run-index + 1)) at at c.min-low.result c.max-high.result _ (omega arith) refl
    (seen_met c.args.self.now.runs.now c.args.self.now.apart c.args.span.first c.args.span.end c.args.span.some k at c.loop-run.low c.loop-run.high c.loop-run.held blank (within a) c.loop-run.invariant
    (r.meets k blank (omega arith) (within a)) (r.begins k blank (omega (arith, place a))) c.min-low.result c.max-high.result _
    (omega (arith, c.min-low.ensures, firsts)) (omega (arith, c.max-high.ensures, c.end.ensures, ends)) (omega (arith, c.min.ensures, c.max.ensures, c.end-in-loop-run.ensures, firsts, ends)))

pub returns : goal.returns
returns c =
    let rs = c.args.self.now.runs.now in
    let r = reached (goal.at.returns c).After-passing-met in
    let at = c.passing-at.result in
    let rest = length-take (length c.args.self.now.runs.now - c.passing-at.result) (drop c.passing-at.result c.args.self.now.runs.now) in
    let long = length-take c.passing-met.result (take (length c.args.self.now.runs.now - c.passing-at.result) (drop c.passing-at.result c.args.self.now.runs.now)) in
    let all : c.passing-at.result + c.loop-run.run-index ≡ c.passing-at.result + c.passing-met.result = omega (arith, c.loop-run-test.false, c.loop-run.auto.run-index-end, long, rest, length-drop c.passing-at.result c.args.self.now.runs.now, r.past_in) in
    all_seen rs c.args.self.now.apart c.args.span.first c.args.span.end c.args.span.some c.requires _
    (seen_same rs c.args.span.first c.args.span.end (at + c.loop-run.run-index) (at + c.passing-met.result) at at c.loop-run.low c.loop-run.high c.loop-run.held all refl c.loop-run.invariant)
    r.past_in (λ d h. r.beyond (c.passing-at.result + c.passing-met.result) d (omega arith) h)

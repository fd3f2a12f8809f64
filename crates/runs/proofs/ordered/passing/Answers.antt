use Rattle.std.proofs.Common.{◌<◌, length, length-take, arith}
use borrow.Author.Rules.{of_calls}
use Rattle.std.proofs.lemmas.Bool.Decides.{nat_tests}
use Rattle.runs.specs.declared.rows.Run.{Run}
use Rattle.runs.proofs.Passing.{told, passed_more, passed_to, failed_from, point_past}
use Rattle.runs.proofs.ordered.passing.Goals as goal
use Rattle.runs.proofs.ordered.passing.Goals.{then-is_empty-via-then-is_empty, then-is_empty-via-else-is_empty+then-not-test, then-loop-near-test+else-test-2, else-loop-near-test}

pub returns-then-is_empty-clause-partitioned : goal.returns-then-is_empty-clause-partitioned
returns-then-is_empty-clause-partitioned g c = λ p key parted. (
  λ k d l h. absurd (omega arith),
  elim c.then-is_empty.branch [
    | then-is_empty-via-then-is_empty w ↦ λ k d l h. grind (arith, nat_tests)
    | then-is_empty-via-else-is_empty+then-not-test w ↦
        failed_from p c.args.runs.now parted 0 _ (grind (arith, nat_tests)) (told {g = g.F.Fn} p key (search of_calls) (search of_calls) w.test.ensures w.if-not-test.true)
  ],
)

pub returns-then-test-clause-partitioned : goal.returns-then-test-clause-partitioned
returns-then-test-clause-partitioned g c = λ p key parted.
    point_past p c.args.runs.now parted _ c.partition_point.result _ (omega arith) (omega (arith, c.partition_point.ensures.bound, length-take {A = Run}))
    (λ k d h. passed_to p c.args.runs.now parted _ _ c.if-runs-gt-NEAR.true (told {g = g.F.Fn} p key (search of_calls) (search of_calls) c.test-then-runs-gt-NEAR.ensures c.if-test.true) k d (omega arith))
    (c.partition_point.ensures.partitioned p key)

pub loop-near-init : goal.loop-near-init
loop-near-init g c =
    let some : 0 < length c.args.runs.now = grind (arith, nat_tests) in
    record {
      within = omega (arith, some);
      passed = λ p key k d h. passed_more p c.args.runs.now 0 _ some (λ k d h. absurd (omega arith)) (told {g = g.F.Fn} p key (search of_calls) (search of_calls) c.test.ensures c.if-not-test.false) k d (omega arith);
    }

pub loop-near-preserved : goal.loop-near-preserved
loop-near-preserved g c = record {
  within = omega arith;
  passed = λ p key. passed_more p c.args.runs.now c.loop-near.near _ (omega arith) (c.loop-near.invariant.passed p key) (told {g = g.F.Fn} p key (search of_calls) (search of_calls) c.test-in-loop-near.ensures c.if-test-2.true);
}

pub returns-clause-partitioned : goal.returns-clause-partitioned
returns-clause-partitioned g c = λ p key parted. (
  λ k d l h. c.loop-near.invariant.passed p key k d h,
  elim c.loop-near-test.branch [
    | then-loop-near-test+else-test-2 w ↦ failed_from p c.args.runs.now parted c.loop-near.near _ w.loop-near-test.true (told {g = g.F.Fn} p key (search of_calls) (search of_calls) w.test-in-loop-near.ensures w.if-test-2.false)
    | else-loop-near-test w ↦ λ k d l h. absurd (omega (arith, w.loop-near-test.false))
  ],
)

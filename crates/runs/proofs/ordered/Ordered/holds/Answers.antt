use Rattle.std.proofs.Common.{◌+◌, leb, arith, rules}
use Rattle.std.proofs.lemmas.Bool.{leb-true, leb-false}
use Rattle.std.proofs.lemmas.List.Sorted.{IsPartitionPoint-from_clause}
use Rattle.backing.specs.Meaning.{most_granules}
use Rattle.runs.proofs.Points.{firsts_parted, held_by}
use Rattle.runs.proofs.ordered.Ordered.holds.Goals as goal

pub returns : goal.returns
returns c =
    let rs = c.args.self.now.runs.now in
    let apart = c.args.self.now.apart in
    let point = IsPartitionPoint-from_clause (λ r. leb r.first c.args.granule) _ _ c.passing-past.ensures.partitioned (firsts_parted rs (most_granules + 1) apart c.args.granule) (λ a r q k. search rules) in
    held_by rs (most_granules + 1) apart c.passing-past.result c.args.granule c.passing-past.ensures.bound
    (λ j d h. leb-true _ _ (point.0 j d (omega arith) h)) (λ j d l h. leb-false _ _ (point.1 j d l h))
    c.last-last.result c.is_some_and.result _ c.last-last.ensures.value c.is_some_and.ensures (λ x q. search rules)

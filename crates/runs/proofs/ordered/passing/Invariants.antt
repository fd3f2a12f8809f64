use Rattle.std.proofs.Common.{◌≡◌, ℕ, ◌-◌, ◌<◌, ◌≤◌, Bool, true, length, get_or}
use Rattle.std.specs.Fn.{ComputesKey}
use Rattle.runs.specs.declared.rows.Run.{Run}
use Rattle.runs.proofs.ordered.passing.Given as goal

abbrev pub invariant-loop-near : goal.invariant-loop-near
invariant-loop-near g l = record {
  within : l.near ≤ length l.runs;
  passed : (p : Run → Bool) → ComputesKey g.F.Fn p l.test → (k : ℕ) (d : Run) → k < l.near → p (get_or l.runs k d) ≡ true;
}

abbrev pub decreases-loop-near : goal.decreases-loop-near
decreases-loop-near g l = length l.runs - l.near

-- What follows of runs that are in order and apart.
use Rattle.std.specs.Prelude.{◌≡◌, ℕ, ◌+◌, ◌≤◌, List, length}
use Rattle.runs.specs.declared.rows.Run.{Run}
use Rattle.runs.specs.Rows.{Apart, in_runs, records_for}

-- there are never more runs than half of the granules, rounded up
abbrev pub HalfAsManyRecordsSuffice : Type 0
HalfAsManyRecordsSuffice = (size : ℕ) (runs : List Run) → Apart 0 (size + 1) runs → length runs ≤ records_for size

-- the same granules make the same runs
abbrev pub SameGranulesSameRuns : Type 0
SameGranulesSameRuns =
    (size : ℕ) (xs ys : List Run) → Apart 0 (size + 1) xs → Apart 0 (size + 1) ys → ((g : ℕ) → in_runs xs g ≡ in_runs ys g) → xs ≡ ys

-- What a stretch of granules, from first up to end, reaches among the runs.
use Rattle.std.specs.Prelude.{◌≡◌, ℕ, ◌+◌, ◌-◌, ◌<◌, ◌≤◌, ◌||◌, List, [], ◌∷◌, ◌++◌, length, take, drop}
use Rattle.backing.specs.Meaning.{in_span, tally}
use Rattle.runs.specs.declared.rows.Run.{Run}
use Rattle.runs.specs.declared.rows.Reach.{Reach}
use Rattle.runs.specs.Rows.{Apart, in_runs, row, rows, spliced}

-- the runs before, those reached and those past; the stretch and those reached are all from low up to high
pub record Reaches (runs : List Run) (first end : ℕ) (is : Reach) : Type 0 where
  pub order : is.at ≤ is.past
  pub within : is.past ≤ length runs
  pub from : is.low ≤ first
  pub to : end ≤ is.high
  pub before : Apart 0 is.low (take is.at runs)
  pub after : (bound : ℕ) → Apart 0 bound runs → end < bound → Apart (is.high + 1) bound (drop is.past runs)
  pub joined : (g : ℕ) → (in_span first end g || in_runs (take is.past runs) g) ≡ (in_span is.low is.high g || in_runs (take is.at runs) g)
  pub counted : is.held ≡ tally (in_runs runs) first (end - first)

-- the runs with those reached joined into one
abbrev pub merged : List Run → Reach → List Run
merged runs is = spliced runs is.at is.past (row is.low is.high ∷ [])

-- the runs with a stretch taken out of those reached: what is left of them on either side stays
abbrev pub parted : List Run → Reach → ℕ → ℕ → List Run
parted runs is first end = spliced runs is.at is.past (rows is.low first ++ rows end is.high)

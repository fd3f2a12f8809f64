-- What a run list means: the granules in its runs, all of them allowed.
use Rattle.std.specs.Prelude.{ℕ, List, drop, Result}
use Rattle.backing.specs.Makings.{lent_making}
use Rattle.backing.specs.Meaning.{Meaning}
use Rattle.backing.specs.Replies.{Reply}
use Rattle.runs.specs.declared.rows.Run.{Run}
use Rattle.runs.specs.declared.lists.RunList.{RunList}
use Rattle.runs.specs.Lent.{items_of}
use Rattle.runs.specs.Rows.{in_runs, records_for}

-- the runs of a list, in the first of its records
abbrev pub runs_of : RunList → List Run
runs_of l = items_of l.rows

-- a list as a backing: the granules in its runs are committed, and all may be
abbrev pub list_means : RunList → Meaning
list_means l = record { size = l.size; allowance = l.size; held = in_runs (runs_of l) }

-- the records past those that suffice
abbrev pub spare_records : ℕ → List Run → List Run
spare_records size records = drop (records_for size) records

-- a list needs a record for each two granules
abbrev pub list_making : ℕ → ℕ → Result Meaning Reply
list_making size records = lent_making size (records_for size) records

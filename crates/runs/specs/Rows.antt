-- Runs: rows of committed granules, in order and apart.
use Rattle.std.specs.Prelude.{◌≡◌, ℕ, ◌+◌, ◌-◌, ◌/◌, ◌≤◌, Bool, true, false, if◌then◌else◌, ◌&&◌, ◌||◌, List, [], ◌∷◌, ◌++◌, length, take, drop, nat_le, nat_lt}
use Rattle.backing.specs.Meaning.{among, tally, most_granules}
use Rattle.runs.specs.declared.rows.Run.{Run}

-- the granule right after a run
abbrev pub end_of : Run → ℕ
end_of run = run.first + run.count

-- granule g lies in a run
abbrev pub covers : Run → ℕ → Bool
covers run g = among run.first run.count g

-- granule g lies in one of the runs
unfoldable pub in_runs : List Run → ℕ → Bool
in_runs [] g = false
in_runs (run ∷ runs) g = covers run g || in_runs runs g

-- runs in order, none empty: the first from low on, each other after a gap of a granule or more, and such a gap between the last and high
unfoldable pub in_order : ℕ → ℕ → List Run → Bool
in_order low high [] = nat_le low high
in_order low high (run ∷ runs) = (nat_le low run.first && nat_le 1 run.count) && in_order (end_of run + 1) high runs

-- the same as a fact
abbrev pub Apart : ℕ → ℕ → List Run → Type 0
Apart low high runs = in_order low high runs ≡ true

-- a run is a longest row of a set: some granules, all in it, and neither the one before them nor the one after
pub record Longest (set : ℕ → Bool) (run : Run) : Type 0 where
  pub some : 1 ≤ run.count
  pub all : (g : ℕ) → covers run g ≡ true → set g ≡ true
  pub before : (g : ℕ) → g + 1 ≡ run.first → set g ≡ false
  pub after : set (end_of run) ≡ false

-- the granules from low up to high as one run
abbrev pub row : ℕ → ℕ → Run
row low high = record { first = low; count = high - low }

-- the same as a list, with none where there is no granule
abbrev pub rows : ℕ → ℕ → List Run
rows low high = if nat_lt low high then row low high ∷ [] else []

-- a row with other items in the place of those from at up to past
abbrev pub spliced : {T : Type 0} → List T → ℕ → ℕ → List T → List T
spliced items at past new = take at items ++ (new ++ drop past items)

-- how many records suffice for so many granules
abbrev pub records_for : ℕ → ℕ
records_for size = (size + 1) / 2

-- a list's size, the memory for it, its runs in order and apart, none past the last granule, and the count that it keeps
pub record RunListOk (records : List Run) (len size count : ℕ) : Type 0 where
  pub some : 1 ≤ size
  pub bounded : size ≤ most_granules
  pub covered : records_for size ≤ length records
  pub used : len ≤ length records
  pub apart : Apart 0 (size + 1) (take len records)
  pub counted : count ≡ tally (in_runs (take len records)) 0 size

-- The lines of the input, each with its end: a line feed, and a carriage return right before it or not.
use Rattle.std.specs.Prelude.{◌≡◌, ℕ, ◌+◌, ◌-◌, ◌<◌, min, if◌then◌else◌, List, length, take, Some, None, vec_items, Option, ◌==◌, slice_index}
use Rattle.requests.specs.Lines.{request_of}
use Rattle.requests.specs.declared.Request.{Request}
use Rattle.granules.specs.declared.input.Line.{Line}
use Rattle.granules.specs.declared.input.Lines.{Lines}
use Rattle.granules.specs.declared.input.Line.TheVariants.{Asks, Empty, Bad}

-- the byte that stands n from a line's end
abbrev pub last : ℕ → List ℕ → ℕ
last n line = slice_index line (length line - n)

-- how many bytes end a line
abbrev pub ending : List ℕ → ℕ
ending line = if last 1 line == 10 then (if last 2 line == 13 then 2 else 1) else 0

-- a line without its end
abbrev pub without_end : List ℕ → List ℕ
without_end line = take (length line - ending line) line

-- the most lines that can be counted
abbrev pub most_lines : ℕ
most_lines = 18446744073709551615

-- the number after a line's, unless there are more lines than can be counted
abbrev pub next_number : ℕ → ℕ
next_number n = min (n + 1) most_lines

-- the line that was read last, with its end
abbrev pub line_of : {R : Type 0} → Lines R → List ℕ
line_of lines = vec_items lines.line

-- how many more lines can be counted
abbrev pub lines_left : {R : Type 0} → Lines R → ℕ
lines_left lines = most_lines - lines.number

-- a line spells a request
abbrev pub Spells : List ℕ → Request → Type 0
Spells line request = request_of (without_end line) ≡ Some request

-- what a line that was read is said to be; none where nothing was read
abbrev pub Reads : List ℕ → Option Line → Type 0
Reads line (Some (Asks request)) = Spells line request
Reads line (Some Empty) = (length (without_end line) ≡ 0) × (0 < length line)
Reads line (Some Bad) = (request_of (without_end line) ≡ None) × (0 < length (without_end line))
Reads line None = length line ≡ 0

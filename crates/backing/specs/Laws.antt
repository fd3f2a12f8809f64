-- What follows of every backing from what its calls answer and leave.
use Rattle.std.specs.Prelude.{◌≡◌, ℕ, ◌+◌, min, true, not, ◌&&◌, ◌||◌, List, [], ◌∷◌}
use Rattle.backing.specs.Meaning.{Meaning, Sound, count, missing, inside, among, limited, commit_after, release_after}
use Rattle.backing.specs.Replies.{accepted, refused, commit_reply, release_reply}

-- a call that changes a backing: its first granule and how many
pub data Call : Type 0 where
  commit : ℕ → ℕ → Call
  release : ℕ → ℕ → Call

-- a backing after a call, and after a list of them
abbrev pub call_after : Meaning → Call → Meaning
call_after m (commit first n) = commit_after m first n
call_after m (release first n) = release_after m first n

abbrev pub calls_after : Meaning → List Call → Meaning
calls_after m [] = m
calls_after m (call ∷ calls) = calls_after (call_after m call) calls

-- a refused call leaves what is committed as it was
abbrev pub RefusalsChangeNothing : Type 0
RefusalsChangeNothing =
    (m : Meaning) (first n number : ℕ) (values : List ℕ)
    → (commit_reply m first n ≡ refused number values → commit_after m first n ≡ m)
    × (release_reply m first n ≡ refused number values → release_after m first n ≡ m)

-- an accepted call answers by how much the count changed
abbrev pub AnswersAreCountChanges : Type 0
AnswersAreCountChanges =
    (m : Meaning) (first n k : ℕ)
    → (commit_reply m first n ≡ accepted k → count (commit_after m first n) ≡ count m + k)
    × (release_reply m first n ≡ accepted k → count (release_after m first n) + k ≡ count m)

-- an accepted call turns the granules of its stretch, and no other
abbrev pub CallsTurnTheirStretch : Type 0
CallsTurnTheirStretch =
    (m : Meaning) (first n k g : ℕ)
    → (commit_reply m first n ≡ accepted k → (commit_after m first n).held g ≡ (among first n g || m.held g))
    × (release_reply m first n ≡ accepted k → (release_after m first n).held g ≡ (not (among first n g) && m.held g))

-- no list of calls changes a size or an allowance, or makes a sound backing unsound
abbrev pub CallsKeepBackingsSound : Type 0
CallsKeepBackingsSound =
    (m : Meaning) (calls : List Call)
    → (Sound m → Sound (calls_after m calls))
    × ((calls_after m calls).size ≡ m.size)
    × ((calls_after m calls).allowance ≡ m.allowance)

-- where all of a backing is allowed, every commit inside it is accepted
abbrev pub FullAllowanceNeverRefuses : Type 0
FullAllowanceNeverRefuses =
    (m : Meaning) (first n : ℕ) → m.allowance ≡ m.size → inside m.size first n ≡ true → commit_reply m first n ≡ accepted (missing m first n)

-- a limiter on a limiter allows what one with the smaller limit would
abbrev pub LimitersJoin : Type 0
LimitersJoin = (above below : ℕ) (m : Meaning) → limited above (limited below m) ≡ limited (min above below) m

-- What a backing means: how many granules it has, how many may be committed, which of them are.
use Rattle.std.specs.Prelude.{◌≡◌, ℕ, zero, suc, ◌+◌, ◌-◌, ◌≤◌, min, Bool, true, false, if◌then◌else◌, not, ◌&&◌, nat_le, nat_lt}

pub record Meaning : Type 0 where
  pub size : ℕ
  pub allowance : ℕ
  pub held : ℕ → Bool

-- a granule that is in a set counts 1
abbrev pub one : Bool → ℕ
one true = 1
one false = 0

-- how many of the n granules from first on are in a set
unfoldable pub tally : (ℕ → Bool) → ℕ → ℕ → ℕ
tally set first zero = 0
tally set first (suc n) = tally set first n + one (set (first + n))

-- how many granules are committed
abbrev pub count : Meaning → ℕ
count m = tally m.held 0 m.size

-- how many granules of a stretch are committed
abbrev pub present : Meaning → ℕ → ℕ → ℕ
present m first n = tally m.held first n

-- how many granules of a stretch are not
abbrev pub missing : Meaning → ℕ → ℕ → ℕ
missing m first n = tally (λ g. not (m.held g)) first n

-- how many more granules may be committed
abbrev pub room : Meaning → ℕ
room m = m.allowance - count m

-- the n granules from first on: at least one, and none past the last of size
abbrev pub inside : ℕ → ℕ → ℕ → Bool
inside size first n = nat_le 1 n && nat_le (first + n) size

-- the allowance covers what a stretch still lacks
abbrev pub affordable : Meaning → ℕ → ℕ → Bool
affordable m first n = nat_le (count m + missing m first n) m.allowance

-- granule g lies from first up to end
abbrev pub in_span : ℕ → ℕ → ℕ → Bool
in_span first end g = nat_le first g && nat_lt g end

-- granule g is one of the n from first on
abbrev pub among : ℕ → ℕ → ℕ → Bool
among first n g = in_span first (first + n) g

-- a set with each granule from first up to end in it, or each one out of it
abbrev pub turn : (ℕ → Bool) → ℕ → ℕ → Bool → ℕ → Bool
turn set first end on g = if in_span first end g then on else set g

-- the same backing with each granule of a stretch committed, or each one not
abbrev pub turned : Meaning → ℕ → ℕ → Bool → Meaning
turned m first n on = record {
  size = m.size;
  allowance = m.allowance;
  held = turn m.held first (first + n) on;
}

-- a backing after a commit: a refused one leaves it as it was
unfoldable pub commit_after : Meaning → ℕ → ℕ → Meaning
commit_after m first n = if inside m.size first n && affordable m first n then turned m first n true else m

-- a backing after a release
unfoldable pub release_after : Meaning → ℕ → ℕ → Meaning
release_after m first n = if inside m.size first n then turned m first n false else m

-- a backing that was just made: nothing committed, all of it allowed
abbrev pub fresh : ℕ → Meaning
fresh granules = record { size = granules; allowance = granules; held = λ g. false }

-- the same backing with no more allowed than a limit
abbrev pub limited : ℕ → Meaning → Meaning
limited limit m = record { size = m.size; allowance = min limit m.allowance; held = m.held }

-- the most granules that a backing has
abbrev pub most_granules : ℕ
most_granules = 1024

-- what holds of every backing
pub record Sound (m : Meaning) : Type 0 where
  pub some : 1 ≤ m.size
  pub bounded : m.size ≤ most_granules
  pub allowed : m.allowance ≤ m.size
  pub within : count m ≤ m.allowance
  pub none_past : (g : ℕ) → m.size ≤ g → m.held g ≡ false

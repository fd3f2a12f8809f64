-- What making a backing answers: what the new one means, or the refusal.
use Rattle.std.specs.Prelude.{ℕ, Bool, if◌then◌else◌, ◌&&◌, Ok, Err, Result, nat_le}
use Rattle.backing.specs.declared.refusals.Refusal.TheVariants.{LimitBelowCount, BadMaking}
use Rattle.backing.specs.declared.refusals.Refused.{Refused}
use Rattle.backing.specs.Bits.{bytes_for}
use Rattle.backing.specs.Meaning.{Meaning, count, fresh, limited, most_granules}
use Rattle.backing.specs.Replies.{Reply, told}

-- a making's result as its reader sees it
abbrev pub making : {X Y : Type 0} → (X → Meaning) → Result X (Refused Y) → Result Meaning Reply
making means (Ok x) = Ok (means x)
making means (Err e) = Err (told e.why)

-- so many granules can be a backing, and of the places that it needs so many are lent
abbrev pub fits_in : ℕ → ℕ → ℕ → Bool
fits_in size needed lent = (nat_le 1 size && nat_le size most_granules) && nat_le needed lent

-- a making in lent memory: a fresh backing, or it is refused
abbrev pub lent_making : ℕ → ℕ → ℕ → Result Meaning Reply
lent_making size needed lent = if fits_in size needed lent then Ok (fresh size) else Err (told BadMaking)

-- a mask needs a bit for each granule
abbrev pub mask_making : ℕ → ℕ → Result Meaning Reply
mask_making size bytes = lent_making size (bytes_for size) bytes

-- a limit may not be below what is committed
abbrev pub limiter_making : ℕ → Meaning → Result Meaning Reply
limiter_making limit m = if nat_le (count m) limit then Ok (limited limit m) else Err (told LimitBelowCount)

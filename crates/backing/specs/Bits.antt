-- Bits in a row of bytes: bit g is bit g mod 8 of byte g / 8.
use Rattle.std.specs.Prelude.{◌≡◌, ℕ, ◌+◌, ◌*◌, ◌/◌, ◌%◌, ◌^◌, ◌<◌, ◌≤◌, Bool, false, ◌&&◌, List, length, ◌==◌, nat_lt, slice_index}
use Rattle.backing.specs.Meaning.{in_span, tally, most_granules}

-- bit k of a byte
abbrev pub bit_of : ℕ → ℕ → Bool
bit_of byte k = byte / 2 ^ k % 2 == 1

-- bit g of a row of bytes; past the last byte there are none
unfoldable pub bit_at : List ℕ → ℕ → Bool
bit_at bytes g = bit_of (slice_index bytes (g / 8)) (g % 8)

-- how many bytes hold so many bits
abbrev pub bytes_for : ℕ → ℕ
bytes_for bits = (bits + 7) / 8

-- a byte's bits are those of byte k that lie from first up to end
abbrev pub IsPart : ℕ → ℕ → ℕ → ℕ → Type 0
IsPart first end k bits = (j : ℕ) → j < 8 → bit_of bits j ≡ in_span first end (8 * k + j)

-- byte k is changed, given its bits from first up to end, if it has one of these; else it stays
pub record ChangesByte (change : ℕ → ℕ → ℕ → Type 0) (first end k old new : ℕ) : Type 0 where
  pub touched : first < 8 * k + 8 → 8 * k < end → (bits : ℕ) × (bits < 256) × IsPart first end k bits × change old bits new
  pub before : 8 * k + 8 ≤ first → new ≡ old
  pub past : end ≤ 8 * k → new ≡ old

-- the granules below size whose bit is set
abbrev pub marked : List ℕ → ℕ → ℕ → Bool
marked bytes size g = nat_lt g size && bit_at bytes g

-- a mask's size, the memory for it, the count that it keeps, and that bits past the last granule are clear
pub record MaskOk (bytes : List ℕ) (size count : ℕ) : Type 0 where
  pub some : 1 ≤ size
  pub bounded : size ≤ most_granules
  pub covered : size ≤ 8 * length bytes
  pub counted : count ≡ tally (marked bytes size) 0 size
  pub idle : (g : ℕ) → size ≤ g → g < 8 * bytes_for size → bit_at bytes g ≡ false

-- A mask's bytes read as the set that they mark.
use Rattle.std.proofs.Common.{◌≡◌, ℕ, ◌+◌, ◌*◌, ◌/◌, ◌%◌, ◌^◌, ◌<◌, ◌≤◌, Bool, false, ◌&&◌, eqb, ltb, List, get_or, length, sym, ap, ◌∙◌, ⊎_elim, arith}
use mathlib.Core.Path.{fun_ext}
use native.Mathlib.Nat.{zero-div}
use Rattle.std.proofs.lemmas.Bool.{cases_lt, lt-ltb}
use Rattle.std.proofs.lemmas.Bool.Decides.{nat_tests}
use Rattle.backing.specs.Bits.{bit_of, bit_at, bytes_for, marked, MaskOk}
use Rattle.backing.specs.Meaning.{fresh, tally, present, turn, most_granules}
use Rattle.backing.proofs.Lent.{full}
use Rattle.backing.proofs.Tallies.{tally_const, tally_same}

pub bit_clear : (bytes : List ℕ) (g : ℕ) → get_or bytes (g / 8) 0 ≡ 0 → bit_at bytes g ≡ false
unfolding bit_at
bit_clear bytes g e = ap (λ x. bit_of x (g % 8)) e ∙ ap (λ x. eqb (x % 2) 1) (zero-div (2 ^ (g % 8)))

pub marked_none : (bytes : List ℕ) (size : ℕ) → ((k : ℕ) → k < bytes_for size → get_or bytes k 0 ≡ 0) → (g : ℕ) → marked bytes size g ≡ false
marked_none bytes size z g =
    ⊎_elim
    (λ h. let clear = bit_clear bytes g (z (g / 8) (omega arith)) in grind (arith, nat_tests))
    (λ h. grind (arith, nat_tests))
    (cases_lt g size)

-- bits past the last granule: clear in fresh bytes, and not in any stretch
pub idle_none : (bytes : List ℕ) (size : ℕ) → ((k : ℕ) → k < bytes_for size → get_or bytes k 0 ≡ 0) → (g : ℕ) → size ≤ g → g < 8 * bytes_for size → bit_at bytes g ≡ false
idle_none bytes size z g past in-last = bit_clear bytes g (z (g / 8) (omega arith))

pub none_marked : (bytes : List ℕ) (size : ℕ) → ((k : ℕ) → k < bytes_for size → get_or bytes k 0 ≡ 0) → full (marked bytes size) size ≡ fresh size
none_marked bytes size z = ap (λ h. full h size) (fun_ext (marked_none bytes size z))

pub none_counted : (bytes : List ℕ) (size : ℕ) → ((k : ℕ) → k < bytes_for size → get_or bytes k 0 ≡ 0) → 0 ≡ tally (marked bytes size) 0 size
none_counted bytes size z = sym (ap (λ h. tally h 0 size) (fun_ext (marked_none bytes size z)) ∙ tally_const false 0 size)

-- a mask in bytes that were cleared
pub cleared_ok : (bytes : List ℕ) (size : ℕ) → 1 ≤ size → size ≤ most_granules → size ≤ 8 * length bytes → ((k : ℕ) → k < bytes_for size → get_or bytes k 0 ≡ 0) → MaskOk bytes size 0
cleared_ok bytes size some bounded covered z = record { some = some; bounded = bounded; covered = covered; counted = none_counted bytes size z; idle = idle_none bytes size z }

-- inside a mask the bits are the granules
pub bits_present : (bytes : List ℕ) (size first n : ℕ) → first + n ≤ size → tally (bit_at bytes) first n ≡ present (full (marked bytes size) size) first n
bits_present bytes size first n fits =
    tally_same (bit_at bytes) (marked bytes size) first n (λ g l h. sym (ap (λ b. b && bit_at bytes g) (lt-ltb g size (omega arith))))

-- the bits of a span turned on, or off
module _ (bytes after : List ℕ) (size from end : ℕ) (fits : end ≤ size) (on : Bool) (turns : (g : ℕ) → bit_at after g ≡ turn (bit_at bytes) from end on g) where
  pub mask_turned : (g : ℕ) → marked after size g ≡ turn (marked bytes size) from end on g
  mask_turned g = ap (λ b. ltb g size && b) (turns g) ∙ (grind (arith, nat_tests))

  -- with its new count the mask is as calls leave it
  pub mask_still : (count k : ℕ) → length after ≡ length bytes → MaskOk bytes size count → k ≡ tally (marked after size) 0 size → MaskOk after size k
  mask_still count k long ok counts = record {
    some = ok.some;
    bounded = ok.bounded;
    covered = omega (arith, ok.covered);
    counted = counts;
    idle = λ g past in-last. let clear = ok.idle g past in-last in turns g ∙ (grind (arith, nat_tests));
  }

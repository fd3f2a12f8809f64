-- Making a backing in lent memory.
use Rattle.std.proofs.Common.{arith, ◌≡◌, ℕ, ◌≤◌, Bool, true, false, Ok, Err, Result, refl, subst}
use Rattle.std.specs.Bool.{if◌then◌else◌}
use Rattle.std.proofs.lemmas.Bool.Decides.{nat_tests}
use Rattle.backing.specs.Makings.{fits_in, lent_making}
use Rattle.backing.specs.Replies.{Reply}
use Rattle.backing.specs.Meaning.{Meaning, fresh, most_granules}

-- a backing that allows all of its granules
abbrev pub full : (ℕ → Bool) → ℕ → Meaning
full set size = record { size = size; allowance = size; held = set }

pub record Fits (size needed lent : ℕ) : Type 0 where
  pub some : 1 ≤ size
  pub bounded : size ≤ most_granules
  pub covered : needed ≤ lent

-- a making that gave a fresh backing was of a size that fits
made_true : (b : Bool) (x : Meaning) (y : Reply) → ◌≡◌ {A = Result Meaning Reply} (Ok x) (if b then Ok x else Err y) → b ≡ true
made_true true x y e = refl
made_true false x y e = absurd (cc)

pub fits_of : (size needed lent : ℕ) → Ok (fresh size) ≡ lent_making size needed lent → Fits size needed lent
fits_of size needed lent e =
    let t = made_true (fits_in size needed lent) _ _ e in
    record { some = grind (arith, nat_tests); bounded = grind (arith, nat_tests); covered = grind (arith, nat_tests) }

-- the same where what is needed is said otherwise
pub made_of : (size needed is lent : ℕ) (made : Result Meaning Reply) → made ≡ lent_making size is lent → is ≡ needed → made ≡ lent_making size needed lent
made_of size needed is lent made e same = subst (λ k. made ≡ lent_making size k lent) same e

-- Counting a set over stretches.
use Rattle.std.proofs.Common.{◌≡◌, ℕ, zero, suc, ◌+◌, ◌-◌, ◌<◌, ◌≤◌, Bool, true, false, cond, not, List, ◌∷◌, length, sym, refl, ap, ◌∙◌, arith}
use Rattle.std.specs.List.{filter, range_with_len}
use Rattle.std.proofs.lemmas.Bool.Decides.{nat_tests}
use Rattle.backing.specs.Meaning.{tally, one, turn}
use Rattle.backing.specs.Soundness.{tally_le}

pub tally_none : (s : ℕ → Bool) (a : ℕ) → tally s a 0 ≡ 0
unfolding tally
tally_none s a = refl

pub tally_suc : (s : ℕ → Bool) (a n : ℕ) → tally s a (suc n) ≡ tally s a n + one (s (a + n))
unfolding tally
tally_suc s a n = refl

pub tally_more : (s : ℕ → Bool) (a g : ℕ) → a ≤ g → tally s a (g + 1 - a) ≡ tally s a (g - a) + one (s g)
tally_more s a g l =
    let e : g + 1 - a ≡ suc (g - a) = omega arith in
    let f : a + (g - a) ≡ g = omega arith in
    ap (tally s a) e ∙ tally_suc s a (g - a) ∙ ap (λ x. tally s a (g - a) + one (s x)) f

pub tally_split : (s : ℕ → Bool) (a m n : ℕ) → tally s a (m + n) ≡ tally s a m + tally s (a + m) n
tally_split s a m zero =
    let e : m + 0 ≡ m = omega arith in
    omega (arith, ap (tally s a) e, tally_none s (a + m))
tally_split s a m (suc n) =
    let e : m + suc n ≡ suc (m + n) = omega arith in
    let f : a + (m + n) ≡ a + m + n = omega arith in
    omega (arith, ap (tally s a) e, tally_suc s a (m + n), tally_split s a m n, tally_suc s (a + m) n, ap (λ x. one (s x)) f)

-- a loop that counts those outside a set: its start, a turn of each kind, and its end
module _ (s : ℕ → Bool) (a : ℕ) where
  pub outside_none : (g : ℕ) → g ≡ a → 0 ≡ tally (λ x. not (s x)) a (g - a)
  outside_none g same =
      let e : g - a ≡ 0 = omega arith in
      sym (ap (tally (λ x. not (s x)) a) e ∙ tally_none (λ x. not (s x)) a)

  pub outside_more : (k j g : ℕ) → k ≡ tally (λ x. not (s x)) a (g - a) → a ≤ g → j ≡ k + one (not (s g)) → j ≡ tally (λ x. not (s x)) a (g + 1 - a)
  outside_more k j g h l e = e ∙ ap (λ x. x + one (not (s g))) h ∙ sym (tally_more (λ x. not (s x)) a g l)

one_not : (b : Bool) → one b + one (not b) ≡ 1
one_not true = refl
one_not false = refl

pub tally_both : (s : ℕ → Bool) (a n : ℕ) → tally s a n + tally (λ g. not (s g)) a n ≡ n
tally_both s a zero = omega (arith, tally_none s a, tally_none (λ g. not (s g)) a)
tally_both s a (suc n) =
    omega (arith, tally_suc s a n, tally_suc (λ g. not (s g)) a n, tally_both s a n, one_not (s (a + n)))

pub tally_same : (s t : ℕ → Bool) (a n : ℕ) → ((g : ℕ) → a ≤ g → g < a + n → s g ≡ t g) → tally s a n ≡ tally t a n
tally_same s t a zero h = tally_none s a ∙ sym (tally_none t a)
tally_same s t a (suc n) h =
    omega (arith, tally_suc s a n, tally_suc t a n, tally_same s t a n (λ g l r. h g l (omega arith)), ap one (h (a + n) (omega arith) (omega arith)))

pub tally_const : (b : Bool) (a n : ℕ) → tally (λ g. b) a n ≡ cond b n 0
tally_const true a zero = tally_none _ a
tally_const false a zero = tally_none _ a
tally_const true a (suc n) = omega (arith, tally_suc (λ g. true) a n, tally_const true a n)
tally_const false a (suc n) = omega (arith, tally_suc (λ g. false) a n, tally_const false a n)

-- a count over a range of numbers
tally_front : (s : ℕ → Bool) (a n : ℕ) → tally s a (suc n) ≡ one (s a) + tally s (a + 1) n
tally_front s a n =
    let e : 1 + n ≡ suc n = omega arith in
    let f : a + 0 ≡ a = omega arith in
    omega (arith, ap (tally s a) e, tally_split s a 1 n, tally_suc s a 0, tally_none s a, ap (λ x. one (s x)) f)

filter_one : (b : Bool) (x : ℕ) (xs : List ℕ) → length (cond b (x ∷ xs) xs) ≡ one b + length xs
filter_one true x xs = omega arith
filter_one false x xs = omega arith

pub length-filter-range : (s : ℕ → Bool) (a n : ℕ) → length (filter s (range_with_len a n)) ≡ tally s a n
length-filter-range s a zero = sym (tally_none s a)
length-filter-range s a (suc n) = omega (arith, tally_front s a n, filter_one (s a) a (filter s (range_with_len (a + 1) n)), length-filter-range s (a + 1) n)

-- a set in which a stretch was turned on or off, counted over all of it
module _ (s : ℕ → Bool) (a n size : ℕ) (fits : a + n ≤ size) where
  module _ (on : Bool) where
    abbrev after : ℕ → Bool
    after = turn s a (a + n) on

    before_it : (g : ℕ) → 0 ≤ g → g < 0 + a → after g ≡ s g
    before_it g l h = grind (arith, nat_tests)

    in_it : (g : ℕ) → a ≤ g → g < a + n → after g ≡ on
    in_it g l h = grind (arith, nat_tests)

    past_it : (g : ℕ) → a + n ≤ g → g < a + n + (size - (a + n)) → after g ≡ s g
    past_it g l h = grind (arith, nat_tests)

    parts : (t : ℕ → Bool) → tally t 0 size ≡ tally t 0 a + tally t a n + tally t (a + n) (size - (a + n))
    parts t =
        let e : size ≡ a + n + (size - (a + n)) = omega arith in
        let f : 0 + a ≡ a = omega arith in
        let g : 0 + (a + n) ≡ a + n = omega arith in
        ap (tally t 0) e ∙ tally_split t 0 (a + n) (size - (a + n))
        ∙ ap (λ x. x + tally t (0 + (a + n)) (size - (a + n))) (tally_split t 0 a n)
        ∙ ap (λ x. tally t 0 a + tally t x n + tally t (0 + (a + n)) (size - (a + n))) f
        ∙ ap (λ x. tally t 0 a + tally t a n + tally t x (size - (a + n))) g

    turned_tally : tally after 0 size + tally s a n ≡ tally s 0 size + cond on n 0
    turned_tally =
        omega (arith, parts after, parts s, tally_same after s 0 a before_it, tally_same after (λ g. on) a n in_it, tally_const on a n, tally_same after s (a + n) (size - (a + n)) past_it)

  pub tally_added : tally (turn s a (a + n) true) 0 size ≡ tally s 0 size + tally (λ g. not (s g)) a n
  tally_added = omega (arith, turned_tally true, tally_both s a n)

  pub tally_removed : tally (turn s a (a + n) false) 0 size + tally s a n ≡ tally s 0 size
  tally_removed = omega (arith, turned_tally false)

  -- what a stretch lacks may be added, and what it holds taken away
  pub tally_room : tally s 0 size + tally (λ g. not (s g)) a n ≤ size
  tally_room = omega (arith, tally_added, tally_le (turn s a (a + n) true) 0 size)

  pub tally_part : tally s a n ≤ tally s 0 size
  tally_part = omega (arith, tally_removed)

-- a set of which those from low up to high were turned on or off
module _ (s t : ℕ → Bool) (low high size : ℕ) (order : low < high) (fits : high ≤ size) where
  as_turn : (on : Bool) → ((g : ℕ) → t g ≡ turn s low high on g) → tally t 0 size ≡ tally (turn s low (low + (high - low)) on) 0 size
  as_turn on turns = tally_same t (turn s low (low + (high - low)) on) 0 size (λ g l h. turns g ∙ (grind (arith, nat_tests)))

  pub turned_more : ((g : ℕ) → t g ≡ turn s low high true g) → tally t 0 size ≡ tally s 0 size + tally (λ g. not (s g)) low (high - low)
  turned_more turns = as_turn true turns ∙ tally_added s low (high - low) size (omega arith)

  pub turned_fewer : ((g : ℕ) → t g ≡ turn s low high false g) → tally t 0 size + tally s low (high - low) ≡ tally s 0 size
  turned_fewer turns = omega (arith, as_turn false turns, tally_removed s low (high - low) size (omega arith))

-- Bits of a byte and of a row of bytes.
use Rattle.std.proofs.Common.{◌≡◌, ℕ, zero, suc, ◌+◌, ◌-◌, ◌*◌, ◌/◌, ◌%◌, ◌^◌, ◌<◌, ◌≤◌, min, max, Bool, true, false, cond, not, ◌&&◌, ◌||◌, eqb, ltb, leb, List, length, drop, get_or, set, sym, refl, ap, ◌∙◌, subst, ⊎_elim, add-zero, arith, get_or-set_other, get_or-set_same, drop-set-lt, below_more}
use lib.Bits.{bit_and, bit_or, and_le_l, and_mask}
use lib.Count.{ones}
use Rattle.std.proofs.lemmas.Bool.{agree_below, agree_below_at, and_parts, both_ways, cases_Bool, cases_lt, cond-false, eqb-true, le-leb, leb-true, ltb-true}
use Rattle.std.proofs.lemmas.Bool.Decides.{nat_tests}
use Rattle.std.proofs.Math.Bool.{and_comm}
use Rattle.std.proofs.lemmas.Nat.Bits.{bit_at_or, bit_at_and}
use Rattle.backing.specs.Bits.{bit_of, bit_at, bytes_for, IsPart, ChangesByte}
use Rattle.backing.specs.Meaning.{in_span, turn, tally, one}
use Rattle.backing.proofs.Tallies.{tally_none, tally_suc}

-- a bit of a sum, a product and a complement of bits
bit_of_or : (a b j : ℕ) → bit_of (bit_or a b) j ≡ (bit_of a j || bit_of b j)
bit_of_or a b j =
    let either : bit_or a b / 2 ^ j % 2 ≡ max (a / 2 ^ j % 2) (b / 2 ^ j % 2) = bit_at_or a b j in
    grind (arith, nat_tests)

bit_of_and : (a b j : ℕ) → bit_of (bit_and a b) j ≡ (bit_of a j && bit_of b j)
bit_of_and a b j =
    let both : bit_and a b / 2 ^ j % 2 ≡ min (a / 2 ^ j % 2) (b / 2 ^ j % 2) = bit_at_and a b j in
    grind (arith, nat_tests)

not_test : agree_below (λ b. agree_below (bit_of (255 - b)) (λ j. not (bit_of b j)) 8) (λ _. true) 256 ≡ true
not_test = refl

bit_not : (b j : ℕ) → b < 256 → j < 8 → bit_of (255 - b) j ≡ not (bit_of b j)
bit_not b j h l =
    agree_below_at (bit_of (255 - b)) (λ j. not (bit_of b j)) 8 j (agree_below_at (λ b. agree_below (bit_of (255 - b)) (λ j. not (bit_of b j)) 8) (λ _. true) 256 b not_test h) l

pub bits_on : (byte bits j : ℕ) → bit_of (bit_or byte bits) j ≡ cond (bit_of bits j) true (bit_of byte j)
bits_on byte bits j = let or = bit_of_or byte bits j in grind (arith, nat_tests)

pub bits_off : (byte bits j : ℕ) → bits < 256 → j < 8 → bit_of (bit_and byte (255 - bits)) j ≡ cond (bit_of bits j) false (bit_of byte j)
bits_off byte bits j h l =
    let and = bit_of_and byte (255 - bits) j in
    let other = bit_not bits j h l in
    grind (arith, nat_tests)

-- the bits from low up to high, as a difference of powers
abbrev pub between : ℕ → ℕ → ℕ
between low high = 1 * 2 ^ high % 65536 - 1 * 2 ^ low % 65536

span_right : ℕ → ℕ → Bool
span_right low high =
    not (leb low high)
    || ((leb (1 * 2 ^ low % 65536) (1 * 2 ^ high % 65536) && ltb (between low high) 256)
    && agree_below (bit_of (between low high)) (in_span low high) 8)

span_test : agree_below (λ low. agree_below (span_right low) (λ _. true) 9) (λ _. true) 9 ≡ true
unfolding span_right
span_test = refl

pub record Span (low high : ℕ) : Type 0 where
  pub order : 1 * 2 ^ low % 65536 ≤ 1 * 2 ^ high % 65536
  pub small : between low high < 256
  pub bits : (j : ℕ) → j < 8 → bit_of (between low high) j ≡ in_span low high j

or_then : (a b : Bool) → (not a || b) ≡ true → a ≡ true → b ≡ true
or_then true b t e = t
or_then false b t e = absurd (both_ways false refl e)

pub span_of : (low high : ℕ) → low ≤ high → high ≤ 8 → Span low high
unfolding span_right
span_of low high o h =
    let t = agree_below_at (span_right low) (λ _. true) 9 high (agree_below_at (λ low. agree_below (span_right low) (λ _. true) 9) (λ _. true) 9 low span_test (omega arith)) (omega arith) in
    let all = or_then (leb low high) _ t (le-leb low high o) in
    let p = and_parts _ _ all in
    let q = and_parts _ _ p.0 in
    record {
      order = leb-true _ _ q.0;
      small = ltb-true _ _ q.1;
      bits = λ j l. agree_below_at (bit_of (between low high)) (in_span low high) 8 j p.1 l;
    }

pub bit_read : (bytes : List ℕ) (g : ℕ) → eqb (bit_and (get_or bytes (g / 8) 0 / 2 ^ (g % 8)) 1) 1 ≡ bit_at bytes g
unfolding bit_at
bit_read bytes g = ap (λ x. eqb x 1) (and_mask (get_or bytes (g / 8) 0 / 2 ^ (g % 8)) 1)

-- bytes of which those before place k are changed
pub record Changed (change : ℕ → ℕ → ℕ → Type 0) (first end : ℕ) (old new : List ℕ) (k : ℕ) : Type 0 where
  pub changed : (j : ℕ) → j < k → ChangesByte change first end j (get_or old j 0) (get_or new j 0)
  pub kept : (j : ℕ) → k ≤ j → get_or new j 0 ≡ get_or old j 0
  pub rest : (j : ℕ) → bytes_for end ≤ j → drop j new ≡ drop j old

module _ (change : ℕ → ℕ → ℕ → Type 0) (first end : ℕ) (old : List ℕ) where
  pub changed_none : (k : ℕ) → k ≤ first / 8 → Changed change first end old old k
  changed_none k h = record {
    changed = λ j l. record { touched = λ from to. absurd (omega arith); before = λ l. refl; past = λ l. refl };
    kept = λ j l. refl;
    rest = λ j l. refl;
  }

  pub changed_more : (new : List ℕ) (k at bits byte : ℕ) → Changed change first end old new k → at ≡ k → at < length new
      → first < 8 * k + 8 → 8 * k < end → bits < 256 → IsPart first end k bits → change (get_or new at 0) bits byte → Changed change first end old (set new at byte) (k + 1)
  changed_more new k at bits byte c here low from to small part done =
      let was : get_or new at 0 ≡ get_or old k 0 = ap (λ i. get_or new i 0) here ∙ c.kept k (omega arith) in
      let is : get_or (set new at byte) k 0 ≡ byte = ap (λ i. get_or (set new at byte) i 0) (sym here) ∙ get_or-set_same new at byte 0 low in
      record {
        changed = below_more _ _
            (λ j h. subst (ChangesByte change first end j (get_or old j 0)) (sym (get_or-set_other new at j byte 0 (omega arith))) (c.changed j h))
            (record {
              touched = λ from to. (bits, small, part, rw (is, sym was) done);
              before = λ h. absurd (omega arith);
              past = λ h. absurd (omega arith);
            });
        kept = λ j h. get_or-set_other new at j byte 0 (omega arith) ∙ c.kept j (omega arith);
        rest = λ j h. drop-set-lt j new at byte (omega arith) ∙ c.rest j h;
      }

  pub changed_all : (new : List ℕ) (k : ℕ) → Changed change first end old new k → end ≤ 8 * k → (j : ℕ) → ChangesByte change first end j (get_or old j 0) (get_or new j 0)
  changed_all new k c h j =
      ⊎_elim
      (λ l. c.changed j l)
      (λ l. record { touched = λ from to. absurd (omega arith); before = λ h. c.kept j l; past = λ h. c.kept j l })
      (cases_lt j k)

-- bytes whose bits in a stretch were turned, each byte at once
module _ (old new : List ℕ) (first end : ℕ) (on : Bool) (change : ℕ → ℕ → ℕ → Type 0) (within : end ≤ 8 * length old)
    (bytes : (k : ℕ) → k < length old → ChangesByte change first end k (get_or old k 0) (get_or new k 0))
    (turns : (byte bits r j : ℕ) → bits < 256 → j < 8 → change byte bits r → bit_of r j ≡ cond (bit_of bits j) on (bit_of byte j))
    (rest : (k : ℕ) → length old ≤ k → get_or new k 0 ≡ get_or old k 0) where
  stays : (g : ℕ) → in_span first end g ≡ false → get_or new (g / 8) 0 ≡ get_or old (g / 8) 0 → bit_at new g ≡ turn (bit_at old) first end on g
  unfolding bit_at
  stays g out same = ap (λ x. bit_of x (g % 8)) same ∙ sym (cond-false _ on (bit_at old g) out)

  touched : (g : ℕ) → first < 8 * (g / 8) + 8 → 8 * (g / 8) < end → ChangesByte change first end (g / 8) (get_or old (g / 8) 0) (get_or new (g / 8) 0)
      → bit_at new g ≡ turn (bit_at old) first end on g
  unfolding bit_at
  touched g from to byte =
      let done = byte.touched from to in
      let place : 8 * (g / 8) + g % 8 ≡ g = omega arith in
      turns _ done.0 _ (g % 8) done.1 (omega arith) done.3
      ∙ ap (λ t. cond t on (bit_of (get_or old (g / 8) 0) (g % 8))) (done.2 (g % 8) (omega arith) ∙ ap (in_span first end) place)

  pub all_turned : (g : ℕ) → bit_at new g ≡ turn (bit_at old) first end on g
  all_turned g =
      ⊎_elim
      (λ low.
      let byte = bytes (g / 8) low in
      ⊎_elim
      (λ from. ⊎_elim (λ to. touched g from to byte) (λ past. stays g (grind (arith, nat_tests)) (byte.past past)) (cases_lt (8 * (g / 8)) end))
      (λ before. stays g (grind (arith, nat_tests)) (byte.before before))
      (cases_lt first (8 * (g / 8) + 8)))
      (λ high. stays g (grind (arith, nat_tests)) (rest (g / 8) high))
      (cases_lt (g / 8) (length old))

-- the bits set in a byte
ones_test : agree_below (λ b. eqb (ones b) (tally (bit_of b) 0 8)) (λ _. true) 256 ≡ true
unfolding ones tally
ones_test = refl

pub ones_tally : (b : ℕ) → b < 256 → ones b ≡ tally (bit_of b) 0 8
ones_tally b h = eqb-true _ _ (agree_below_at (λ b. eqb (ones b) (tally (bit_of b) 0 8)) (λ _. true) 256 b ones_test h)

-- a count over places that are moved
tally_moved : (s t : ℕ → Bool) (a b n : ℕ) → ((j : ℕ) → j < n → s (a + j) ≡ t (b + j)) → tally s a n ≡ tally t b n
tally_moved s t a b zero h = tally_none s a ∙ sym (tally_none t b)
tally_moved s t a b (suc n) h =
    omega (arith, tally_suc s a n, tally_suc t b n, tally_moved s t a b n (λ j l. h j (omega arith)), ap one (h n (omega arith)))

-- a count up to i, cut to a stretch, and then over n places more
module _ (s : ℕ → Bool) (first end : ℕ) where
  abbrev up_to : ℕ → ℕ
  up_to i = tally s first (min end i - first)

  abbrev inner : ℕ → Bool
  inner g = in_span first end g && s g

  up_to_more : (i : ℕ) → up_to (suc i) ≡ up_to i + one (inner i)
  up_to_more i =
      ⊎_elim
      (λ t.
      let e : min end (suc i) - first ≡ suc (min end i - first) = grind (arith, nat_tests) in
      let f : first + (min end i - first) ≡ i = grind (arith, nat_tests) in
      ap (tally s first) e ∙ tally_suc s first (min end i - first)
      ∙ ap (λ x. up_to i + one (s x)) f ∙ ap (λ b. up_to i + one (b && s i)) (sym t))
      (λ t.
      let e : min end (suc i) - first ≡ min end i - first = grind (arith, nat_tests) in
      ap (tally s first) e ∙ sym (add-zero (up_to i)) ∙ ap (λ b. up_to i + one (b && s i)) (sym t))
      (cases_Bool (in_span first end i))

  clipped : (a n : ℕ) → up_to (a + n) ≡ up_to a + tally inner a n
  clipped a zero =
      let e : a + 0 ≡ a = omega arith in
      omega (arith, ap up_to e, tally_none inner a)
  clipped a (suc n) =
      let e : a + suc n ≡ suc (a + n) = omega arith in
      omega (arith, ap up_to e, up_to_more (a + n), clipped a n, tally_suc inner a n)

-- the bits of one byte that lie in a stretch, counted at once
module _ (bytes : List ℕ) (k first end bits : ℕ) (spans : IsPart first end k bits) where
  one_bit : (j : ℕ) → j < 8 → bit_of (bit_and (get_or bytes k 0) bits) (0 + j) ≡ inner (bit_at bytes) first end (8 * k + j)
  unfolding bit_at
  one_bit j l =
      let z : 0 + j ≡ j = omega arith in
      let row : (8 * k + j) / 8 ≡ k = omega arith in
      let col : (8 * k + j) % 8 ≡ j = omega arith in
      ap (λ x. bit_of (bit_and (get_or bytes k 0) bits) x) z ∙ bit_of_and (get_or bytes k 0) bits j ∙ and_comm (bit_of (get_or bytes k 0) j) (bit_of bits j)
      ∙ ap (λ b. b && bit_of (get_or bytes k 0) j) (spans j l)
      ∙ ap (λ x. in_span first end (8 * k + j) && bit_of (get_or bytes x 0) j) (sym row)
      ∙ ap (λ x. in_span first end (8 * k + j) && bit_of (get_or bytes ((8 * k + j) / 8) 0) x) (sym col)

  pub byte_counted : (n : ℕ) → get_or bytes k 0 < 256 → n ≡ tally (bit_at bytes) first (min end (8 * k) - first)
      → n + ones (bit_and (get_or bytes k 0) bits) ≡ tally (bit_at bytes) first (min end (8 * (k + 1)) - first)
  byte_counted n small so_far =
      let e : 8 * (k + 1) ≡ 8 * k + 8 = omega arith in
      let low = and_le_l (get_or bytes k 0) bits in
      let counted = ones_tally (bit_and (get_or bytes k 0) bits) (omega arith) in
      let moved = tally_moved (bit_of (bit_and (get_or bytes k 0) bits)) (inner (bit_at bytes) first end) 0 (8 * k) 8 one_bit in
      let more = clipped (bit_at bytes) first end (8 * k) 8 in
      omega (arith, counted, moved, more, ap (λ i. tally (bit_at bytes) first (min end i - first)) e)

-- a stretch seen from the beginning of byte k
pub moved_span : (k first end low high j : ℕ) → j < 8 → low ≡ first - 8 * k → high ≡ min (end - 8 * k) 8 → in_span low high j ≡ in_span first end (8 * k + j)
moved_span k first end low high j h l e = grind (arith, nat_tests)

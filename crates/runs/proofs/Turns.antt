-- The runs after a stretch was committed or released.
use Rattle.std.proofs.Common.{◌≡◌, ℕ, ◌+◌, ◌<◌, ◌≤◌, Bool, true, false, ◌||◌, ltb, List, [], ◌∷◌, ◌++◌, length, take, drop, ap, ◌∙◌, arith}
use Rattle.std.proofs.lemmas.Bool.{cond_both, ltb-true, ltb-false}
use Rattle.std.proofs.lemmas.Bool.Decides.{nat_tests}
use Rattle.backing.specs.Meaning.{in_span, turn}
use Rattle.runs.specs.declared.rows.Run.{Run}
use Rattle.runs.specs.declared.rows.Reach.{Reach}
use Rattle.runs.specs.Rows.{Apart, in_runs, covers, row, rows, records_for}
use Rattle.runs.specs.Reach.{Reaches, merged, parted}
use Rattle.runs.specs.Soundness.{apart_ends, none_above}
use Rattle.runs.proofs.Order.{apart_none, apart_one, apart_join, in_none, in_one, in_append, in_parts, none_below}

-- no more runs than half of the granules, rounded up
pub few_runs : (size : ℕ) (runs : List Run) → Apart 0 (size + 1) runs → length runs ≤ records_for size
few_runs size runs p = omega (arith, apart_ends 0 (size + 1) runs p)

-- the granules from low up to high as a list of runs
rows_apart : (a low high b : ℕ) → a ≤ low → a ≤ b → high < b → Apart a b (rows low high)
rows_apart a low high b l m h =
    cond_both (ltb low high) (row low high ∷ []) [] (Apart a b)
    (λ t. let some = ltb-true low high t in apart_one a b (row low high) l (omega arith) (omega arith))
    (λ t. apart_none a b m)

in_rows : (low high g : ℕ) → in_runs (rows low high) g ≡ in_span low high g
in_rows low high g =
    cond_both (ltb low high) (row low high ∷ []) [] (λ xs. in_runs xs g ≡ in_span low high g)
    (λ t. let some = ltb-true low high t in in_one (row low high) g ∙ (grind (arith, nat_tests)))
    (λ t. let none = ltb-false low high t in in_none g ∙ (grind (arith, nat_tests)))

-- runs that mean others with a stretch turned on or off
pub record Turned (size : ℕ) (was is : List Run) (first end : ℕ) (on : Bool) : Type 0 where
  pub apart : Apart 0 (size + 1) is
  pub held : (g : ℕ) → in_runs is g ≡ turn (in_runs was) first end on g

module _ (size : ℕ) (rs : List Run) (p : Apart 0 (size + 1) rs) (first end : ℕ) (some : first < end) (fits : end ≤ size) (s : Reach) (q : Reaches rs first end s) where
  abbrev before : List Run
  before = take s.at rs

  abbrev past : List Run
  past = drop s.past rs

  past_apart : Apart (s.high + 1) (size + 1) past
  past_apart = q.after (size + 1) p (omega arith)

  pub reach_some : s.low < s.high
  reach_some = omega (arith, q.from, q.to)

  merged_apart : Apart 0 (size + 1) (merged rs s)
  merged_apart =
      apart_join 0 s.low (size + 1) before (row s.low s.high ∷ past) q.before
      (apart_join s.low (s.high + 1) (size + 1) (row s.low s.high ∷ []) past
      (apart_one s.low (s.high + 1) (row s.low s.high) (omega arith) (omega (arith, reach_some)) (omega (arith, reach_some)))
      past_apart)

  parted_apart : Apart 0 (size + 1) (parted rs s first end)
  parted_apart =
      apart_join 0 s.low (size + 1) before ((rows s.low first ++ rows end s.high) ++ past) q.before
      (apart_join s.low (s.high + 1) (size + 1) (rows s.low first ++ rows end s.high) past
      (apart_join s.low (first + 1) (s.high + 1) (rows s.low first) (rows end s.high)
      (rows_apart s.low s.low first (first + 1) (omega arith) (omega (arith, q.from)) (omega arith))
      (rows_apart (first + 1) end s.high (s.high + 1) (omega arith) (omega (arith, q.to)) (omega arith)))
      past_apart)

  -- each granule, by where it lies
  module _ (g : ℕ) where
    abbrev reached : Bool
    reached = in_span s.low s.high g

    whole : in_runs rs g ≡ (in_runs (take s.past rs) g || in_runs past g)
    whole = in_parts rs (size + 1) p s.past g

    merged_held : in_runs (merged rs s) g ≡ turn (in_runs rs) first end true g
    merged_held =
        let some-row = reach_some in
        let covered : covers (row s.low s.high) g ≡ reached = grind (arith, nat_tests) in
        let joined = q.joined g in
        let all = whole in
        in_append before (row s.low s.high ∷ past) g
        ∙ ap (λ b. in_runs before g || b) (in_append (row s.low s.high ∷ []) past g ∙ ap (λ b. b || in_runs past g) (in_one (row s.low s.high) g ∙ covered))
        ∙ (grind (arith, nat_tests))

    abbrev sides : Bool
    sides = in_span s.low first g || in_span end s.high g

    parted_is : in_runs (parted rs s first end) g ≡ (in_runs before g || (sides || in_runs past g))
    parted_is =
        in_append before ((rows s.low first ++ rows end s.high) ++ past) g
        ∙ ap (λ b. in_runs before g || b) (in_append (rows s.low first ++ rows end s.high) past g
        ∙ ap (λ b. b || in_runs past g) (in_append (rows s.low first) (rows end s.high) g
        ∙ ap (λ b. b || in_runs (rows end s.high) g) (in_rows s.low first g) ∙ ap (λ b. in_span s.low first g || b) (in_rows end s.high g)))

    none_left : in_span first end g ≡ true → (in_runs before g || (sides || in_runs past g)) ≡ false
    none_left t =
        let left = none_above 0 s.low before g q.before in
        let right = none_below (s.high + 1) (size + 1) past g past_apart in
        grind (arith, nat_tests, left, right, q.from, q.to)

    as_before : in_span first end g ≡ false → (in_runs before g || (sides || in_runs past g)) ≡ in_runs rs g
    as_before t =
        let joined = q.joined g in
        let all = whole in
        grind (arith, nat_tests, q.from, q.to)

    parted_held : in_runs (parted rs s first end) g ≡ turn (in_runs rs) first end false g
    parted_held = let is = parted_is in grind (arith, none_left, as_before)

  pub merging : Turned size rs (merged rs s) first end true
  merging = record { apart = merged_apart; held = merged_held }

  pub parting : Turned size rs (parted rs s first end) first end false
  parting = record { apart = parted_apart; held = parted_held }

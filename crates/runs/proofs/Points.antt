-- Where runs in order begin past a granule, and where they end before one.
use Rattle.std.proofs.Common.{◌≡◌, ℕ, ◌+◌, ◌-◌, ◌<◌, ◌≤◌, Bool, true, false, ltb, leb, List, ◌∷◌, length, get_or, take, drop, Option, Some, None, Bor, sym, ap, ◌∙◌, ⊎_elim, arith, get_or-take, length-take}
use Rattle.std.proofs.lemmas.List.{drop_more, drop_all}
use Rattle.std.proofs.lemmas.List.Sorted.{IsNonDecreasingBy-from_all_adjacent, IsPartitionedBy-leb, IsPartitionedBy-ltb}
use Rattle.std.proofs.lemmas.Bool.{cases_lt, leb-true, leb-false, ltb-true, ltb-false}
use Rattle.std.proofs.lemmas.Bool.Decides.{nat_tests}
use Rattle.std.proofs.lemmas.Option.{slice_get-get_or, slice_get_within, get_or_from_slice_get}
use Rattle.std.specs.List.{slice_get}
use Rattle.std.specs.List.Sorted.{IsNonDecreasingBy, IsPartitionedBy, IsPartitionPoint}
use Rattle.std.specs.Option.{option_copied, MatchOption}
use Rattle.runs.specs.declared.rows.Run.{Run}
use Rattle.runs.specs.Rows.{Apart, in_runs, covers, end_of}
use Rattle.runs.specs.Soundness.{none_above}
use Rattle.runs.proofs.Order.{blank, next, here, front, in_parts, in_none, none_below, apart_more}

module _ (rs : List Run) (b : ℕ) (p : Apart 0 b rs) where
  -- each run begins past the end of the one before
  adjacent : (k : ℕ) (d : Run) → k + 1 < length rs → end_of (get_or rs k d) + 1 ≤ (get_or rs (k + 1) d).first
  adjacent k d h = omega (arith, (here rs b p k d (omega arith)).next_is, (here rs b p (k + 1) d h).low)

  firsts_up : IsNonDecreasingBy (λ r. r.first) rs
  firsts_up = IsNonDecreasingBy-from_all_adjacent (λ r. r.first) rs (λ k d h. omega (arith, adjacent k d h))

  ends_up : IsNonDecreasingBy end_of rs
  ends_up = IsNonDecreasingBy-from_all_adjacent end_of rs (λ k d h. omega (arith, adjacent k d h))

  pub firsts_parted : (t : ℕ) → IsPartitionedBy (λ r. leb r.first t) rs
  firsts_parted t = IsPartitionedBy-leb (λ r. r.first) rs t firsts_up

  pub ends_parted : (t : ℕ) → IsPartitionedBy (λ r. ltb (end_of r) t) rs
  ends_parted t = IsPartitionedBy-ltb end_of rs t ends_up

  -- a granule lies in no run of those that begin past it
  none_from : (k g : ℕ) → ((j : ℕ) (d : Run) → k ≤ j → j < length rs → g < (get_or rs j d).first) → in_runs (drop k rs) g ≡ false
  none_from k g past =
      ⊎_elim
      (λ h.
      let at_k = here rs b p k blank h in
      let run = get_or rs k blank in
      ap (λ xs. in_runs xs g) (drop_more rs k blank h)
      ∙ none_below run.first b (run ∷ drop (k + 1) rs) g (apart_more run.first b run (drop (k + 1) rs) (omega arith) at_k.some at_k.rest) (past k blank (omega arith) h))
      (λ h. ap (λ xs. in_runs xs g) (drop_all k rs h) ∙ in_none g)
      (cases_lt k (length rs))

  -- where the runs from place k on begin past a granule, the one before is all that may hold it
  module _ (k g : ℕ) (within : k ≤ length rs) (before : (j : ℕ) (d : Run) → j < k → (get_or rs j d).first ≤ g)
      (past : (j : ℕ) (d : Run) → k ≤ j → j < length rs → g < (get_or rs j d).first) where
    held_none : k ≡ 0 → in_runs rs g ≡ false
    held_none e = let none : in_runs (take k rs) g ≡ false = ap (λ i. in_runs (take i rs) g) e ∙ in_none g in grind (arith, nat_tests, in_parts rs b p k g, none_from k g past)

    held_last : (j : ℕ) (d : Run) → k ≡ j + 1 → covers (get_or rs j d) g ≡ in_runs rs g
    held_last j d e =
        let at_j = here rs b p j d (omega arith) in
        let none = none_above 0 (next 0 (take j rs)) (take j rs) g (front rs b p j) (omega (arith, at_j.low, before j d (omega arith))) in
        let first = ap (λ i. in_runs (take i rs) g) e ∙ at_j.in_more g in
        grind (arith, nat_tests, in_parts rs b p k g, none_from k g past)

    front_long : length (take k rs) ≡ k
    front_long = omega (arith, length-take k rs)

    pub held_by : (o : Option (Bor Run)) (r : Bool) (P : Bor Run → Type 0) → option_copied o ≡ slice_get (take k rs) (length (take k rs) - 1)
        → MatchOption o (r ≡ false) P → ((x : Bor Run) → P x → r ≡ covers x.now g) → r ≡ in_runs rs g
    held_by None r P e m h =
        ⊎_elim
        (λ l. let z : ◌≡◌ {A = Option Run} None (Some (get_or (take k rs) (length (take k rs) - 1) blank)) = e ∙ slice_get-get_or (take k rs) (length (take k rs) - 1) blank (omega (arith, front_long)) in absurd (cc))
        (λ l. m ∙ sym (held_none (omega arith)))
        (cases_lt 0 k)
    held_by (Some x) r P e m h =
        let last = slice_get_within (take k rs) (length (take k rs) - 1) x.now (sym e) in
        let place : length (take k rs) - 1 ≡ k - 1 = omega (arith, front_long) in
        let is : get_or rs (k - 1) blank ≡ x.now =
        sym (get_or-take k rs (k - 1) blank (omega (arith, front_long, last))) ∙ ap (λ i. get_or (take k rs) i blank) (sym place)
        ∙ get_or_from_slice_get (take k rs) (length (take k rs) - 1) x.now blank (sym e) in
        h x m ∙ ap (λ y. covers y g) (sym is) ∙ held_last (k - 1) blank (omega (arith, front_long, last))

-- the runs before place at end before a stretch, and those from place past on begin past it
pub record Reached (rs : List Run) (first end at past : ℕ) : Type 0 where
  pub at_in : at ≤ length rs
  pub past_in : past ≤ length rs
  pub ends : (j : ℕ) (d : Run) → j < at → end_of (get_or rs j d) < first
  pub meets : (j : ℕ) (d : Run) → at ≤ j → j < length rs → first ≤ end_of (get_or rs j d)
  pub begins : (j : ℕ) (d : Run) → j < past → (get_or rs j d).first ≤ end
  pub beyond : (j : ℕ) (d : Run) → past ≤ j → j < length rs → end < (get_or rs j d).first

pub reached_by : (rs : List Run) (first end at past : ℕ) → at ≤ length rs → past ≤ length rs
    → IsPartitionPoint (λ r. ltb (end_of r) first ≡ true) (λ r. ltb (end_of r) first ≡ false) rs at
    → IsPartitionPoint (λ r. leb r.first end ≡ true) (λ r. leb r.first end ≡ false) rs past → Reached rs first end at past
reached_by rs first end at past at_in past_in p q = record {
  at_in = at_in;
  past_in = past_in;
  ends = λ j d h. ltb-true _ _ (p.0 j d (omega arith) h);
  meets = λ j d l h. ltb-false _ _ (p.1 j d l h);
  begins = λ j d h. leb-true _ _ (q.0 j d (omega arith) h);
  beyond = λ j d l h. leb-false _ _ (q.1 j d l h);
}

-- How many runs at the front pass a test that none passes after one that fails it.
use Rattle.std.proofs.Common.{◌≡◌, ℕ, ◌+◌, ◌-◌, ◌<◌, ◌≤◌, Bool, true, false, List, [], ◌∷◌, length, get_or, take, drop, length-take, length-drop, sym, ap, ◌∙◌, ⊎_elim, arith}
use denote.Param.Members.{Shared, MutLaws, FnLaws, post_stays}
use denote.Ref.{Bor}
use Rattle.backing.proofs.Parts.{get_or-part}
use Rattle.std.proofs.lemmas.Bool.{cases_Bool, both_ways, cases_lt}
use Rattle.std.proofs.lemmas.List.{get_or_default}
use Rattle.std.specs.Fn.{ComputesKey}
use Rattle.std.specs.List.Sorted.{IsPartitionedBy, IsPartitionPoint}
use Rattle.runs.specs.declared.rows.Run.{Run}

-- what a call of the test says of a run
pub told : {F : Type 0} {g : Shared F (Bor Run × Unit {0}) Bool} {f : F} (p : Run → Bool) → ComputesKey g p f → MutLaws g → FnLaws g → {run : Bor Run} {r b : Bool} → g.post f (run, tt) r → r ≡ b → p run.now ≡ b
told {g = g} {f = f} p key laws stays {run} {r} met e = sym (key.at ((run, tt) ∷ []) r f (post_stays g f (run, tt) r laws stays met)).0 ∙ e

-- one more that passes
pub passed_more : (p : Run → Bool) (rs : List Run) (n : ℕ) (e : Run) → n < length rs → ((k : ℕ) (d : Run) → k < n → p (get_or rs k d) ≡ true) → p (get_or rs n e) ≡ true → (k : ℕ) (d : Run) → k < n + 1 → p (get_or rs k d) ≡ true
passed_more p rs n e h passed t k d l =
    ⊎_elim
    (λ m. passed k d m)
    (λ m. let same : k ≡ n = omega arith in ap (λ i. p (get_or rs i d)) same ∙ ap p (get_or_default rs n d e h) ∙ t)
    (cases_lt k n)

module _ (p : Run → Bool) (rs : List Run) (parted : IsPartitionedBy p rs) where
  -- all pass up to one that passes, and all fail from one that fails on
  pub passed_to : (i : ℕ) (e : Run) → i < length rs → p (get_or rs i e) ≡ true → (k : ℕ) (d : Run) → k ≤ i → p (get_or rs k d) ≡ true
  passed_to i e h t k d l = parted k i d l h (ap p (get_or_default rs i d e h) ∙ t)

  pub failed_from : (i : ℕ) (e : Run) → i < length rs → p (get_or rs i e) ≡ false → (k : ℕ) (d : Run) → i ≤ k → k < length rs → p (get_or rs k d) ≡ false
  failed_from i e h f k d l m =
      ⊎_elim
      (λ t. absurd (both_ways (p (get_or rs i d)) (ap p (get_or_default rs i d e h) ∙ f) (parted i k d l m t)))
      (λ n. n)
      (cases_Bool (p (get_or rs k d)))

  -- the runs from place i on
  module _ (i : ℕ) where
    abbrev part : List Run
    part = take (length rs - i) (drop i rs)

    part_long : length part ≡ length rs - i
    part_long = omega (arith, length-take (length rs - i) (drop i rs), length-drop i rs)

    part_parted : IsPartitionedBy p part
    part_parted j k d l h t =
        ap p (get_or-part i (length rs - i) rs j d (omega (arith, part_long)))
        ∙ parted (i + j) (i + k) d (omega arith) (omega (arith, part_long)) (ap p (sym (get_or-part i (length rs - i) rs k d (omega (arith, part_long)))) ∙ t)

    -- those that pass end there if they end past place i
    pub point_past : (n m : ℕ) → m ≡ i + n → n ≤ length rs - i → ((k : ℕ) (d : Run) → k < i → p (get_or rs k d) ≡ true)
        → (IsPartitionedBy p part → IsPartitionPoint (λ y. p y ≡ true) (λ y. p y ≡ false) part n) → IsPartitionPoint (λ y. p y ≡ true) (λ y. p y ≡ false) rs m
    point_past n m is bound passed point = (before, after)
      where
        read : (k : ℕ) (d : Run) → i ≤ k → k < length rs → get_or part (k - i) d ≡ get_or rs k d
        read k d l h = let e : i + (k - i) ≡ k = omega arith in get_or-part i (length rs - i) rs (k - i) d (omega arith) ∙ ap (λ j. get_or rs j d) e

        before : (k : ℕ) (d : Run) → 0 ≤ k → k < m → p (get_or rs k d) ≡ true
        before k d l h =
            ⊎_elim
            (λ low. passed k d low)
            (λ high. sym (ap p (read k d high (omega arith))) ∙ (point part_parted).0 (k - i) d (omega arith) (omega arith))
            (cases_lt k i)

        after : (k : ℕ) (d : Run) → m ≤ k → k < length rs → p (get_or rs k d) ≡ false
        after k d l h = sym (ap p (read k d (omega arith) h)) ∙ (point part_parted).1 (k - i) d (omega arith) (omega (arith, part_long))

-- The laws of runs in order.
use Rattle.std.proofs.Common.{◌≡◌, ℕ, ◌+◌, ◌<◌, ◌≤◌, true, false, ◌||◌, List, [], ◌∷◌, length, get_or, take, drop, sym, refl, ap, ◌∙◌, subst, ⊎_elim, arith}
use Rattle.std.proofs.lemmas.Bool.{both_ways, cases_lt, or_from, or_left, or_right}
use Rattle.std.proofs.lemmas.Bool.Decides.{nat_tests}
use Rattle.runs.specs.declared.rows.Run.{Run}
use Rattle.runs.specs.Rows.{Apart, Longest, in_runs, covers, end_of}
use Rattle.runs.specs.Laws.{SameGranulesSameRuns}
use Rattle.runs.specs.Soundness.{Leads, apart_leads, none_above}
use Rattle.runs.proofs.Order.{next, Here, here, front, in_parts, in_none, none_below}

-- each run of those in order is a longest row
pub longest : (rs : List Run) (b : ℕ) → Apart 0 b rs → (k : ℕ) (d : Run) → k < length rs → Longest (in_runs rs) (get_or rs k d)
longest rs b p k d h = record {
  some = at_k.some;
  all = λ g t. in_parts rs b p (k + 1) g ∙ or_left _ _ (at_k.in_more g ∙ or_right _ _ t);
  before = λ g e. outside g (omega (arith, at_k.low)) (omega arith) (grind (arith, nat_tests));
  after = outside (end_of run) (omega (arith, at_k.low)) (omega arith) (grind (arith, nat_tests));
}
  where
    run : Run
    run = get_or rs k d

    at_k : Here rs b k (get_or rs k d)
    at_k = here rs b p k d h

    outside : (g : ℕ) → next 0 (take k rs) ≤ g + 1 → g < end_of (get_or rs k d) + 1 → covers (get_or rs k d) g ≡ false → in_runs rs g ≡ false
    outside g low high none =
        let below = none_above 0 (next 0 (take k rs)) (take k rs) g (front rs b p k) low in
        let above = none_below (end_of (get_or rs k d) + 1) b (drop (k + 1) rs) g at_k.rest high in
        grind (arith, nat_tests, in_parts rs b p (k + 1) g, at_k.in_more g)

-- the first run tells where a set begins, and where its first row ends
module _ (a b : ℕ) (run : Run) (runs : List Run) (p : Apart a b (run ∷ runs)) where
  abbrev leads : Leads a b run runs
  leads = apart_leads a b run runs p

  first_in : (g : ℕ) → run.first ≤ g → g < end_of run → in_runs (run ∷ runs) g ≡ true
  unfolding in_runs
  first_in g l h = or_left (covers run g) (in_runs runs g) (grind (arith, nat_tests))

  first_out : (g : ℕ) → g < run.first → in_runs (run ∷ runs) g ≡ false
  unfolding in_runs
  first_out g h = or_from (covers run g) (in_runs runs g) (grind (arith, nat_tests)) (none_below (end_of run + 1) b runs g leads.rest (omega arith))

  end_out : in_runs (run ∷ runs) (end_of run) ≡ false
  unfolding in_runs
  end_out = or_from (covers run (end_of run)) (in_runs runs (end_of run)) (grind (arith, nat_tests)) (none_below (end_of run + 1) b runs (end_of run) leads.rest (omega arith))

  rest_in : (g : ℕ) → end_of run < g → in_runs runs g ≡ in_runs (run ∷ runs) g
  unfolding in_runs
  rest_in g h = let none : covers run g ≡ false = grind (arith, nat_tests) in sym (ap (λ t. t || in_runs runs g) none)

-- two sets that begin with a run each, and are the same: no run begins or ends before the other
module _ (a b d : ℕ) (x y : Run) (xs ys : List Run) (p : Apart a b (x ∷ xs)) (q : Apart a d (y ∷ ys)) (same : (g : ℕ) → in_runs (x ∷ xs) g ≡ in_runs (y ∷ ys) g) where
  not_earlier : x.first < y.first → ⊥
  not_earlier h = both_ways (in_runs (x ∷ xs) x.first) (same x.first ∙ first_out a d y ys q x.first h) (first_in a b x xs p x.first (omega arith) (omega (arith, (apart_leads a b x xs p).some)))

  not_shorter : x.first ≡ y.first → end_of x < end_of y → ⊥
  not_shorter e h = both_ways (in_runs (x ∷ xs) (end_of x)) (end_out a b x xs p) (same (end_of x) ∙ first_in a d y ys q (end_of x) (omega arith) h)

  same_rest : end_of x ≡ end_of y → (g : ℕ) → in_runs xs g ≡ in_runs ys g
  same_rest e g =
      ⊎_elim
      (λ h. rest_in a b x xs p g h ∙ same g ∙ sym (rest_in a d y ys q g (omega arith)))
      (λ h. none_below (end_of x + 1) b xs g (apart_leads a b x xs p).rest (omega arith) ∙ sym (none_below (end_of y + 1) d ys g (apart_leads a d y ys q).rest (omega arith)))
      (cases_lt (end_of x) g)

same_run : (x y : Run) → x.first ≡ y.first → end_of x ≡ end_of y → x ≡ y
same_run x y e f =
    let n : x.count ≡ y.count = omega arith in
    ap (λ i. record { first = i; count = x.count }) e ∙ ap (λ i. record { first = y.first; count = i }) n

some_in : (a b : ℕ) (y : Run) (ys : List Run) → Apart a b (y ∷ ys) → ((g : ℕ) → in_runs (y ∷ ys) g ≡ false) → ⊥
some_in a b y ys q none = both_ways (in_runs (y ∷ ys) y.first) (none y.first) (first_in a b y ys q y.first (omega arith) (omega (arith, (apart_leads a b y ys q).some)))

same_lists : (a b d : ℕ) (xs ys : List Run) → Apart a b xs → Apart a d ys → ((g : ℕ) → in_runs xs g ≡ in_runs ys g) → xs ≡ ys
same_lists a b d [] [] p q same = refl
same_lists a b d [] (y ∷ ys) p q same = absurd (some_in a d y ys q (λ g. sym (same g) ∙ in_none g))
same_lists a b d (x ∷ xs) [] p q same = absurd (some_in a b x xs p (λ g. same g ∙ in_none g))
same_lists a b d (x ∷ xs) (y ∷ ys) p q same =
    let back : (g : ℕ) → in_runs (y ∷ ys) g ≡ in_runs (x ∷ xs) g = λ g. sym (same g) in
    let firsts : x.first ≡ y.first = grind (arith, not_earlier a b d x y xs ys p q same, not_earlier a d b y x ys xs q p back) in
    let ends : end_of x ≡ end_of y = grind (arith, not_shorter a b d x y xs ys p q same firsts, not_shorter a d b y x ys xs q p back (sym firsts)) in
    let rest = same_lists (end_of x + 1) b d xs ys (apart_leads a b x xs p).rest (subst (λ e. Apart (e + 1) d ys) (sym ends) (apart_leads a d y ys q).rest) (same_rest a b d x y xs ys p q same ends) in
    ap (λ r. r ∷ xs) (same_run x y firsts ends) ∙ ap (λ rs. y ∷ rs) rest

pub same_runs : SameGranulesSameRuns
same_runs size xs ys p q same = same_lists 0 (size + 1) (size + 1) xs ys p q same

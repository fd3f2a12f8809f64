-- What a stretch reaches among the runs.
use Rattle.std.proofs.Common.{◌≡◌, ℕ, zero, suc, ◌+◌, ◌-◌, ◌<◌, ◌≤◌, min, max, true, false, ◌||◌, List, length, get_or, take, drop, sym, refl, ap, ◌∙◌, subst, ⊎_elim, arith}
use mathlib.Core.Bool.{or-false}
use Rattle.std.proofs.lemmas.List.{drop_more, drop_all}
use Rattle.std.proofs.lemmas.Bool.{both_ways, cases_lt}
use Rattle.std.proofs.lemmas.Bool.Decides.{nat_tests}
use Rattle.backing.specs.Meaning.{in_span, tally, most_granules}
use Rattle.backing.specs.Soundness.{tally_le}
use Rattle.backing.proofs.Tallies.{tally_same, tally_const}
use Rattle.runs.specs.declared.rows.Run.{Run}
use Rattle.runs.specs.declared.rows.Reach.{Reach}
use Rattle.runs.specs.Rows.{Apart, in_runs, covers, end_of}
use Rattle.runs.specs.Soundness.{apart_ends, none_above}
use Rattle.runs.specs.Reach.{Reaches}
use Rattle.runs.proofs.Order.{blank, next, Here, here, front, back, in_parts, apart_none, apart_more, apart_high, none_below, tally_or, tally_shared}

-- what is known once the first k runs were seen, none of which begins past the stretch
pub record Seen (rs : List Run) (first end k at low high held : ℕ) : Type 0 where
  pub order : at ≤ k
  pub from : low ≤ first
  pub to : end ≤ high
  pub before : Apart 0 low (take at rs)
  pub met : at < k → first < next 0 (take k rs)
  pub bound : high < max (end + 1) (next 0 (take k rs))
  pub joined : (g : ℕ) → (in_span first end g || in_runs (take k rs) g) ≡ (in_span low high g || in_runs (take at rs) g)
  pub counted : held ≡ tally (in_runs (take k rs)) first (end - first)

pub seen_same : (rs : List Run) (first end k k' at at' low high held : ℕ) → k ≡ k' → at ≡ at' → Seen rs first end k at low high held → Seen rs first end k' at' low high held
seen_same rs first end k k' at at' low high held e f s = subst (λ a. Seen rs first end k' a low high held) f (subst (λ i. Seen rs first end i at low high held) e s)

apart_min : (a b d m : ℕ) (xs : List Run) → Apart a b xs → Apart a d xs → m ≡ min b d → Apart a m xs
apart_min a b d m xs p q e =
    ⊎_elim
    (λ l. apart_high a b m xs (omega arith) p)
    (λ l. apart_high a d m xs (omega arith) q)
    (cases_lt b d)

next_none : (rs : List Run) → next 0 (take 0 rs) ≡ 0
unfolding next
next_none rs = refl

module _ (rs : List Run) (p : Apart 0 (most_granules + 1) rs) (first end : ℕ) (order : first < end) where
  -- the runs that end before the stretch are not reached
  module _ (k : ℕ) (within : k ≤ length rs) (ends : (j : ℕ) (d : Run) → j < k → end_of (get_or rs j d) < first) where
    ends_at : next 0 (take k rs) ≤ first
    ends_at = go k refl
      where
        go : (n : ℕ) → k ≡ n → next 0 (take k rs) ≤ first
        go zero e = let none : next 0 (take 0 rs) ≡ 0 = next_none rs in omega (arith, ap (λ i. next 0 (take i rs)) e)
        go (suc n) e =
            let last : k ≡ n + 1 = omega arith in
            let at_n = here rs (most_granules + 1) p n blank (omega arith) in
            omega (arith, ap (λ i. next 0 (take i rs)) last, at_n.next_is, ends n blank (omega arith))

    front_before : Apart 0 first (take k rs)
    front_before = apart_high 0 (next 0 (take k rs)) first (take k rs) ends_at (front rs (most_granules + 1) p k)

    pub seen_from : (n low high held : ℕ) → n ≡ k → low ≡ first → high ≡ end → held ≡ 0 → Seen rs first end n k low high held
    seen_from n low high held same lows highs none =
        subst (λ i. Seen rs first end i k low high held) (sym same)
        record {
          order = omega arith;
          from = omega arith;
          to = omega arith;
          before = subst (λ i. Apart 0 i (take k rs)) (sym lows) front_before;
          met = λ l. absurd (omega arith);
          bound = omega arith;
          joined = λ g. ap (λ i. in_span i end g || in_runs (take k rs) g) (sym lows) ∙ ap (λ i. in_span low i g || in_runs (take k rs) g) (sym highs);
          counted = none ∙ sym (tally_same (in_runs (take k rs)) (λ g. false) first (end - first) (λ g l r. none_above 0 first (take k rs) g front_before (omega arith)) ∙ tally_const false first (end - first));
        }

  -- one run more
  module _ (k at low high held : ℕ) (d : Run) (within : k < length rs) (seen : Seen rs first end k at low high held) where
    abbrev run : Run
    run = get_or rs k d

    at_k : Here rs (most_granules + 1) k run
    at_k = here rs (most_granules + 1) p k d within

    pub run_fits : end_of (get_or rs k d) < (most_granules + 1)
    run_fits = at_k.high

    -- what the run adds
    pub count_more : tally (in_runs (take (k + 1) rs)) first (end - first) ≡ tally (in_runs (take k rs)) first (end - first) + (min (end_of run) end - max run.first first)
    count_more =
        let e : first + (end - first) ≡ end = omega arith in
        tally_same (in_runs (take (k + 1) rs)) (λ g. in_runs (take k rs) g || covers run g) first (end - first) (λ g l r. at_k.in_more g)
        ∙ tally_or (in_runs (take k rs)) (covers run) first (end - first) apart
        ∙ ap (λ n. tally (in_runs (take k rs)) first (end - first) + n) (tally_shared run.first run.count first (end - first) ∙ ap (λ x. min (end_of run) x - max run.first first) e)
      where
        apart : (g : ℕ) → in_runs (take k rs) g ≡ true → covers run g ≡ false
        apart g t =
            ⊎_elim
            (λ below. grind (arith, nat_tests))
            (λ at-or-past. absurd (both_ways (in_runs (take k rs) g) (none_above 0 (next 0 (take k rs)) (take k rs) g (front rs (most_granules + 1) p k) (omega (arith, at_k.low))) t))
            (cases_lt g run.first)

    pub few_more : held + (min (end_of run) end - max run.first first) ≤ end - first
    few_more = omega (arith, seen.counted, count_more, tally_le (in_runs (take (k + 1) rs)) first (end - first))

    -- those before the stretch end before this run too
    before_run : Apart 0 run.first (take at rs)
    before_run =
        ⊎_elim
        (λ l. apart_high 0 low run.first (take at rs) (omega (arith, seen.met l, seen.from, at_k.low)) seen.before)
        (λ l.
        let same : k ≡ at = omega (arith, seen.order) in
        apart_high 0 (next 0 (take at rs)) run.first (take at rs) (subst (λ i. next 0 (take i rs) ≤ run.first) same at_k.low) (front rs (most_granules + 1) p at))
        (cases_lt at k)

    pub seen_met : first ≤ end_of run → run.first ≤ end → (l h n : ℕ) → l ≡ min low run.first → h ≡ max high (end_of run)
        → n ≡ held + (min (end_of run) end - max run.first first) → Seen rs first end (k + 1) at l h n
    seen_met meets begins l h n lows highs counts =
        let next_up = at_k.next_is in
        record {
          order = omega (arith, seen.order);
          from = omega (arith, seen.from);
          to = omega (arith, seen.to);
          before = apart_min 0 low run.first l (take at rs) seen.before before_run lows;
          met = λ l. omega arith;
          bound = omega (arith, seen.bound, at_k.low);
          joined = λ g.
              let wider : (in_span low high g || covers run g) ≡ in_span l h g = grind (arith, nat_tests, seen.from, seen.to) in
              let more = at_k.in_more g in
              let joined = seen.joined g in
              grind (arith, nat_tests);
          counted = omega (arith, seen.counted, count_more);
        }

  -- after the last run that the stretch reaches
  module _ (bounded : end ≤ most_granules) (s : Reach) (seen : Seen rs first end s.past s.at s.low s.high s.held) (within : s.past ≤ length rs)
      (past : (d : Run) → s.past < length rs → end < (get_or rs s.past d).first) where
    rest_apart : (b : ℕ) → Apart 0 b rs → end < b → Apart (s.high + 1) b (drop s.past rs)
    rest_apart b q l =
        ⊎_elim
        (λ h.
        let at_k = here rs b q s.past blank h in
        subst (Apart (s.high + 1) b) (sym (drop_more rs s.past blank h))
        (apart_more (s.high + 1) b (get_or rs s.past blank) (drop (s.past + 1) rs) (omega (arith, seen.bound, at_k.low, past blank h)) at_k.some at_k.rest))
        (λ h.
        let none = drop_all s.past rs h in
        let up = apart_ends (next 0 (take s.past rs)) b (drop s.past rs) (back rs b q s.past) in
        subst (Apart (s.high + 1) b) (sym none) (apart_none (s.high + 1) b (omega (arith, seen.bound))))
        (cases_lt s.past (length rs))

    up_to : (g : ℕ) → first ≤ g → g < first + (end - first) → in_runs rs g ≡ in_runs (take s.past rs) g
    up_to g l r =
        in_parts rs (most_granules + 1) p s.past g
        ∙ ap (λ b. in_runs (take s.past rs) g || b) (none_below (s.high + 1) (most_granules + 1) (drop s.past rs) g (rest_apart (most_granules + 1) p (omega arith)) (omega (arith, seen.to)))
        ∙ or-false (in_runs (take s.past rs) g)

    pub all_seen : Reaches rs first end s
    all_seen = record {
      order = seen.order;
      within = within;
      from = seen.from;
      to = seen.to;
      before = seen.before;
      after = rest_apart;
      joined = seen.joined;
      counted = seen.counted ∙ sym (tally_same (in_runs rs) (in_runs (take s.past rs)) first (end - first) up_to);
    }

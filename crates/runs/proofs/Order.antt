-- Runs in order: joined, cut, read and counted.
use Rattle.std.proofs.Common.{◌≡◌, ℕ, zero, suc, ◌+◌, ◌-◌, ◌<◌, ◌≤◌, min, max, Bool, true, false, ◌||◌, List, [], ◌∷◌, ◌++◌, length, get_or, take, drop, sym, refl, ap, ◌∙◌, subst, arith}
use mathlib.Core.Bool.{or_assoc, or-false}
use Rattle.std.proofs.lemmas.List.{take_more, drop_more, take-append-drop}
use Rattle.std.proofs.lemmas.Bool.{and_from, both_ways, le-leb, or_from}
use Rattle.std.proofs.lemmas.Bool.Decides.{nat_tests}
use Rattle.backing.specs.Meaning.{tally, one, among}
use Rattle.backing.proofs.Tallies.{tally_none, tally_suc}
use Rattle.runs.specs.declared.rows.Run.{Run}
use Rattle.runs.specs.Soundness.{apart_empty, apart_leads, apart_ends}
use Rattle.runs.specs.Rows.{Apart, in_order, in_runs, covers, end_of}

-- what is read past the end of a row of runs
abbrev pub blank : Run
blank = record { first = 0; count = 0 }

-- where a run after these may begin
unfoldable pub next : ℕ → List Run → ℕ
next low [] = low
next low (run ∷ runs) = next (end_of run + 1) runs

pub apart_none : (a b : ℕ) → a ≤ b → Apart a b []
unfolding in_order
apart_none a b h = le-leb a b h

pub apart_more : (a b : ℕ) (run : Run) (runs : List Run) → a ≤ run.first → 1 ≤ run.count → Apart (end_of run + 1) b runs → Apart a b (run ∷ runs)
unfolding in_order
apart_more a b run runs l n p = and_from _ _ (and_from _ _ (le-leb a run.first l) (le-leb 1 run.count n)) p

pub apart_one : (a b : ℕ) (run : Run) → a ≤ run.first → 1 ≤ run.count → end_of run < b → Apart a b (run ∷ [])
apart_one a b run l n h = apart_more a b run [] l n (apart_none (end_of run + 1) b (omega arith))

pub apart_low : (a m b : ℕ) (xs : List Run) → a ≤ m → Apart m b xs → Apart a b xs
apart_low a m b [] h p = apart_none a b (omega (arith, apart_empty m b p))
apart_low a m b (x ∷ xs) h p = let q = apart_leads m b x xs p in apart_more a b x xs (omega arith) q.some q.rest

pub apart_high : (a b d : ℕ) (xs : List Run) → b ≤ d → Apart a b xs → Apart a d xs
apart_high a b d [] h p = apart_none a d (omega (arith, apart_empty a b p))
apart_high a b d (x ∷ xs) h p = let q = apart_leads a b x xs p in apart_more a d x xs q.low q.some (apart_high (end_of x + 1) b d xs h q.rest)

pub apart_join : (a m b : ℕ) (xs ys : List Run) → Apart a m xs → Apart m b ys → Apart a b (xs ++ ys)
apart_join a m b [] ys p q = apart_low a m b ys (apart_empty a m p) q
apart_join a m b (x ∷ xs) ys p q = let r = apart_leads a m x xs p in apart_more a b x (xs ++ ys) r.low r.some (apart_join (end_of x + 1) m b xs ys r.rest q)

apart_front : (a b : ℕ) (xs ys : List Run) → Apart a b (xs ++ ys) → Apart a (next a xs) xs
unfolding next
apart_front a b [] ys p = apart_none a a (omega arith)
apart_front a b (x ∷ xs) ys p = let q = apart_leads a b x (xs ++ ys) p in apart_more a (next (end_of x + 1) xs) x xs q.low q.some (apart_front (end_of x + 1) b xs ys q.rest)

apart_back : (a b : ℕ) (xs ys : List Run) → Apart a b (xs ++ ys) → Apart (next a xs) b ys
unfolding next
apart_back a b [] ys p = p
apart_back a b (x ∷ xs) ys p = apart_back (end_of x + 1) b xs ys (apart_leads a b x (xs ++ ys) p).rest

pub in_none : (g : ℕ) → in_runs [] g ≡ false
unfolding in_runs
in_none g = refl

pub in_append : (xs ys : List Run) (g : ℕ) → in_runs (xs ++ ys) g ≡ (in_runs xs g || in_runs ys g)
unfolding in_runs
in_append [] ys g = refl
in_append (x ∷ xs) ys g = ap (λ b. covers x g || b) (in_append xs ys g) ∙ sym (or_assoc (covers x g) (in_runs xs g) (in_runs ys g))

pub none_below : (a b : ℕ) (xs : List Run) (g : ℕ) → Apart a b xs → g < a → in_runs xs g ≡ false
unfolding in_runs
none_below a b [] g p h = refl
none_below a b (x ∷ xs) g p h =
    let q = apart_leads a b x xs p in
    or_from (covers x g) (in_runs xs g) (grind (arith, nat_tests)) (none_below (end_of x + 1) b xs g q.rest (omega arith))

-- a run more at the end
next_push : (a : ℕ) (xs : List Run) (y : Run) → next a (xs ++ y ∷ []) ≡ end_of y + 1
unfolding next
next_push a [] y = refl
next_push a (x ∷ xs) y = next_push (end_of x + 1) xs y

pub in_one : (y : Run) (g : ℕ) → in_runs (y ∷ []) g ≡ covers y g
unfolding in_runs
in_one y g = or-false (covers y g)

-- the runs before place k, those from it on, and the one there
module _ (rs : List Run) (b : ℕ) (p : Apart 0 b rs) (k : ℕ) where
  whole : take k rs ++ drop k rs ≡ rs
  whole = take-append-drop k rs

  pub front : Apart 0 (next 0 (take k rs)) (take k rs)
  front = apart_front 0 b (take k rs) (drop k rs) (subst (Apart 0 b) (sym whole) p)

  pub back : Apart (next 0 (take k rs)) b (drop k rs)
  back = apart_back 0 b (take k rs) (drop k rs) (subst (Apart 0 b) (sym whole) p)

  pub in_parts : (g : ℕ) → in_runs rs g ≡ (in_runs (take k rs) g || in_runs (drop k rs) g)
  in_parts g = ap (λ xs. in_runs xs g) (sym whole) ∙ in_append (take k rs) (drop k rs) g

pub record Here (rs : List Run) (b k : ℕ) (run : Run) : Type 0 where
  pub low : next 0 (take k rs) ≤ run.first
  pub some : 1 ≤ run.count
  pub high : end_of run < b
  pub rest : Apart (end_of run + 1) b (drop (k + 1) rs)
  pub next_is : next 0 (take (k + 1) rs) ≡ end_of run + 1
  pub in_more : (g : ℕ) → in_runs (take (k + 1) rs) g ≡ (in_runs (take k rs) g || covers run g)

pub here : (rs : List Run) (b : ℕ) → Apart 0 b rs → (k : ℕ) (d : Run) → k < length rs → Here rs b k (get_or rs k d)
here rs b p k d h =
    let run = get_or rs k d in
    let q = apart_leads (next 0 (take k rs)) b run (drop (k + 1) rs) (subst (Apart (next 0 (take k rs)) b) (drop_more rs k d h) (back rs b p k)) in
    record {
      low = q.low;
      some = q.some;
      high = omega (arith, apart_ends (end_of run + 1) b (drop (k + 1) rs) q.rest);
      rest = q.rest;
      next_is = ap (next 0) (take_more rs k d h) ∙ next_push 0 (take k rs) run;
      in_more = λ g. ap (λ xs. in_runs xs g) (take_more rs k d h) ∙ in_append (take k rs) (run ∷ []) g ∙ ap (λ b. in_runs (take k rs) g || b) (in_one run g);
    }

-- counting two sets that share nothing
pub tally_or : (s t : ℕ → Bool) (a n : ℕ) → ((g : ℕ) → s g ≡ true → t g ≡ false) → tally (λ g. s g || t g) a n ≡ tally s a n + tally t a n
tally_or s t a zero h = omega (arith, tally_none (λ g. s g || t g) a, tally_none s a, tally_none t a)
tally_or s t a (suc n) h =
    omega (arith, tally_suc (λ g. s g || t g) a n, tally_suc s a n, tally_suc t a n, tally_or s t a n h, one_or (s (a + n)) (t (a + n)) (h (a + n)))
  where
    one_or : (x y : Bool) → (x ≡ true → y ≡ false) → one (x || y) ≡ one x + one y
    one_or true true e = absurd (both_ways true (e refl) refl)
    one_or true false e = refl
    one_or false true e = refl
    one_or false false e = refl

-- the granules that two stretches share
pub tally_shared : (a m first n : ℕ) → tally (among a m) first n ≡ min (a + m) (first + n) - max a first
tally_shared a m first zero = omega (arith, tally_none (among a m) first)
tally_shared a m first (suc n) =
    let more : min (a + m) (first + suc n) - max a first ≡ (min (a + m) (first + n) - max a first) + one (among a m (first + n)) = grind (arith, nat_tests) in
    omega (arith, tally_suc (among a m) first n, tally_shared a m first n)

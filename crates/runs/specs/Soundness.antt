-- A run list is sound: the proof that the interface's member `sound` asks of it.
use Rattle.std.specs.Prelude.{◌≡◌, ℕ, ◌+◌, ◌*◌, ◌≤◌, false, List, [], ◌∷◌, length, nat_le, nat_lt, refl}
use Rattle.std.proofs.Common.{arith}
use Rattle.std.proofs.lemmas.Bool.{and_parts, and_right, leb-true, le-ltb, or_from}
use Rattle.backing.specs.Meaning.{Sound}
use Rattle.backing.specs.Soundness.{tally_le}
use Rattle.runs.specs.declared.rows.Run.{Run}
use Rattle.runs.specs.declared.lists.RunList.{RunList}
use Rattle.runs.specs.Rows.{Apart, in_order, in_runs, covers, end_of}
use Rattle.runs.specs.Lists.{list_means, runs_of}

-- what being apart says of no run, and of a first run and the rest
pub apart_empty : (a b : ℕ) → Apart a b [] → a ≤ b
unfolding in_order
apart_empty a b p = leb-true a b p

pub record Leads (a b : ℕ) (run : Run) (runs : List Run) : Type 0 where
  pub low : a ≤ run.first
  pub some : 1 ≤ run.count
  pub rest : Apart (end_of run + 1) b runs

pub apart_leads : (a b : ℕ) (run : Run) (runs : List Run) → Apart a b (run ∷ runs) → Leads a b run runs
unfolding in_order
apart_leads a b run runs p =
    let q = and_parts _ _ p in
    let r = and_parts _ _ q.0 in
    record { low = leb-true a run.first r.0; some = leb-true 1 run.count r.1; rest = q.1 }

-- two granules and more for each run
pub apart_ends : (a b : ℕ) (runs : List Run) → Apart a b runs → a + 2 * length runs ≤ b
apart_ends a b [] p = omega (arith, apart_empty a b p)
apart_ends a b (run ∷ runs) p = let q = apart_leads a b run runs p in omega (arith, apart_ends (end_of run + 1) b runs q.rest)

pub none_above : (a b : ℕ) (runs : List Run) (g : ℕ) → Apart a b runs → b ≤ g + 1 → in_runs runs g ≡ false
unfolding in_runs
none_above a b [] g p h = refl
none_above a b (run ∷ runs) g p h =
    let q = apart_leads a b run runs p in
    or_from (covers run g) (in_runs runs g)
    (and_right (nat_le run.first g) (nat_lt g (end_of run)) (le-ltb g (end_of run) (omega (arith, apart_ends (end_of run + 1) b runs q.rest))))
    (none_above (end_of run + 1) b runs g q.rest h)

pub list_sound : (l : RunList) → Sound (list_means l)
list_sound l = record {
  some = l.ok.some;
  bounded = l.ok.bounded;
  allowed = omega arith;
  within = tally_le (in_runs (runs_of l)) 0 l.size;
  none_past = λ g past. none_above 0 (l.size + 1) (runs_of l) g l.ok.apart (omega arith);
}

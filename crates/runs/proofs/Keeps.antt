-- A run list with other runs in its records.
use Rattle.std.proofs.Common.{◌≡◌, ℕ, ◌+◌, ◌-◌, ◌≤◌, Bool, List, length, take, drop, sym, ap, ◌∙◌, subst, arith, drop-drop, length-drop}
use Rattle.backing.specs.Meaning.{tally}
use Rattle.runs.specs.declared.rows.Run.{Run}
use Rattle.runs.specs.Rows.{RunListOk, in_runs, records_for}
use Rattle.runs.specs.Lists.{spare_records}
use Rattle.runs.proofs.Turns.{Turned, few_runs}

-- what the records hold after a stretch was turned on or off
pub record Changed (size : ℕ) (old was : List Run) (first end : ℕ) (on : Bool) (records : List Run) (len : ℕ) : Type 0 where
  pub turned : Turned size was (take len records) first end on
  pub few : len ≤ records_for size
  pub rest : drop len records ≡ drop len old

pub changed : (size : ℕ) (old was : List Run) (first end : ℕ) (on : Bool) (records runs : List Run) (len : ℕ) → Turned size was runs first end on
    → take len records ≡ runs → len ≡ length runs → drop len records ≡ drop len old → Changed size old was first end on records len
changed size old was first end on records runs len turned is long rest = record {
  turned = subst (λ xs. Turned size was xs first end on) (sym is) turned;
  few = omega (arith, few_runs size runs turned.apart);
  rest = rest;
}

module _ (size : ℕ) (old was : List Run) (first end : ℕ) (on : Bool) (records : List Run) (len : ℕ) (now : Changed size old was first end on records len) where
  pub spares_kept : spare_records size records ≡ spare_records size old
  spares_kept =
      let past = records_for size - len in
      let e : len + (records_for size - len) ≡ records_for size = omega (arith, now.few) in
      sym (drop-drop past len records ∙ ap (λ i. drop i records) e) ∙ ap (drop past) now.rest ∙ drop-drop past len old ∙ ap (λ i. drop i old) e

  pub still_ok : (was-len count k : ℕ) → RunListOk old was-len size count → len ≤ length records → k ≡ tally (in_runs (take len records)) 0 size → RunListOk records len size k
  still_ok was-len count k ok used counts = record {
    some = ok.some;
    bounded = ok.bounded;
    covered = omega (arith, ok.covered, now.few, used, ap length now.rest, length-drop len records, length-drop len old);
    used = used;
    apart = now.turned.apart;
    counted = counts;
  }

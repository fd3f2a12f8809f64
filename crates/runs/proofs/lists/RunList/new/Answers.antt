use Rattle.std.proofs.Common.{◌≡◌, ℕ, ◌+◌, false, length, take, Ok, subst, sym, ap, ◌∙◌, arith}
use mathlib.Core.Path.{fun_ext}
use Rattle.std.proofs.lemmas.Result.{err_from_is_err_and}
use Rattle.backing.specs.Meaning.{tally}
use Rattle.backing.proofs.Lent.{full, fits_of, made_of}
use Rattle.backing.proofs.Tallies.{tally_const}
use Rattle.runs.specs.Lent.{items_of}
use Rattle.runs.specs.Rows.{Apart, in_runs}
use Rattle.runs.proofs.Order.{apart_none, in_none}
use Rattle.runs.proofs.lists.RunList.new.Goals as goal
use Rattle.runs.proofs.lists.RunList.new.Goals.{After-new}

-- no run is there, so no granule lies in one
empty : (c : After-new) (g : ℕ) → in_runs (items_of c.new.result) g ≡ false
empty c g = ap (λ n. in_runs (take n c.new.result.places.now) g) c.new.ensures.len ∙ in_none g

pub invariant_of-result : goal.invariant_of-result
invariant_of-result c =
    let a = (goal.at.invariant_of-result c).After-new in
    let fits = fits_of c.args.size _ (length c.args.records.now) c.in_ok-records.ensures.answer in (
      record {
        some = fits.some;
        bounded = fits.bounded;
        covered = omega (arith, fits.covered, ap length c.new.ensures.places, ap length c.in_ok-records.ensures.same);
        used = c.new.result.used;
        apart = subst (λ n. Apart 0 (c.args.size + 1) (take n c.new.result.places.now)) (sym c.new.ensures.len) (apart_none 0 (c.args.size + 1) (omega arith));
        counted = sym (ap (λ h. tally h 0 c.args.size) (fun_ext (empty a)) ∙ tally_const false 0 c.args.size);
      },
      tt,
    )

pub returns-clause-answer : goal.returns-clause-answer
returns-clause-answer c =
    let a = (goal.at.returns-clause-answer c).After-new in
    ap (λ h. Ok (full h c.args.size)) (fun_ext (empty a)) ∙ made_of c.args.size _ _ (length c.args.records.now) _ c.in_ok-records.ensures.answer (omega arith)

pub returns-in_err-records-clause-answer : goal.returns-in_err-records-clause-answer
returns-in_err-records-clause-answer c =
    let p = err_from_is_err_and c.from_residual.result c.from_residual.ensures.1 in
    rw (p.1, p.2) (made_of c.args.size _ _ (length c.args.records.now) _ c.in_err-records.ensures.answer (omega arith))

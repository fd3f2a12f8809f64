use Rattle.std.proofs.Common.{ℕ, length, Ok, ap, ◌∙◌, arith, length-append, length-take}
use Rattle.std.proofs.lemmas.Result.{err_from_is_err_and}
use Rattle.std.proofs.lemmas.Bool.Decides.{nat_tests}
use Rattle.backing.proofs.Lent.{fits_of, made_of}
use Rattle.backing.proofs.Marks.{none_marked, cleared_ok}
use Rattle.backing.proofs.Parts.{get_or-joined, zeros_only}
use Rattle.backing.proofs.masks.Mask.new.Goals as goal

pub invariant_of-result : goal.invariant_of-result
invariant_of-result c =
    let fits = fits_of _ _ _ c.in_ok-bytes.ensures.answer in
    let zero = zeros_only _ c.fill.new.self (c.fill.ensures.after (λ y p. p)) in (
      cleared_ok _ _ fits.some fits.bounded
          (grind (arith, fits.covered, length-append {A = ℕ}, length-take {A = ℕ}))
          (λ k h. grind (arith, nat_tests, get_or-joined, zero, fits.covered, length-take {A = ℕ})),
      tt,
    )

pub returns-clause-answer : goal.returns-clause-answer
returns-clause-answer c =
    let fits = fits_of _ _ _ c.in_ok-bytes.ensures.answer in
    let zero = zeros_only _ c.fill.new.self (c.fill.ensures.after (λ y p. p)) in
    ap Ok (none_marked _ c.args.size (λ k h. grind (arith, nat_tests, get_or-joined, zero, fits.covered, length-take {A = ℕ})))
    ∙ made_of c.args.size _ _ (length c.args.bytes.now) _ c.in_ok-bytes.ensures.answer (omega arith)

pub returns-in_err-bytes-clause-answer : goal.returns-in_err-bytes-clause-answer
returns-in_err-bytes-clause-answer c =
    let p = err_from_is_err_and c.from_residual.result c.from_residual.ensures.1 in
    rw (p.1, p.2) (made_of c.args.size _ _ (length c.args.bytes.now) _ c.in_err-bytes.ensures.answer (omega arith))

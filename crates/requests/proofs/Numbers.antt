-- What the library's reading of a number says of `number_of`. Assumes nothing.
use Rattle.std.proofs.Common.{◌≡◌, ℕ, ◌^◌, ◌<◌, Bool, true, false, ◌&&◌, ltb, leb, List, length, get_or, Some, Ok, Err, Decides, Result, sym, refl, ap, ◌∙◌, arith, rules}
use Rattle.std.specs.Result.{OkIff, result_ok, result_or}
use Rattle.std.specs.Str.Parse.{ParsesUnsigned}
use Rattle.std.specs.Str.{all_ascii_digits}
use Rattle.std.proofs.lemmas.Str.Parse.{IsNumeralModel, numerals_by_fold, tells_all_ascii_digits, parse_plain}
use Rattle.std.proofs.lemmas.Bool.{cond-true, cond-false, false_from_ne_true}
use Rattle.std.proofs.lemmas.Bool.Decides.{nat_tests}
use Rattle.requests.specs.Lines.{value_after, is_number, number_of}

own : IsNumeralModel (λ ds. all_ascii_digits ds ≡ true) (value_after 0)
own = numerals_by_fold _ tells_all_ascii_digits value_after (search rules)

-- the three parts of the test
abbrev Fitting : List ℕ → Type 0
Fitting bs = (all_ascii_digits bs ≡ true) × (0 < length bs) × (value_after 0 bs < 2 ^ 32)

tested : (d : Bool) (n v : ℕ) → Decides (ltb 0 n && (d && leb v 4294967295)) ((d ≡ true) × (0 < n) × (v < 2 ^ 32))
tested true n v = grind (arith, nat_tests)
tested false n v = grind (arith, nat_tests)

is_number_tells : (bs : List ℕ) → Decides (is_number bs) (Fitting bs)
is_number_tells bs = tested (all_ascii_digits bs) (length bs) (value_after 0 bs)

converted : {E : Type 0} (bs : List ℕ) (r : Result ℕ E) → OkIff r (Fitting bs) (value_after 0 bs) → result_ok r ≡ number_of bs
converted bs (Ok n) h = ap Some h.1 ∙ sym (cond-true _ _ _ ((is_number_tells bs).1 h.0))
converted bs (Err e) h = sym (cond-false _ _ _ (false_from_ne_true _ (λ t. h ((is_number_tells bs).0 t))))

-- where no plus sign stands first, `parse` reads what `number_of` says
pub parsed : {E : Type 0} (bs : List ℕ) (r : Result ℕ E) → ParsesUnsigned 32 10 bs r → (get_or bs 0 0 ≡ 43 → ⊥) → result_ok r ≡ number_of bs
parsed bs r h plain = converted bs r (parse_plain own 32 bs r h plain)

-- another error in place of the error keeps the value
pub kept : {T E D : Type 0} (r : Result T E) (d : D) → result_ok (result_or r (Err d)) ≡ result_ok r
kept (Ok x) d = refl
kept (Err e) d = refl

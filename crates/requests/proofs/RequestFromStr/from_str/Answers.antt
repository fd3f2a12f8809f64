use Rattle.std.proofs.Common.{◌≡◌, Some, None, sym, ◌∙◌, lit<}
use Rattle.std.specs.Option.{option_and_then}
use Rattle.std.proofs.lemmas.Str.Pattern.{split_parts}
use Rattle.requests.specs.Lines.{number_of, with_one, with_two, request_of}
use Rattle.requests.proofs.Cuts.{alone_read, one_read, two_read, given, missing, failed}
use Rattle.requests.proofs.RequestFromStr.from_str.Goals as goal
use Rattle.requests.proofs.RequestFromStr.from_str.Goals.{In-None, In-Some-split_once}

-- one text follows the word
one : (c : In-None) → request_of c.args.line.now ≡ option_and_then (with_one c.in-Some.word.now) (number_of c.in-Some.numbers.now)
one c =
    let front = split_parts 32 c.args.line.now (Some (c.in-Some.word, c.in-Some.numbers)) c.in-Some.ensures.cases (lit< tt) in
    let rest = split_parts 32 c.in-Some.numbers.now None c.in-None.ensures.cases (lit< tt) in
    one_read _ _ _ front.0 front.1 rest

-- two texts follow it
two : (c : In-Some-split_once) → request_of c.args.line.now
    ≡ option_and_then (λ a. option_and_then (with_two c.in-Some.word.now a) (number_of c.in-Some-split_once.count.now)) (number_of c.in-Some-split_once.first.now)
two c =
    let front = split_parts 32 c.args.line.now (Some (c.in-Some.word, c.in-Some.numbers)) c.in-Some.ensures.cases (lit< tt) in
    let rest = split_parts 32 c.in-Some.numbers.now (Some (c.in-Some-split_once.first, c.in-Some-split_once.count)) c.in-Some-split_once.ensures.cases (lit< tt) in
    two_read _ _ _ _ _ front.0 front.1 rest.0 rest.1

pub returns-in_default : goal.returns-in_default
returns-in_default c = c.from_word.ensures ∙ sym (alone_read _ (split_parts 32 c.args.line.now None c.in_default.ensures.cases (lit< tt)))

pub returns-in_err-number-in-None : goal.returns-in_err-number-in-None
returns-in_err-number-in-None c =
    failed _ _ c.from_residual.ensures.1
    ∙ sym (one (goal.at.returns-in_err-number-in-None c).In-None ∙ missing _ _ c.in_err-number-in-None.ensures)

pub returns-in_ok-number-in-None : goal.returns-in_ok-number-in-None
returns-in_ok-number-in-None c =
    c.from_one.ensures ∙ sym (one (goal.at.returns-in_ok-number-in-None c).In-None ∙ given _ _ _ c.in_ok-number-in-None.ensures)

pub returns-in_err-first-in-Some-split_once : goal.returns-in_err-first-in-Some-split_once
returns-in_err-first-in-Some-split_once c =
    failed _ _ c.from_residual-in_err-first-in-Some-split_once.ensures.1
    ∙ sym (two (goal.at.returns-in_err-first-in-Some-split_once c).In-Some-split_once ∙ missing _ _ c.in_err-first-in-Some-split_once.ensures)

pub returns-in_err-count-in-Some-split_once : goal.returns-in_err-count-in-Some-split_once
returns-in_err-count-in-Some-split_once c =
    failed _ _ c.from_residual-in_err-count-in-Some-split_once.ensures.1
    ∙ sym
    (two (goal.at.returns-in_err-count-in-Some-split_once c).In-Some-split_once
    ∙ given _ _ _ c.in_ok-first-in-Some-split_once.ensures
    ∙ missing _ _ c.in_err-count-in-Some-split_once.ensures)

pub returns-in_ok-count-in-Some-split_once : goal.returns-in_ok-count-in-Some-split_once
returns-in_ok-count-in-Some-split_once c =
    c.from_two.ensures
    ∙ sym
    (two (goal.at.returns-in_ok-count-in-Some-split_once c).In-Some-split_once
    ∙ given _ _ _ c.in_ok-first-in-Some-split_once.ensures
    ∙ given _ _ _ c.in_ok-count-in-Some-split_once.ensures)

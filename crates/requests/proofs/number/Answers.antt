use Rattle.std.proofs.Common.{ap, ◌∙◌, lit<}
use Rattle.std.specs.Result.{result_ok}
use Rattle.std.proofs.lemmas.Str.Pattern.{starts_char}
use Rattle.std.proofs.lemmas.Bool.Decides.{not_from_Decides}
use Rattle.requests.proofs.Numbers.{parsed, kept}
use Rattle.requests.proofs.number.Goals as goal

pub returns : goal.returns
returns c =
    let plus = starts_char 43 c.args.text.now c.starts_with.result c.starts_with.ensures.cases (lit< tt) (lit< tt) in
    ap result_ok c.or.ensures ∙ kept _ _ ∙ parsed c.args.text.now _ c.parse.ensures.value.0 (not_from_Decides _ plus c.if-starts_with.false)

use Rattle.std.proofs.Common.{◌∙◌, arith}
use Rattle.backing.proofs.Bytes.{Span, span_of, moved_span}
use Rattle.backing.proofs.bits.part.Goals as goal
use Rattle.backing.proofs.bits.part.Goals.{After-min-high}

spanned : (c : After-min-high) → Span c.saturating_sub-low.result c.min-high.result
spanned c = span_of _ _ (omega (arith, c.args.span.some, c.requires.from, c.requires.to, c.saturating_sub-low.ensures, c.min-high.ensures)) (omega (arith, c.min-high.ensures))

pub overflow_sub-result : goal.overflow_sub-result
overflow_sub-result c = (spanned (goal.at.overflow_sub-result c).After-min-high).order

pub returns : goal.returns
returns c j h =
    (spanned (goal.at.returns c).After-min-high).bits j h
    ∙ moved_span c.args.k c.args.span.first c.args.span.end c.saturating_sub-low.result c.min-high.result j h c.saturating_sub-low.ensures c.min-high.ensures

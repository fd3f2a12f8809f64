use Rattle.backing.proofs.Bytes.{Changed}
use Rattle.backing.proofs.bits.change.Given as goal

abbrev pub invariant-loop-k : goal.invariant-loop-k
invariant-loop-k g l = Changed (goal.F-post g l.f) l.span.first l.span.end l.initial.bytes l.bytes l.k

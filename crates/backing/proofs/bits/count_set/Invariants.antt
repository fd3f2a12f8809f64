use Rattle.std.proofs.Common.{◌≡◌, ◌+◌, ◌-◌, ◌*◌, min}
use Rattle.backing.specs.Bits.{bit_at}
use Rattle.backing.specs.Meaning.{tally}
use Rattle.backing.proofs.bits.count_set.Given as goal

abbrev pub invariant-loop-k : goal.invariant-loop-k
invariant-loop-k l = l.n ≡ tally (bit_at l.bytes) l.span.first (min l.span.end (8 * (l.start + l.k)) - l.span.first)

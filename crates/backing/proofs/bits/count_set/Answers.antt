use Rattle.std.proofs.Common.{◌≡◌, ◌+◌, ◌-◌, ◌*◌, ◌/◌, min, get_or, take, drop, sym, ap, ◌∙◌, arith, rules}
use lib.Bits.{bit_and}
use lib.Count.{ones}
use Rattle.backing.specs.Bits.{bit_at}
use Rattle.backing.specs.Meaning.{tally}
use Rattle.backing.specs.Soundness.{tally_le}
use Rattle.backing.proofs.Bytes.{byte_counted}
use Rattle.backing.proofs.Parts.{get_or-part}
use Rattle.backing.proofs.Tallies.{tally_none}
use Rattle.backing.proofs.bits.count_set.Goals as goal
use Rattle.backing.proofs.bits.count_set.Goals.{After-part}

-- the count with the bits of one byte more
counted : (c : After-part)
    → c.loop-k.n + ones (bit_and (get_or (take (c.div_ceil-end.result - c.args.span.first / 8) (drop (c.args.span.first / 8) c.args.bytes.now)) c.loop-k.k 0) c.part.result)
    ≡ tally (bit_at c.args.bytes.now) c.args.span.first (min c.args.span.end (8 * (c.args.span.first / 8 + (c.loop-k.k + 1))) - c.args.span.first)
counted c =
    let byte = get_or-part (c.args.span.first / 8) (c.div_ceil-end.result - c.args.span.first / 8) c.args.bytes.now c.loop-k.k 0 (omega arith) in
    let next : c.args.span.first / 8 + c.loop-k.k + 1 ≡ c.args.span.first / 8 + (c.loop-k.k + 1) = omega arith in
    ap (λ b. c.loop-k.n + ones (bit_and b c.part.result)) byte
    ∙ byte_counted c.args.bytes.now (c.args.span.first / 8 + c.loop-k.k) c.args.span.first c.args.span.end c.part.result c.part.ensures c.loop-k.n (search rules) c.loop-k.invariant
    ∙ ap (λ i. tally (bit_at c.args.bytes.now) c.args.span.first (min c.args.span.end (8 * i) - c.args.span.first)) next

pub loop-k-init : goal.loop-k-init
loop-k-init c =
    let none : min c.args.span.end (8 * (c.args.span.first / 8 + 0)) - c.args.span.first ≡ 0 = omega arith in
    sym (ap (tally (bit_at c.args.bytes.now) c.args.span.first) none ∙ tally_none _ _)

pub overflow_add-n : goal.overflow_add-n
overflow_add-n c =
    let more = counted (goal.at.overflow_add-n c).After-part in
    let few = tally_le (bit_at c.args.bytes.now) c.args.span.first (min c.args.span.end (8 * (c.args.span.first / 8 + (c.loop-k.k + 1))) - c.args.span.first) in
    search rules

pub loop-k-preserved : goal.loop-k-preserved
loop-k-preserved c = counted (goal.at.loop-k-preserved c).After-part

use Rattle.std.proofs.Common.{◌≡◌, ◌-◌, false, sym, ap, ◌∙◌, arith, rules}
use Rattle.std.proofs.lemmas.List.{get_or_past}
use lib.Bits.{bit_and}
use Rattle.backing.specs.Bits.{bit_of}
use Rattle.backing.proofs.Bytes.{bits_off, all_turned}
use Rattle.backing.proofs.bits.clear.Goals as goal

pub returns-clause-bits : goal.returns-clause-bits
returns-clause-bits c =
    all_turned c.args.bytes.now c.change.new.bytes c.args.span.first c.args.span.end false _ c.requires c.change.ensures.bytes
    (λ byte bits r j h l p. let is : r ≡ bit_and byte (255 - bits) = search rules in ap (λ x. bit_of x j) is ∙ bits_off byte bits j h l)
    (λ k h. get_or_past c.change.new.bytes k 0 (omega arith) ∙ sym (get_or_past c.args.bytes.now k 0 h))

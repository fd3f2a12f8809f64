use Rattle.std.proofs.Common.{◌-◌, ◌≤◌, false, arith, ap}
use Rattle.std.proofs.lemmas.Bool.Decides.{nat_tests}
use Rattle.backing.specs.Bits.{marked}
use Rattle.backing.specs.Masks.{mask_means}
use Rattle.backing.specs.Meaning.{present}
use Rattle.backing.proofs.Lawful.{all_released}
use Rattle.backing.proofs.Marks.{mask_turned, mask_still}
use Rattle.backing.proofs.Tallies.{tally_part, turned_fewer}
use Rattle.backing.proofs.masks.MaskBacking.release.Goals as goal

pub invariant_of-self-inside : goal.invariant_of-self-inside
invariant_of-self-inside c =
    let l = c.self.inside in
    let span = c.in_ok-span.span in
    let fits : span.end ≤ l.size = grind (arith, nat_tests) in
    let turns = mask_turned l.bytes.now c.clear.new.bytes l.size span.first span.end fits false c.clear.ensures.bits in
    let fewer = turned_fewer (marked l.bytes.now l.size) (marked c.clear.new.bytes l.size) span.first span.end l.size span.some fits turns in
    let seen = ap (λ m. present (mask_means m) span.first (span.end - span.first)) c.self.view_is in
    (mask_still l.bytes.now c.clear.new.bytes l.size span.first span.end fits false c.clear.ensures.bits l.count _ c.clear.auto.bytes l.ok (grind (arith, fewer, seen)), tt)

pub overflow_sub-self : goal.overflow_sub-self
overflow_sub-self c =
    let l = c.self.inside in
    let span = c.in_ok-span.span in
    let part = tally_part (marked l.bytes.now l.size) c.args.stretch.first c.args.stretch.count l.size in
    let seen = ap (λ m. present (mask_means m) span.first (span.end - span.first)) c.self.view_is in
    grind (arith, nat_tests, part, seen, l.ok.counted)

pub returns-clause-after : goal.returns-clause-after
returns-clause-after c =
    let l = c.self.inside in
    let span = c.in_ok-span.span in
    let fits : span.end ≤ l.size = grind (arith, nat_tests) in
    let turns = mask_turned l.bytes.now c.clear.new.bytes l.size span.first span.end fits false c.clear.ensures.bits in
    rw (← c.self.view_is) (all_released _ _ _ _ _ _ _ c.in_ok-span.ensures.first c.in_ok-span.ensures.end turns)

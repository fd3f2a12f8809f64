use Rattle.std.proofs.Common.{◌≤◌, ◌-◌, true, arith, ap}
use Rattle.std.proofs.lemmas.Bool.Decides.{nat_tests}
use Rattle.backing.specs.Bits.{marked}
use Rattle.backing.specs.Masks.{mask_means}
use Rattle.backing.specs.Replies.{commit_reply}
use Rattle.backing.proofs.Lawful.{all_committed}
use Rattle.backing.specs.Meaning.{present, commit_after}
use Rattle.backing.proofs.Marks.{mask_turned, mask_still}
use Rattle.backing.proofs.Tallies.{tally_both, tally_room, turned_more}
use Rattle.backing.proofs.masks.MaskBacking.commit.Goals as goal

pub invariant_of-self-inside : goal.invariant_of-self-inside
invariant_of-self-inside c =
    let l = c.self.inside in
    let span = c.in_ok-span.span in
    let fits : span.end ≤ l.size = grind (arith, nat_tests) in
    let turns = mask_turned l.bytes.now c.set.new.bytes l.size span.first span.end fits true c.set.ensures.bits in
    let more = turned_more (marked l.bytes.now l.size) (marked c.set.new.bytes l.size) span.first span.end l.size span.some fits turns in
    let seen = ap (λ m. present (mask_means m) span.first (span.end - span.first)) c.self.view_is in
    (mask_still l.bytes.now c.set.new.bytes l.size span.first span.end fits true c.set.ensures.bits l.count _ c.set.auto.bytes l.ok (grind (arith, tally_both, more, seen)), tt)

pub returns-clause-after : goal.returns-clause-after
unfolding commit_after
returns-clause-after c =
    let l = c.self.inside in
    let span = c.in_ok-span.span in
    let fits : span.end ≤ l.size = grind (arith, nat_tests) in
    let turns = mask_turned l.bytes.now c.set.new.bytes l.size span.first span.end fits true c.set.ensures.bits in
    rw (← c.self.view_is) (all_committed _ _ _ _ _ _ _ c.in_ok-span.ensures.first c.in_ok-span.ensures.end turns)

pub returns-clause-answer : goal.returns-clause-answer
unfolding commit_reply
returns-clause-answer c =
    let room = tally_room (mask_means c.args.self.now).held c.args.stretch.first c.args.stretch.count c.args.self.now.size in
    grind (arith, nat_tests, tally_both, room)

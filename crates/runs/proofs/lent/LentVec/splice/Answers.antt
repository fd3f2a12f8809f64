use Rattle.runs.proofs.Splices.{spliced_front, spliced_rest, written}
use Rattle.runs.proofs.lent.LentVec.splice.Goals as goal

pub returns-clause-items : goal.returns-clause-items
returns-clause-items g c =
    let v = c.args.self.now in
    spliced_front v.places.now c.args.new.now v.len c.args.range.start c.args.range.end c.requires.order c.requires.within v.used c.requires.fits c.put.new.places
    (written v.places.now c.args.new.now v.len c.args.range.start c.args.range.end c.requires.order c.requires.within v.used c.requires.fits c.shift.new.places c.put.new.places c.shift.ensures c.put.ensures)

pub returns-clause-rest : goal.returns-clause-rest
returns-clause-rest g c =
    let v = c.args.self.now in
    spliced_rest v.places.now c.args.new.now v.len c.args.range.start c.args.range.end c.requires.order c.requires.within v.used c.requires.fits c.put.new.places
    (written v.places.now c.args.new.now v.len c.args.range.start c.args.range.end c.requires.order c.requires.within v.used c.requires.fits c.shift.new.places c.put.new.places c.shift.ensures c.put.ensures)

use Rattle.std.proofs.Common.{arith}
use Rattle.backing.proofs.Bytes.{changed_none, changed_more, changed_all}
use Rattle.backing.proofs.bits.change.Goals as goal

pub loop-k-init : goal.loop-k-init
loop-k-init g c = changed_none _ _ _ _ _ (omega arith)

pub loop-k-preserved : goal.loop-k-preserved
loop-k-preserved g c =
    changed_more _ _ _ _ _ _ _ _ _ c.loop-k.invariant (omega arith) (omega arith) (omega arith) (omega arith) c.part.type_inv c.part.ensures c.f.ensures

pub returns : goal.returns
returns g c = record {
  bytes = λ k h. changed_all _ _ _ _ _ _ c.loop-k.invariant (omega arith) k;
  rest = c.loop-k.invariant.rest;
}

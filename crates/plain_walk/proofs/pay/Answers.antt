use Rattle.rules.proofs.Chain.{cross-flip}
use Rattle.walk.proofs.Aims.{emit-cn}
use Rattle.plain_walk.proofs.pay.Goals as goal

pub returns : goal.returns
returns c =
    record {
      wrote = rw (emit-cn _ _ _ _ _ c.wire_of-control.ensures c.wire_of-target.ensures) c.write_cnot-next.ensures;
      rows = c.add.ensures;
      terms = rw (cross-flip _ _ _) (rw c.single.ensures at c.flip_by.ensures);
      slots = rw c.paid.ensures;
    }

use native.Mathlib.Omega.{arith}
use Rattle.rules.proofs.Chain.{cross-flip}
use Rattle.walk.proofs.Deferring.{other-bit}
use Rattle.walk.proofs.Aims.{emit-cn}
use Rattle.walk.proofs.pay.Goals as goal

pub defer-requires-clause-t_bound : goal.defer-requires-clause-t_bound
defer-requires-clause-t_bound c = (omega (arith, c.requires.owed_in_bounds.1, c.requires.wires.few), rw c.single.ensures (other-bit _ _ c.requires.owed_nonzero))

pub returns : goal.returns
returns c =
    let passed = c.defer.ensures in (
      record {
        emits = rw (emit-cn _ _ _ _ _ c.wire_of-control.ensures c.wire_of-target.ensures) c.emit_cnot-pushed.ensures;
        rows = c.add.ensures;
        terms = rw (cross-flip _ _ _) (rw c.single.ensures at passed.terms);
        slots = rw c.paid.ensures;
      },
      passed.waits,
    )

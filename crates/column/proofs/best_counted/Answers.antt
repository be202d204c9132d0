use mathlib.Core.Path.{sym, ◌∙◌}
use Prim.Native.Nat.{◌/◌}
use lib.ListN.{length}
use borrow.Author.Tests.{eqb-true}
use Rattle.terms.proofs.Room.{room-length}
use Rattle.column.proofs.Adding.{clear-planes}
use Rattle.column.proofs.Distances.{furthest-best}
use Rattle.column.proofs.Sifting.{none-best}
use Rattle.column.proofs.best_counted.Goals as goal

pub returns-then-is_zero : goal.returns-then-is_zero
returns-then-is_zero c = none-best _ _ (eqb-true _ 0 (sym c.is_zero.ensures ∙ c.if-is_zero.true))

pub ends-left-requires-clause-set_len_bound : goal.ends-left-requires-clause-set_len_bound
ends-left-requires-clause-set_len_bound c =
    let d = c.digits-end.ensures in
    (clear-planes c.zero-planes.result c.zero-planes.ensures _ c.digits-end.result 64 (rw (room-length c.args.set.now) d.0) d.1).0

pub ends-left-requires-clause-by_index : goal.ends-left-requires-clause-by_index
ends-left-requires-clause-by_index c =
    let d = c.digits-end.ensures in
    (clear-planes c.zero-planes.result c.zero-planes.ensures (length c.args.set.now / 3) c.digits-end.result 64 d.0 d.1).1

pub returns : goal.returns
returns c = c.ends-left.ensures _ (furthest-best _ _ _ c.scan.ensures)

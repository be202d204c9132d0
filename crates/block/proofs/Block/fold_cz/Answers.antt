-- `Block::fold_cz` meets its contract: three folds, one after the other.
use Rattle.std.proofs.Common.{Bool, not, arith}
use mathlib.Core.Bool.{beq}
use Rattle.parity.specs.View.{val}
use Rattle.terms.proofs.Room.{room-same}
use Rattle.rows.proofs.Room.{row_get}
use Rattle.block.proofs.Folding.{cz-turns, differ-is}
use Rattle.block.proofs.Block.fold_cz.Goals as goal

pub fold-requires-2-clause-terms_in_bounds : goal.fold-requires-2-clause-terms_in_bounds
fold-requires-2-clause-terms_in_bounds c = omega (arith, room-same c.fold.new.room c.args.room.now c.fold.auto.room)

pub fold-requires-3-clause-terms_in_bounds : goal.fold-requires-3-clause-terms_in_bounds
fold-requires-3-clause-terms_in_bounds c =
    omega (arith, room-same c.fold.new.room c.args.room.now c.fold.auto.room, room-same c.fold-2.new.room c.fold.new.room c.fold-2.auto.room)

pub returns : goal.returns
returns c =
    let rows = c.args.self.now.rows in
    let a : Bool = c.has-xs.result in
    let b : Bool = c.has-ys.result in
    rw (row_get rows c.args.c.0, row_get rows c.args.t.0, ← c.has-xs.ensures, ← c.has-ys.ensures)
    (cz-turns _ _ (val c.bitxor.result) a b (not (beq a b)) _ _ _ _ _ _ _ _ _ _ _ c.fold.ensures c.fold-2.ensures c.fold-3.ensures c.bitxor.ensures (differ-is a b))

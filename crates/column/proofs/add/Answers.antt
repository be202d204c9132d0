use mathlib.Core.Path.{sym}
use Rattle.rows.specs.Rows.{rows_of}
use Rattle.rows.proofs.Room.{row_get, row_put}
use Rattle.column.proofs.Adding.{full, full-rest}
use Rattle.column.proofs.add.Goals as goal

pub returns : goal.returns
returns c =
    let m = c.args.planes.now in
    λ j. full-rest j (rows_of m) _ _ _ _ _ _ (row_put m 0 c.bitxor.result)
    (full j (rows_of m) _ _ _ _ _ _ _ _ c.requires (sym (row_get m 0)) c.bitxor-apart.ensures c.bitxor.ensures (c.bitand-both.ensures j) (c.bitand.ensures j) (c.bitor-carry.ensures j))
    (c.ripple.ensures j)

use mathlib.Core.Path.{◌≡◌, sym}
use Prim.Native.Nat.{◌+◌, ◌-◌}
use native.Mathlib.Omega.{arith}
use lib.ListN.{length}
use Rattle.rows.specs.Rows.{rows_of}
use Rattle.rows.proofs.Room.{row_count, row_get}
use Rattle.column.proofs.Sifting.{sift-first, sift-next}
use Rattle.column.proofs.sift.Goals as goal

pub loop-k-init : goal.loop-k-init
loop-k-init c = sift-first _ _ _ (length c.args.planes.now) (omega (arith, row_count c.args.planes.now))

pub loop-k-preserved : goal.loop-k-preserved
loop-k-preserved c =
    let l = c.loop-k in
    let ps = c.args.planes.now in
    let k : l.k - 1 + 1 ≡ l.k = omega arith in
    sift-next _ _ (rows_of ps) (l.k - 1) _ _ _ _ _ (omega (arith, row_count ps)) (sym (row_get ps (l.k - 1))) (rw k l.invariant) c.bitxor.ensures c.bitand-hit.ensures c.or_else-left.ensures

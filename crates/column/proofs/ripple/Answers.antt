use mathlib.Core.Path.{sym, ◌∙◌}
use native.Mathlib.Omega.{arith}
use Rattle.rows.specs.Rows.{rows_of}
use Rattle.rows.proofs.Room.{row_count, row_get, row_put}
use Rattle.column.proofs.Adding.{half}
use Rattle.column.proofs.ripple.Goals as goal

pub loop-k-preserved : goal.loop-k-preserved
loop-k-preserved c =
    let l = c.loop-k in
    let ps = l.planes in
    λ j. rw (row_put ps l.k c.bitxor.result) (half j (rows_of ps) l.k _ _ _ _ (omega (arith, row_count ps)) (sym (row_get ps l.k)) c.bitxor.ensures (c.bitand-carry.ensures j)) ∙ l.invariant j

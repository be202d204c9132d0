use mathlib.Core.Path.{sym, ◌∙◌}
use mathlib.Core.List.{map}
use native.Mathlib.Omega.{arith}
use lib.ListN.{length-map}
use Rattle.rules.specs.Close.{times}
use Rattle.rows.specs.Rows.{rows_of}
use Rattle.rows.proofs.Room.{row_count, row_get, row_put}
use Rattle.rows.proofs.Sums.{product_at}
use Rattle.rows.proofs.Rounds.{fill-next}
use Rattle.rows.proofs.products.Goals as goal

pub row_times_matrix-requires : goal.row_times_matrix-requires
row_times_matrix-requires c =
    let w = c.args.wanted.now in
    rw (← row_get w c.loop-r.r) (c.requires.1 _ (omega (arith, row_count w)))

pub loop-r-preserved : goal.loop-r-preserved
loop-r-preserved c =
    let l = c.loop-r in
    let s = c.args in
    let inv = rows_of s.inv.now in
    let wanted = rows_of s.wanted.now in
    let e = row_count s.wanted.now in
    let f = row_count l.m in
    rw (row_put l.m l.r c.row_times_matrix.result)
    (fill-next (map (λ v. times v 0 inv) wanted) (rows_of l.m) l.r l.invariant _ (omega arith) (simp length-map (omega arith))
    (c.row_times_matrix.ensures ∙ rw (← row_get s.wanted.now l.r) (sym (product_at inv wanted l.r))))

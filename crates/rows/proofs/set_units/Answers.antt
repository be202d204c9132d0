use mathlib.Core.Path.{sym, ap, ◌∙◌}
use Prim.Native.Nat.{ℕ, ◌<◌, ◌^◌}
use native.Mathlib.Nat.{zero-add}
use native.Mathlib.Omega.{arith}
use lib.ListN.{length}
use Rattle.rules.specs.Close.{units}
use Rattle.rules.proofs.Closing.{at-units, length-units}
use Rattle.rows.specs.Rows.{rows_of}
use Rattle.rows.proofs.Room.{row_count, row_put}
use Rattle.rows.proofs.Rounds.{fill-next, fill_end}
use Rattle.rows.proofs.set_units.Goals as goal

pub loop-r-preserved : goal.loop-r-preserved
loop-r-preserved c =
    let l = c.loop-r in
    let n = length (rows_of c.args.m.now) in
    let a = row_count c.args.m.now in
    let b = row_count l.m in
    let h : l.r < n = omega arith in
    rw (row_put l.m l.r c.single.result)
    (fill-next (units n 0) (rows_of l.m) l.r l.invariant _ (omega arith) (rw (length-units n 0) h)
    (c.single.ensures ∙ sym (at-units n 0 l.r h ∙ ap (λ (x : ℕ). 2 ^ x) (zero-add l.r))))

pub returns : goal.returns
returns c =
    let l = c.loop-r in
    let n = length (rows_of c.args.m.now) in
    let a = row_count c.args.m.now in
    let b = row_count l.m in
    fill_end (units n 0) (rows_of l.m) l.r l.invariant (omega arith) (rw (length-units n 0) (omega arith))

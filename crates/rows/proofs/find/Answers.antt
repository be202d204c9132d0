use mathlib.Core.Path.{sym, ◌∙◌}
use native.Mathlib.Omega.{arith}
use Rattle.rows.proofs.Room.{row_count, row_get}
use Rattle.rows.proofs.Search.{first-end, first-miss, first-hit}
use Rattle.rows.proofs.find.Goals as goal

pub loop-r-preserved : goal.loop-r-preserved
loop-r-preserved c =
    let m = c.args.m.now in
    c.loop-r.invariant ∙ first-miss _ _ _ _ (omega (arith, row_count m)) (rw (row_get m c.loop-r.r, ← c.has.ensures) c.if-has.false)

pub returns-then-has : goal.returns-then-has
returns-then-has c =
    let m = c.args.m.now in
    sym (c.loop-r.invariant ∙ first-hit _ _ _ _ (omega (arith, row_count m)) (rw (row_get m c.loop-r.r, ← c.has.ensures) c.if-has.true))

pub returns-after-loop-r : goal.returns-after-loop-r
returns-after-loop-r c = sym (c.loop-r.invariant ∙ first-end _ _ _ _ (omega (arith, row_count c.args.m.now)))

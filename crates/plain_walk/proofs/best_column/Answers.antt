use mathlib.Core.Path.{sym, ◌∙◌}
use Prim.Native.Nat.{◌<◌}
use native.Mathlib.Nat.{pos_of_ne-zero}
use native.Mathlib.Omega.{arith}
use borrow.Author.Tests.{eqb-true, eqb-false}
use Rattle.parity.specs.View.{val}
use Rattle.parity.proofs.Laws.{clear-lt}
use Rattle.terms.proofs.Room.{room-length}
use Rattle.column.proofs.Scanning.{ones-le}
use Rattle.plain_walk.proofs.Scoring.{scan-first, scan-next, scan-end, ones-score}
use Rattle.plain_walk.proofs.best_column.Goals as goal
use Rattle.plain_walk.proofs.best_column.Goals.{In-loop-left}

-- a column is left
some_left : (c : In-loop-left) → 0 < val c.loop-left.left
some_left c = pos_of_ne-zero (eqb-false (val c.loop-left.left) 0 (sym c.is_zero.ensures ∙ c.loop-left-test.true))

pub loop-left-init : goal.loop-left-init
loop-left-init c = scan-first _ _

pub overflow_sub-size : goal.overflow_sub-size
overflow_sub-size c = omega (arith, ones-le _ _ _ c.count_ones-ones.ensures, room-length c.args.set.now)

pub loop-left-smaller : goal.loop-left-smaller
loop-left-smaller c = rw c.clear_lowest-left.ensures (clear-lt _ (some_left (goal.at.loop-left-smaller c).In-loop-left))

pub loop-left-preserved : goal.loop-left-preserved
loop-left-preserved c =
    let some = some_left (goal.at.loop-left-preserved c).In-loop-left in
    let r = room-length c.args.set.now in
    scan-next _ _ _ _ c.loop-left.invariant _ _ _ _ (c.lowest-column.ensures.low some) (c.lowest-column.ensures.small some)
    (ones-score _ _ _ _ _ c.max-score.ensures (omega arith) c.count_ones-ones.ensures) c.better-kept.ensures c.clear_lowest-left.ensures

pub returns : goal.returns
returns c = scan-end _ _ _ _ c.loop-left.invariant (eqb-true (val c.loop-left.left) 0 (sym c.is_zero.ensures ∙ c.loop-left-test.false))

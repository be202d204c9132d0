use mathlib.Core.Path.{sym, ◌∙◌}
use Prim.Native.Nat.{◌<◌}
use native.Mathlib.Nat.{pos_of_ne-zero}
use native.Mathlib.Omega.{arith}
use borrow.Author.Tests.{eqb-true, eqb-false}
use Rattle.parity.specs.View.{val}
use Rattle.parity.proofs.Laws.{clear-lt}
use Rattle.terms.proofs.Room.{room-length}
use Rattle.column.proofs.Scanning.{scan-first, scan-next, scan-end, ones-le, ones-distance}
use Rattle.column.proofs.scan.Goals as goal
use Rattle.column.proofs.scan.Goals.{In-loop-left}

pub loop-left-init : goal.loop-left-init
loop-left-init c = scan-first _ _

-- a column is left
some_left : (c : In-loop-left) → 0 < val c.loop-left.left
some_left c = pos_of_ne-zero (eqb-false (val c.loop-left.left) 0 (sym c.is_zero.ensures ∙ c.loop-left-test.true))

pub distance-distance-requires : goal.distance-distance-requires
distance-distance-requires c = omega (arith, ones-le _ _ _ c.count_ones.ensures, room-length c.args.set.now)

pub loop-left-smaller : goal.loop-left-smaller
loop-left-smaller c = rw c.clear_lowest-left.ensures (clear-lt _ (some_left (goal.at.loop-left-smaller c).In-loop-left))

pub loop-left-preserved : goal.loop-left-preserved
loop-left-preserved c =
    let some = some_left (goal.at.loop-left-preserved c).In-loop-left in
    let r = room-length c.args.set.now in
    scan-next _ _ _ _ c.loop-left.invariant _ _ _ _ (c.lowest-column.ensures.low some) (c.lowest-column.ensures.small some)
    (ones-distance _ _ _ _ _ c.distance-distance.ensures (omega arith) c.count_ones.ensures) c.further-kept.ensures c.clear_lowest-left.ensures

pub returns : goal.returns
returns c =
    scan-end _ _ _ _ c.loop-left.invariant (eqb-true (val c.loop-left.left) 0 (sym c.is_zero.ensures ∙ c.loop-left-test.false))

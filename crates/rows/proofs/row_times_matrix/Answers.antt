use mathlib.Core.Path.{◌≡◌, sym, ap, ◌∙◌}
use Prim.Native.Nat.{◌<◌}
use native.Mathlib.Nat.{le_refl, le_trans, lt_of_le_of_lt, pos_of_ne-zero}
use native.Mathlib.Omega.{arith}
use borrow.Author.Tests.{eqb-true, eqb-false}
use lib.ListN.{get_or}
use Rattle.rules.specs.Bit.{xor}
use Rattle.rules.specs.Close.{times}
use Rattle.parity.specs.Columns.{clear_lowest, Lowest}
use Rattle.parity.specs.View.{val}
use Rattle.parity.proofs.Laws.{xor_zero_l, xor_zero_r, xor_assoc, clear-lt, clear-le}
use Rattle.rows.specs.Rows.{rows_of}
use Rattle.rows.proofs.Room.{row_count, row_get}
use Rattle.rows.proofs.Sums.{times-lowest, times_zero, lowest-lt}
use Rattle.rows.proofs.row_times_matrix.Goals as goal
use Rattle.rows.proofs.row_times_matrix.Goals.{After-lowest-at, In-loop-left}

-- a column is left
some : (c : In-loop-left) → 0 < val c.loop-left.left
some c =
    pos_of_ne-zero (eqb-false (val c.loop-left.left) 0 (sym c.is_zero.ensures ∙ c.loop-left-test.true))

-- the lowest, which is a row's
low : (c : After-lowest-at) → 0 < val c.loop-left.left → Lowest (val c.loop-left.left) c.lowest-at.result
low c h = c.lowest-at.ensures.low h

pub loop-left-init : goal.loop-left-init
loop-left-init c = (le_refl _, rw c.zero-sum.ensures (xor_zero_l _))

pub bounds-m-at : goal.bounds-m-at
bounds-m-at c = omega (arith, row_count c.args.m.now, lowest-lt _ _ (low (goal.at.bounds-m-at c).After-lowest-at (some (goal.at.bounds-m-at c).In-loop-left)) _ (lt_of_le_of_lt c.loop-left.invariant.0 c.requires))

pub loop-left-smaller : goal.loop-left-smaller
loop-left-smaller c = rw c.clear_lowest-rest.ensures (clear-lt _ (some (goal.at.loop-left-smaller c).In-loop-left))

pub loop-left-preserved : goal.loop-left-preserved
loop-left-preserved c =
    let l = c.loop-left in
    let m = rows_of c.args.m.now in
    let x = get_or m c.lowest-at.result 0 in
    rw (c.clear_lowest-rest.ensures, c.bitxor-sum.ensures, ← row_get c.args.m.now c.lowest-at.result) (
      le_trans (clear-le (val l.left)) l.invariant.0,
      xor_assoc (val l.sum) x (times (clear_lowest (val l.left)) 0 m)
          ∙ ap (xor (val l.sum)) (sym (times-lowest _ _ (low (goal.at.loop-left-preserved c).After-lowest-at (some (goal.at.loop-left-preserved c).In-loop-left)) m)) ∙ l.invariant.1,
    )

pub returns : goal.returns
returns c =
    let l = c.loop-left in
    let m = rows_of c.args.m.now in
    let z : val l.left ≡ 0 = eqb-true (val l.left) 0 (sym c.is_zero.ensures ∙ c.loop-left-test.false) in
    sym (xor_zero_r (val l.sum)) ∙ ap (xor (val l.sum)) (sym (rw z (times_zero 0 m))) ∙ l.invariant.1

-- `lanes::add_to_rows` meets its contract.
use Rattle.std.proofs.Common.{◌≡◌, ◌<◌, ◌∙◌, false, sym}
use native.Mathlib.Nat.{pos_of_ne-zero}
use borrow.Author.Tests.{eqb-true, eqb-false}
use lib.ListN.{length-set}
use Rattle.parity.specs.View.{val}
use Rattle.parity.proofs.Laws.{clear-lt}
use Rattle.rows.specs.Rows.{rows_of}
use Rattle.rows.proofs.Room.{row_count, row_sum}
use Rattle.lanes.proofs.Digits.{left-next, left_end}
use Rattle.lanes.proofs.add_to_rows.Goals as goal
use Rattle.lanes.proofs.add_to_rows.Goals.{After-is_zero}

some : (c : After-is_zero) → c.is_zero.result ≡ false → 0 < val c.loop-p.left
some c e = pos_of_ne-zero (eqb-false (val c.loop-p.left) 0 (sym c.is_zero.ensures ∙ e))

pub loop-p-smaller : goal.loop-p-smaller
loop-p-smaller c = rw c.clear_lowest-left.ensures (clear-lt _ (some (goal.at.loop-p-smaller c).After-is_zero c.loop-p-test.true))

pub loop-p-preserved : goal.loop-p-preserved
loop-p-preserved c =
    let l = c.loop-p in
    left-next _ _ _ (val l.left) c.lowest-at.result _ (rows_of l.m) _
    (c.lowest-at.ensures.low (some (goal.at.loop-p-preserved c).After-is_zero c.loop-p-test.true)) c.clear_lowest-left.ensures
    (row_sum l.m c.lowest-at.result (val c.args.p) c.bitxor.result c.bitxor.ensures) (row_count _ ∙ simp length-set (sym (row_count l.m))) l.invariant

pub returns : goal.returns
returns c =
    let l = c.loop-p in
    left_end _ _ _ (val l.left) (rows_of l.m) (eqb-true (val l.left) 0 (sym c.is_zero.ensures ∙ c.loop-p-test.false)) l.invariant

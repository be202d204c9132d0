-- `compare::quiet` meets its contract.
use Rattle.std.proofs.Common.{◌≡◌, ◌∙◌, refl, sym, length, arith}
use Rattle.rows.specs.Rows.{rows_of}
use Rattle.rows.proofs.Room.{row_count}
use Rattle.lanes.proofs.Settling.{each-stop, each_next, each-end, none_yet}
use Rattle.compare.specs.View.{wire_test}
use Rattle.compare.proofs.Telling.{test-as, all_told}
use Rattle.compare.proofs.quiet.Goals as goal
use Rattle.compare.proofs.quiet.Goals.{After-wire}

-- what a wire's test says, of the rows that were lent
tested : (c : After-wire) → wire_test (length (rows_of c.args.rows.now)) c.args.us.now c.args.vs.now c.loop-i.i ≡ c.wire.result
tested c = sym (test-as c.args.rows.now c.loop-i.rows c.loop-i.invariant.size c.args.us.now c.args.vs.now c.loop-i.i c.wire.result c.wire.ensures)

pub loop-i-init : goal.loop-i-init
loop-i-init c = record { size = refl; settled = none_yet _ }

pub returns-then-not-wire : goal.returns-then-not-wire
returns-then-not-wire c =
    let w = length (rows_of c.args.rows.now) in
    each-stop (wire_test w c.args.us.now c.args.vs.now) w c.loop-i.i (omega (arith, row_count c.args.rows.now)) (tested (goal.at.returns-then-not-wire c).After-wire ∙ c.if-not-wire.true)
    ∙ all_told w c.args.us.now c.args.vs.now c.requires.few

pub loop-i-preserved : goal.loop-i-preserved
loop-i-preserved c =
    let w = length (rows_of c.args.rows.now) in record {
      size = c.wire.auto.rows ∙ c.loop-i.invariant.size;
      settled = each_next (wire_test w c.args.us.now c.args.vs.now) c.loop-i.i c.loop-i.invariant.settled (tested (goal.at.loop-i-preserved c).After-wire ∙ c.if-not-wire.false);
    }

pub returns : goal.returns
returns c =
    let w = length (rows_of c.args.rows.now) in
    each-end (wire_test w c.args.us.now c.args.vs.now) w c.loop-i.i (omega (arith, row_count c.args.rows.now)) (omega (arith, row_count c.args.rows.now)) c.loop-i.invariant.settled
    ∙ all_told w c.args.us.now c.args.vs.now c.requires.few

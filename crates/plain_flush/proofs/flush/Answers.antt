-- `plain_flush::flush` meets its contract: settled in the parts that the block needs, and the wires leave.
use Rattle.std.proofs.Common.{sym, arith}
use lib.Seq.{length-take-le}
use Rattle.flush.proofs.Cutting.{Enough}
use Rattle.plain_flush.proofs.Parts.{first, enough, fitted}
use Rattle.plain_flush.proofs.flush.Goals as goal
use Rattle.plain_flush.proofs.flush.Goals.{Start}

parts : (c : Start)
    → let s = c.args in let f = c.requires.flushable in
    Enough s.run.now s.place.now s.block.now s.table.now s.room.now s.nodes.now s.held.now s.right.now s.steps.now f
    (first s.run.now s.place.now s.block.now s.table.now s.room.now s.nodes.now s.held.now s.right.now s.steps.now s.whole.now f c.requires.lent)
parts c = enough _ _ _ _ _ _ _ _ _ _ c.requires.flushable c.requires.lent

pub overflow_mul-terms : goal.overflow_mul-terms
overflow_mul-terms c = omega (arith, (parts (goal.at.overflow_mul-terms c).Start).terms-in)

pub slice_bounds-settle-end : goal.slice_bounds-settle-end
slice_bounds-settle-end c = (parts (goal.at.slice_bounds-settle-end c).Start).terms-in

pub slice_bounds-settle-end-2 : goal.slice_bounds-settle-end-2
slice_bounds-settle-end-2 c = sym (length-take-le _ _ (parts (goal.at.slice_bounds-settle-end-2 c).Start).terms-in)

pub settle-r-requires : goal.settle-r-requires
settle-r-requires c = record { fitted = fitted _ _ _ _ _ _ _ _ _ _ c.requires.flushable c.requires.lent; exact = c.requires.flushable.exact }

pub returns : goal.returns
returns c = record { keeps = c.settle-r.ensures; leaves = c.leave.ensures }

-- `flush::flush` meets its contract: written again in the parts that the block needs, settled, and the wires leave.
use Rattle.std.proofs.Common.{sym, arith}
use lib.Seq.{length-take-le}
use Rattle.rules.proofs.Reading.{gates-length}
use Rattle.flush.proofs.Cutting.{Enough, enough, fitted}
use Rattle.flush.proofs.flush.Goals as goal
use Rattle.flush.proofs.flush.Goals.{Start}

parts : (c : Start) → let s = c.args in Enough s.run.now s.place.now s.block.now s.table.now s.room.now s.nodes.now s.held.now s.right.now s.steps.now c.requires.flushable c.requires.lent
parts c = enough _ _ _ _ _ _ _ _ _ c.requires.flushable c.requires.lent

pub overflow_mul-terms : goal.overflow_mul-terms
overflow_mul-terms c = omega (arith, (parts (goal.at.overflow_mul-terms c).Start).terms-in)

pub slice_bounds-attempt-end : goal.slice_bounds-attempt-end
slice_bounds-attempt-end c = (parts (goal.at.slice_bounds-attempt-end c).Start).terms-in

pub slice_bounds-attempt-end-2 : goal.slice_bounds-attempt-end-2
slice_bounds-attempt-end-2 c = sym (length-take-le _ _ (parts (goal.at.slice_bounds-attempt-end-2 c).Start).terms-in)

pub slice_bounds-attempt-end-9 : goal.slice_bounds-attempt-end-9
slice_bounds-attempt-end-9 c = rw (← gates-length c.args.run.now) (parts (goal.at.slice_bounds-attempt-end-9 c).Start).steps-in

pub slice_bounds-attempt-end-10 : goal.slice_bounds-attempt-end-10
slice_bounds-attempt-end-10 c = rw (← gates-length c.args.run.now) (sym (length-take-le _ _ (parts (goal.at.slice_bounds-attempt-end-10 c).Start).steps-in))

pub attempt-p-requires : goal.attempt-p-requires
attempt-p-requires c = rw (← gates-length c.args.run.now) (fitted _ _ _ _ _ _ _ _ _ c.requires.flushable c.requires.lent)

-- `flush::copy` meets its contract. The loop's invariant: the first i numbers are the run's. The measure is the numbers left.
use mathlib.Core.Path.{refl, ◌∙◌}
use native.Mathlib.Omega.{arith}
use borrow.Author.Rules.{rules}
use mir.Syntax.{w32}
use mir.ValLaws.{to_z-of_z}
use lib.IntN.{pos}
use lib.ListN.{get_or, length-set}
use Rattle.flush.proofs.Keeping.{copy-next, copy-end}
use Rattle.flush.proofs.copy.Goals as goal

pub loop-i-init : goal.loop-i-init
loop-i-init c = (c.requires, omega arith, refl)

pub offset_bounds-run-i : goal.offset_bounds-run-i
offset_bounds-run-i c = omega arith

pub bounds-run-i : goal.bounds-run-i
bounds-run-i c = omega arith

pub offset_bounds-place-i : goal.offset_bounds-place-i
offset_bounds-place-i c = omega arith

pub bounds-place-i : goal.bounds-place-i
bounds-place-i c = omega arith

pub overflow_step-i : goal.overflow_step-i
overflow_step-i c = omega arith

pub loop-i-smaller : goal.loop-i-smaller
loop-i-smaller c = omega arith

pub loop-i-preserved : goal.loop-i-preserved
loop-i-preserved c = let l = c.loop-i in let run = c.args.run.now in
    let e = to_z-of_z w32 (get_or run l.i (pos 0)) (record { sfits = c.place-1.given }) in
    rw e (length-set l.place l.i (get_or run l.i (pos 0)) ∙ l.invariant.0, omega arith, copy-next run l.place l.i (pos 0) (omega arith) l.invariant.0 l.invariant.2)

pub shape_of-place : goal.shape_of-place
shape_of-place c = search rules

pub returns : goal.returns
returns c = let l = c.loop-i in copy-end c.args.run.now l.place l.i (omega arith) l.invariant.0 l.invariant.2

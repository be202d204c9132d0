-- `plain_close::diagonal` meets its contract: each way out by what was tested on the way.
use Rattle.std.proofs.Common.{sym, ap, ◌∙◌, arith}
use Rattle.std.proofs.Math.Option.{some}
use Rattle.closing.proofs.Columns.{diagonal-here, diagonal-nowhere, diagonal-donor, donor-inside}
use Rattle.plain_close.proofs.diagonal.Goals as goal

pub returns-then-has : goal.returns-then-has
returns-then-has c = let s = c.args in (diagonal-here s.m.now s.steps.now s.k s.column c.if-has.ensures, omega arith)

pub returns-in_err-donor : goal.returns-in_err-donor
returns-in_err-donor c = let s = c.args in rw c.from_residual.ensures (diagonal-nowhere s.m.now s.steps.now s.k s.column c.if-has.ensures c.in_err-donor.ensures)

pub add_noted-requires : goal.add_noted-requires
add_noted-requires c = let p = c.requires in (omega (arith, p.long), p.few, donor-inside _ _ _ p.inside c.in_ok-donor.ensures, p.inside)

pub returns : goal.returns
returns c =
    let s = c.args in
    (diagonal-donor s.m.now s.steps.now s.k s.column c.if-has.ensures c.in_ok-donor.donor c.in_ok-donor.ensures ∙ ap some (sym c.add_noted.ensures.is), omega arith)

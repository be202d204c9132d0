-- `closing::diagonal` meets its contract: each way out by what was tested on the way.
use Rattle.std.proofs.Common.{refl, ap, sym, ◌∙◌, ◌+◌, ◌*◌, arith}
use Rattle.std.proofs.Math.Option.{some}
use Rattle.closing.proofs.Columns.{diagonal-here, diagonal-nowhere, diagonal-donor, donor-inside, lost-give}
use Rattle.closing.proofs.diagonal.Goals as goal

pub returns-then-has : goal.returns-then-has
returns-then-has c = let s = c.args in record { answer = (diagonal-here s.m.now s.steps.now s.k s.column c.if-has.ensures, omega arith); beyond = refl }

pub returns-in_err-donor : goal.returns-in_err-donor
returns-in_err-donor c =
    let s = c.args in
    rw c.from_residual.ensures (record { answer = rw (diagonal-nowhere s.m.now s.steps.now s.k s.column c.if-has.ensures c.in_err-donor.ensures) tt; beyond = refl })

pub returns-then-k-limit : goal.returns-then-k-limit
returns-then-k-limit c =
    let s = c.args in
    let e = diagonal-donor s.m.now s.steps.now s.k s.column c.if-has.ensures c.in_ok-donor.donor c.in_ok-donor.ensures in
    record { answer = lost-give s.m.now s.steps.now s.k (omega arith) _ _ _ _ e c.if-k-limit.true; beyond = refl }

pub add_noted-requires : goal.add_noted-requires
add_noted-requires c = (omega arith, c.requires.1.0, donor-inside _ _ _ c.requires.0 c.in_ok-donor.ensures, c.requires.0)

pub returns : goal.returns
returns c =
    let s = c.args in
    let e = diagonal-donor s.m.now s.steps.now s.k s.column c.if-has.ensures c.in_ok-donor.donor c.in_ok-donor.ensures in
    record { answer = (e ∙ ap some (sym c.add_noted.ensures.is), omega arith); beyond = c.add_noted.ensures.beyond (2 * (s.limit + 1)) (omega arith) }

-- `flush::mark` meets its contract: what was made gets its line, and what was stopped is left as it is.
use Rattle.std.proofs.Common.{Ok, Err, refl}
use Rattle.rules.specs.Numbers.{gates_of}
use Rattle.flush.proofs.Keeping.{lined-made, lined-stopped}
use Rattle.flush.proofs.mark.Goals as goal

pub returns-in-Ok : goal.returns-in-Ok
returns-in-Ok c write t =
    let a = c.args in
    let b = c.in-Ok.b in
    rw (c.stamp.ensures, c.line.ensures.0, c.in-Ok.is) (lined-made write (gates_of a.run.now) a.place.now (Ok b) refl (rw c.in-Ok.is at t))

pub returns-in_default : goal.returns-in_default
returns-in_default c write t =
    let a = c.args in
    rw c.in_default.is (lined-stopped write (gates_of a.run.now) a.place.now (Err c.in_default.field-0) refl (rw c.in_default.is at t))

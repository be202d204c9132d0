-- `say` of `shorten::Minimize` meets its contract: what the pass makes of the list is printed.
use Prim.Native.Nat.{◌*◌}
use native.Mathlib.Omega.{arith}
use lib.ListN.{length, take}
use lib.Seq.{length-take-le}
use Rattle.rules.specs.Limits.{width}
use Rattle.saying.proofs.Saying.{says-printed}
use Rattle.saying.proofs.Checking.{exact-fits}
use Rattle.qasm.specs.Clauses.{qasm_size}
use Rattle.shorten.proofs.Keeping.{shown}
use Rattle.shorten.proofs.MinimizeProgram.say.Goals as goal

pub write_qasm-requires : goal.write_qasm-requires
write_qasm-requires c =
    let a = exact-fits _ _ c.requires.right in
    let done = c.in-Ok.ensures.made in
    let size = length-take-le (width * c.in-Ok.c.gatesout) c.minimize.new.new done.fits in
    record { wires-fit = omega (arith, a.wires); bits_fit = omega (arith, a.bits); fits = omega (arith, size, done.small.gatesout, c.requires.fits) }

pub returns-in-Ok : goal.returns-in-Ok
returns-in-Ok c =
    let done = c.in-Ok.ensures.made in
    let new = take (width * c.in-Ok.c.gatesout) c.minimize.new.new in
    let size = length-take-le (width * c.in-Ok.c.gatesout) c.minimize.new.new done.fits in
    rw (shown _ _ _ _ done) (says-printed _ (qasm_size (length new)) _ _ _ _ (omega (arith, size, done.small.gatesout, c.requires.fits)) c.write_qasm.ensures)

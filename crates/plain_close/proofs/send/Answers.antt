-- `plain_close::send` meets its contract: all additions are noted, and they are written in reverse; or there is no map.
use Rattle.std.proofs.Common.{arith}
use Rattle.rows.specs.Rows.{rows_of}
use Rattle.closing.specs.Emission.{backwards}
use Rattle.closing.proofs.Sending.{closing-made, made-sent}
use Rattle.plain_close.proofs.Noting.{reversed-none}
use Rattle.plain_close.proofs.send.Goals as goal

pub returns-in_err-n : goal.returns-in_err-n
returns-in_err-n c = rw c.from_residual.ensures (reversed-none (rows_of c.args.m.now) c.in_err-n.ensures)

pub write_steps-requires : goal.write_steps-requires
write_steps-requires c =
    let p = c.requires.sendable in
    let m = c.in_ok-n.ensures in
    record { sent = made-sent p.from p.to (rows_of c.args.m.now) p.square p.closes _ _ _ _ m (omega (arith, m.few, p.steps)) (omega (arith, p.named, p.sized)) p.wired; fits = omega (arith, c.requires.fits, m.few) }

pub returns : goal.returns
returns c =
    let p = c.requires.sendable in
    record { steps = backwards c.reduce.new.steps c.in_ok-n.n; is = closing-made p.from p.to (rows_of c.args.m.now) p.square p.closes _ _ _ c.in_ok-n.ensures; wrote = c.write_steps.ensures }

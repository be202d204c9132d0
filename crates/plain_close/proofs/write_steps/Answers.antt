-- `plain_close::write_steps` meets its contract.
use Rattle.std.proofs.Common.{arith}
use Rattle.closing.proofs.Sending.{sent-none, sent-next}
use Rattle.writing.proofs.Following.{wrote_none, wrote_then}
use Rattle.plain_close.proofs.write_steps.Goals as goal

pub loop-i-init : goal.loop-i-init
loop-i-init c = record { count = omega arith; wrote = rw (sent-none c.args.names.now c.args.steps.now c.args.n c.requires.sent.fits) (wrote_none _ _) }

pub loop-i-preserved : goal.loop-i-preserved
loop-i-preserved c =
    let a = c.args in
    let l = c.loop-i in
    let r = c.write_cnot-to in
    record {
      count = omega (arith, r.ensures.count, l.invariant.count);
      wrote = rw (sent-next a.names.now a.steps.now a.n c.requires.sent.fits l.i (omega arith) l.auto.i) (wrote_then l.invariant.wrote (rw (c.wires_of.ensures.0, c.wires_of.ensures.1) at r.ensures));
    }

-- `closing::emit_steps` meets its contract.
use Rattle.std.proofs.Common.{refl, arith}
use Rattle.std.proofs.lemmas.Result.{err_from_is_err_and}
use Rattle.emit.proofs.Appending.{emits_none}
use Rattle.closing.proofs.Sending.{sent-none, sent-more, sent-stop}
use Rattle.closing.proofs.emit_steps.Goals as goal

pub loop-i-init : goal.loop-i-init
loop-i-init c = rw (sent-none c.args.names.now c.args.steps.now c.args.k c.requires.sent.fits) (emits_none _ _ c.requires.ready)

pub returns-in_err-spent : goal.returns-in_err-spent
returns-in_err-spent c =
    let p = err_from_is_err_and c.from_residual.result c.from_residual.ensures.1 in
    rw (p.1, p.2) (sent-stop c.args.names.now c.args.steps.now c.args.k c.requires.sent.fits c.loop-i.i (omega arith) c.loop-i.auto.i c.loop-i.invariant (rw (c.wires_of.ensures.0, c.wires_of.ensures.1) at c.in_err-spent.ensures) refl)

pub loop-i-preserved : goal.loop-i-preserved
loop-i-preserved c =
    sent-more c.args.names.now c.args.steps.now c.args.k c.requires.sent.fits c.loop-i.i (omega arith) c.loop-i.auto.i c.loop-i.invariant (rw (c.wires_of.ensures.0, c.wires_of.ensures.1) at c.in_ok-spent.ensures)

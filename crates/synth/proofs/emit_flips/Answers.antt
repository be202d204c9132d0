-- `synth::emit_flips` meets its contract.
use Rattle.std.proofs.Common.{refl, arith}
use Rattle.std.proofs.lemmas.Result.{err_from_is_err_and}
use Rattle.parity.specs.View.{val}
use Rattle.emit.proofs.Appending.{emits_none}
use Rattle.synth.proofs.Flipping.{flips-none, flips-more, flips-stop}
use Rattle.synth.proofs.emit_flips.Goals as goal

pub loop-i-init : goal.loop-i-init
loop-i-init c = rw (flips-none c.args.names.now (val c.args.flips) 0) (emits_none _ _ c.requires.ready)

pub returns-in_err-spent : goal.returns-in_err-spent
returns-in_err-spent c =
    let p = err_from_is_err_and c.from_residual.result c.from_residual.ensures.1 in
    rw (p.1, p.2) (flips-stop c.args.names.now (val c.args.flips) c.loop-i.i c.loop-i.invariant (rw (c.has-on.ensures, c.wire_of-q.ensures) at c.in_err-spent.ensures) c.args.n (omega arith) refl)

pub loop-i-preserved : goal.loop-i-preserved
loop-i-preserved c = flips-more c.args.names.now (val c.args.flips) c.loop-i.i c.loop-i.invariant (rw (c.has-on.ensures, c.wire_of-q.ensures) at c.in_ok-spent.ensures)

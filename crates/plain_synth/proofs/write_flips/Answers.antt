-- `plain_synth::write_flips` meets its contract.
use Rattle.std.proofs.Common.{get_or, arith}
use Rattle.rules.specs.Bit.{bit}
use Rattle.parity.specs.View.{val}
use Rattle.writing.proofs.Following.{wrote_none, wrote_then}
use Rattle.synth.proofs.Flipping.{flips-none, flips-next}
use Rattle.plain_synth.proofs.Parts.{flip-few}
use Rattle.plain_synth.proofs.write_flips.Goals as goal

pub loop-i-init : goal.loop-i-init
loop-i-init c = record { few = omega arith; wrote = rw (flips-none c.args.names.now (val c.args.flips) 0) (wrote_none _ _) }

pub loop-i-preserved : goal.loop-i-preserved
loop-i-preserved c =
    let s = c.args in
    let l = c.loop-i in
    let one = rw (c.has-on.ensures, c.wire_of-q.ensures) at c.write_flip-to.ensures in
    record {
      few = omega (arith, l.invariant.few, one.count, flip-few (bit (val s.flips) l.i) (get_or s.names.now l.i 0));
      wrote = rw (flips-next s.names.now (val s.flips) l.i) (wrote_then l.invariant.wrote one);
    }

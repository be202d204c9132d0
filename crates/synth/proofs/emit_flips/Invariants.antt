-- `synth::emit_flips` meets its contract. The loop's invariant: the flips of the first i indices are emitted.
use Rattle.std.proofs.Common.{true}
use Rattle.parity.specs.View.{val}
use Rattle.budget.specs.View.{view}
use Rattle.emit.specs.Emitted.{Emits}
use Rattle.synth.specs.Flips.{flips_from}
use Rattle.synth.proofs.emit_flips.Given as goal

abbrev pub invariant-loop-i : goal.invariant-loop-i
invariant-loop-i l = Emits (flips_from l.names (val l.flips) l.i 0) l.initial.out (view l.initial.spent) l.out (view l.spent) true

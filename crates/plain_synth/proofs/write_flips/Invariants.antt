-- `plain_synth::write_flips` meets its contract. The loop's invariant: the flips of the first i indices are written.
use Rattle.std.proofs.Common.{◌+◌, ◌≤◌}
use Rattle.parity.specs.View.{val}
use Rattle.writing.specs.Written.{Wrote}
use Rattle.synth.specs.Flips.{flips_from}
use Rattle.plain_synth.proofs.write_flips.Given as goal

abbrev pub invariant-loop-i : goal.invariant-loop-i
invariant-loop-i l = record { few : l.to ≤ l.k + l.i; wrote : Wrote (flips_from l.names (val l.flips) l.i 0) l.initial.whole l.k l.whole l.to }

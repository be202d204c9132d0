-- `closing::emit_steps` meets its contract. The loop's invariant: the entries from i on are emitted, the last first.
use Rattle.std.proofs.Common.{true}
use Rattle.budget.specs.View.{view}
use Rattle.emit.specs.Emitted.{Emits}
use Rattle.closing.proofs.Sending.{sent}
use Rattle.closing.proofs.emit_steps.Given as goal

abbrev pub invariant-loop-i : goal.invariant-loop-i
invariant-loop-i l = Emits (sent l.names l.steps l.k l.i) l.initial.out (view l.initial.spent) l.out (view l.spent) true

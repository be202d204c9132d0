-- `plain_close::write_steps` meets its contract. The loop's invariant: the entries from i on are written, the last first.
use Rattle.std.proofs.Common.{◌≡◌, ◌+◌, ◌-◌}
use Rattle.closing.proofs.Sending.{sent}
use Rattle.writing.specs.Written.{Wrote}
use Rattle.plain_close.proofs.write_steps.Given as goal

abbrev pub invariant-loop-i : goal.invariant-loop-i
invariant-loop-i l = record { count : l.to ≡ l.k + (l.n - l.i); wrote : Wrote (sent l.names l.steps l.n l.i) l.initial.whole l.k l.whole l.to }

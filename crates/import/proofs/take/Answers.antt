-- `import::take` meets its contract: too long, not read, too much, or read.
use native.Mathlib.Omega.{arith}
use Rattle.import.proofs.Taking.{long, declined, held}
use Rattle.import.proofs.take.Goals as goal

pub returns-then-text-gt-LIST_BYTES : goal.returns-then-text-gt-LIST_BYTES
returns-then-text-gt-LIST_BYTES c = long _ c.if-text-gt-LIST_BYTES.true

pub returns-in-Ok : goal.returns-in-Ok
returns-in-Ok c = held _ _ _ (c.in-Ok.wires, c.in-Ok.bits, c.in-Ok.n) (omega arith) c.in-Ok.ensures

pub returns-in-Err : goal.returns-in-Err
returns-in-Err c = rw c.reason_of.ensures (declined _ c.read_qasm.new.numbers c.in-Err.w (omega arith) c.in-Err.ensures.answer)

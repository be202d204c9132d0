-- `parity::Parity::single` meets its contract.
use native.Mathlib.Omega.{arith}
use Rattle.parity.proofs.Words.{high-single}
use Rattle.parity.proofs.Parity.single.Goals as goal

pub returns-else-column-lt64 : goal.returns-else-column-lt64
returns-else-column-lt64 c = high-single 64 64 c.args.column (omega arith) (omega arith)

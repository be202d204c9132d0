-- `parity::Parity::all` meets its contract.
use native.Mathlib.Omega.{arith}
use Rattle.parity.proofs.Words.{high-all}
use Rattle.parity.proofs.Parity.all.Goals as goal

pub returns-then-n-lt128 : goal.returns-then-n-lt128
returns-then-n-lt128 c = high-all 64 64 c.args.n (omega arith) (omega arith)

-- `compare::act` meets its contract: by the code.
use Rattle.std.proofs.Common.{arith}
use Rattle.parity.specs.View.{val}
use Rattle.rows.specs.Rows.{rows_of}
use Rattle.compare.proofs.Acting.{act-x, act-cnot, act-none}
use Rattle.compare.proofs.act.Goals as goal

pub returns-in-1 : goal.returns-in-1
returns-in-1 c = act-x c.args.g (rows_of c.args.rows.now) (val c.args.flips) (val c.bitxor.result) c.in-1.is cc

pub returns-in-8 : goal.returns-in-8
returns-in-8 c = act-cnot c.args.g (rows_of c.args.rows.now) (val c.args.flips) _ (val c.bitxor-in-8.result) c.in-8.is c.add.ensures cc

pub returns-in_default : goal.returns-in_default
returns-in_default c = act-none c.args.g (rows_of c.args.rows.now) (val c.args.flips) c.requires.least c.requires.most (λ e. omega arith) (λ e. omega arith)

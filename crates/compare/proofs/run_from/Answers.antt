-- `compare::run_from` meets its contract.
use Rattle.std.proofs.Common.{◌∙◌, refl, length, arith}
use Rattle.rules.specs.Meaning.{op}
use Rattle.rules.specs.Numbers.{gate_at}
use Rattle.gate.specs.Writing.{gate_of}
use Rattle.rows.specs.Rows.{rows_of}
use Rattle.block.proofs.Codes.{op-read}
use Rattle.compare.proofs.Telling.{rows-length}
use Rattle.compare.proofs.Running.{left-next, left_end, ready}
use Rattle.compare.proofs.run_from.Goals as goal

pub step-flips-requires-clause-ready : goal.step-flips-requires-clause-ready
step-flips-requires-clause-ready c =
    let l = c.loop-k in
    ready c.args.list.now (length (rows_of c.args.rows.now)) l.k c.read.result l.rows c.requires.fine (omega arith) c.read.ensures
    (rows-length c.args.rows.now l.rows l.invariant.size) c.requires.few

pub loop-k-preserved : goal.loop-k-preserved
loop-k-preserved c =
    let l = c.loop-k in
    let g = c.read.result in
    record {
      size = c.step-flips.auto.rows ∙ l.invariant.size;
      left = left-next c.args.list.now _ c.args.i c.args.back _ _ l.k (op (gate_of g)) _ _ _ _ (omega arith) (op-read (gate_at c.args.list.now l.k) g c.read.ensures) c.step-flips.ensures l.invariant.left;
    }

pub returns : goal.returns
returns c = left_end _ _ _ _ _ _ _ _ _ (omega arith) refl c.loop-k.invariant.left

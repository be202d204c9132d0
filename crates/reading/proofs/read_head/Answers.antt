-- `reading::read_head` meets its contract: a line for each number, and the first.
use Rattle.std.proofs.Common.{refl}
use Rattle.spelling.specs.Reading.{head_at}
use Rattle.reading.proofs.Heads.{ahead}
use Rattle.reading.proofs.read_head.Goals as goal

pub returns-clause-lines : goal.returns-clause-lines
unfolding head_at
returns-clause-lines c =
    let n = rw c.in_ok-n.ensures.ok_part at c.read_first.ensures in
    let wires = rw c.in_ok-wires.ensures.ok_part at c.read_line.ensures in
    let bits = rw c.in_ok-bits.ensures.ok_part at c.read_line-2.ensures in
    let qubits = rw c.in_ok-qubits.ensures.ok_part at c.read_line-3.ensures in
    let terms = rw c.in_ok-terms.ensures.ok_part at c.read_line-4.ensures in
    let form = rw c.in_ok-form.ensures.ok_part at c.read_form.ensures in
    rw (n, wires, bits, qubits, terms, form.1, ← form.2, ahead c.args.line c.in_ok-n.n c.args.text.now c.in_ok-n.rest.now n) refl

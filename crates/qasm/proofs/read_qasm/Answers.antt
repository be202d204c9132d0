-- `qasm::read_qasm` meets its contract: the lines before the gates, the gates' lines, then 12 and 3.
use mathlib.Core.Path.{ap}
use native.Mathlib.Omega.{arith}
use lib.ListN.{length, length-append}
use Rattle.std.proofs.lemmas.Result.{err_from_is_err_and}
use Rattle.qasm.specs.Export.{opening_text}
use Rattle.qasm.proofs.Openings.{opening-read}
use Rattle.qasm.proofs.Keeping.{wrong-opening, wrong-line, too-many, too-large, all_lines}
use Rattle.qasm.proofs.read_qasm.Goals as goal

pub returns-in_err-o : goal.returns-in_err-o
returns-in_err-o c =
    let is = err_from_is_err_and c.from_residual.result c.from_residual.ensures.1 in
    rw (is.1, is.2) (wrong-opening _ _ _ _ c.in_err-o.ensures.lines)

pub read_body-requires-clause-line_bound : goal.read_body-requires-clause-line_bound
read_body-requires-clause-line_bound c =
    let o = c.in_ok-o.o in
    let opens = opening-read (record { wires = o.wires; bits = o.bits }) c.args.text.now o.line o.rest.now c.in_ok-o.ensures.lines in
    (c.in_ok-o.ensures.few, omega (arith, c.requires.text_len_bound, ap length opens.text, length-append (opening_text o.wires o.bits) o.rest.now))

pub returns-in_err-count : goal.returns-in_err-count
returns-in_err-count c =
    let is = err_from_is_err_and c.from_residual-in_err-count.result c.from_residual-in_err-count.ensures.1 in
    rw (is.1, is.2) (wrong-line _ _ _ c.in_ok-o.o c.in_ok-o.ensures.lines _ _ c.in_err-count.ensures)

pub returns-then-most-count : goal.returns-then-most-count
returns-then-most-count c = too-many _ _ _ c.in_ok-o.o c.in_ok-o.ensures.lines _ _ c.in_ok-count.ensures c.if-most-count.true

pub returns-then-wires-bits : goal.returns-then-wires-bits
returns-then-wires-bits c = too-large _ _ _ c.in_ok-o.o c.in_ok-o.ensures.lines _ _ c.in_ok-count.ensures c.if-most-count.false c.if-wires-bits.true

pub returns : goal.returns
returns c = all_lines _ _ _ c.in_ok-o.o c.in_ok-o.ensures.lines _ _ c.in_ok-count.ensures c.if-most-count.false c.if-wires-bits.false

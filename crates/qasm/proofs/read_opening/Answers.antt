-- `qasm::read_opening` meets its contract.
use mathlib.Core.Path.{refl}
use Rattle.std.proofs.lemmas.Result.{err_from_is_err_and}
use Rattle.qasm.specs.Import.{opening}
use Rattle.qasm.specs.declared.Wrong.TheVariants.{Line}
use Rattle.qasm.proofs.Fronts.{err_or, opened-as}
use Rattle.qasm.proofs.read_opening.Goals as goal

pub returns-in_err-rest-clause-lines : goal.returns-in_err-rest-clause-lines
unfolding opening
returns-in_err-rest-clause-lines c =
    let is = err_from_is_err_and c.from_residual.result c.from_residual.ensures.1 in
    let line = err_or c.read_word.result (Line 1) c.in_err-rest.field-0.0 c.in_err-rest.ensures.ok_part c.in_err-rest.ensures.value in
    let version = rw c.in_err-rest.ensures.ok_part at c.read_word.ensures in
    rw (is.1, is.2, line) (rw version refl)

pub returns-in_err-rest-2-clause-lines : goal.returns-in_err-rest-2-clause-lines
unfolding opening
returns-in_err-rest-2-clause-lines c =
    let is = err_from_is_err_and c.from_residual-in_err-rest-2.result c.from_residual-in_err-rest-2.ensures.1 in
    let line = err_or c.read_word-2.result (Line 2) c.in_err-rest-2.field-0.0 c.in_err-rest-2.ensures.ok_part c.in_err-rest-2.ensures.value in
    let version = rw c.in_ok-rest.ensures.ok_part at c.read_word.ensures in
    let include = rw c.in_err-rest-2.ensures.ok_part at c.read_word-2.ensures in
    rw (is.1, is.2, line) (rw (version, include) refl)

pub returns-clause-lines : goal.returns-clause-lines
returns-clause-lines c =
    let version = rw c.in_ok-rest.ensures.ok_part at c.read_word.ensures in
    let include = rw c.in_ok-rest-2.ensures.ok_part at c.read_word-2.ensures in
    opened-as c.args.text.now c.in_ok-rest.rest c.in_ok-rest-2.rest c.read_register.result c.read_register-2.result c.unwrap_or-wires.result c.unwrap_or-bits.result version include c.read_register.ensures c.unwrap_or-wires.ensures
    c.read_register-2.ensures c.unwrap_or-bits.ensures

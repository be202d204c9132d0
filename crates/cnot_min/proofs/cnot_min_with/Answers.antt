-- `cnot_min::cnot_min_with` meets its contract: refused as the check says, with nothing written, or minimized.
use mathlib.Core.Path.{refl, sym}
use Rattle.std.proofs.lemmas.Result.{err_from_is_err_and}
use Rattle.cnot_min.proofs.Rooms.{lent}
use Rattle.cnot_min.proofs.Promising.{minimizes, refuses}
use Rattle.cnot_min.proofs.cnot_min_with.Goals as goal

pub minimize-counts-requires : goal.minimize-counts-requires
minimize-counts-requires c =
    let a = c.args in
    lent a.list.now a.wires a.bits _ _ _ (sym c.in_ok-check_list.ensures)

pub returns-in_err-check_list : goal.returns-in_err-check_list
returns-in_err-check_list c =
    let a = c.args in
    let p = err_from_is_err_and c.from_residual.result c.from_residual.ensures.1 in
    rw (p.1, p.2) (refuses a.list.now a.wires a.bits a.qubit_cap a.term_cap a.out.now a.terms.now a.steps.now _ _ refl (sym c.in_err-check_list.ensures))

pub returns : goal.returns
returns c =
    let a = c.args in
    minimizes a.list.now a.wires a.bits a.qubit_cap a.term_cap a.out.now a.terms.now a.steps.now _ _ _ _ (sym c.in_ok-check_list.ensures) c.minimize-counts.ensures

-- `emit::emit_gate` meets its contract: one of the two laws of one gate, by whether the budget was still within.
use Rattle.std.proofs.Common.{sym}
use Rattle.std.proofs.lemmas.Result.{err_from_is_err_and}
use Rattle.emit.proofs.Appending.{emits-counted, emits-spent}
use Rattle.emit.proofs.emit_gate.Goals as goal

pub returns-in_err-next : goal.returns-in_err-next
returns-in_err-next c =
    let p = err_from_is_err_and c.from_residual.result c.from_residual.ensures.1 in
    rw (p.1, p.2) (emits-spent _ _ _ c.requires.ready (sym c.is_two.ensures) c.in_err-next.ensures)

pub returns : goal.returns
returns c = rw c.write.ensures (emits-counted _ _ _ c.requires.ready (sym c.is_two.ensures) c.in_ok-next.ensures)

-- `export::check` meets its contract: refused as the list is, by its first gate that isn't spelled, or not.
use mathlib.Core.Path.{sym, ◌∙◌}
use native.Mathlib.Omega.{arith}
use Rattle.std.proofs.lemmas.Result.{err_from_is_err_and}
use Rattle.saying.proofs.Checking.{exact-is}
use Rattle.export.proofs.Answering.{refused-list, unspelled-list, spelled-list}
use Rattle.export.proofs.check.Goals as goal

pub returns-in_err-check_list : goal.returns-in_err-check_list
returns-in_err-check_list c =
    let is = err_from_is_err_and c.from_residual.result c.from_residual.ensures.1 in
    rw (is.1, is.2) (refused-list _ _ c.requires c.in_err-check_list.field-0.0 (exact-is _ _ ∙ sym c.in_err-check_list.ensures))

pub returns-in-Some : goal.returns-in-Some
returns-in-Some c = let u = c.in-Some.ensures in rw u.index (unspelled-list _ _ c.requires (exact-is _ _ ∙ sym c.in_ok-check_list.ensures) (omega (arith, u.index, u.inside)))

pub returns-in-None : goal.returns-in-None
returns-in-None c = spelled-list _ _ c.requires (exact-is _ _ ∙ sym c.in_ok-check_list.ensures) (omega (arith, c.in-None.ensures.index))

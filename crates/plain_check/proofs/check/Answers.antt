-- `plain_check::check` meets its contract.
use mathlib.Core.Path.{sym, ap, ◌∙◌}
use Rattle.std.proofs.lemmas.Result.{err_from_is_err_and}
use Rattle.rules.specs.Refusal.{Fault, accepted, ruled}
use Rattle.gate.proofs.First.{ruled-ok, ruled-err}
use Rattle.plain_check.specs.Refusing.{plain_verdict}
use Rattle.plain_check.proofs.Taking.{whole-told}
use Rattle.plain_check.proofs.check.Goals as goal

pub returns-in_err-check_whole : goal.returns-in_err-check_whole
unfolding plain_verdict
returns-in_err-check_whole c =
    let p = err_from_is_err_and c.from_residual.result c.from_residual.ensures.1 in
    rw (p.1, p.2) (ruled-err _ 0 _ _ (c.in_err-check_whole.ensures ∙ ap (λ (f : Fault). ruled f 0 accepted) (sym (whole-told _ _ _ _ _ _))))

pub returns : goal.returns
unfolding plain_verdict
returns c = c.check_gates.ensures ∙ ruled-ok _ 0 _ (c.in_ok-check_whole.ensures ∙ ap (λ (f : Fault). ruled f 0 accepted) (sym (whole-told _ _ _ _ _ _)))

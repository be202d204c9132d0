-- `alike::alike` meets its contract.
use mathlib.Core.Path.{ap, ◌∙◌}
use Rattle.std.proofs.lemmas.Result.{err_from_is_err_and}
use Rattle.alike.specs.Asking.{asked}
use Rattle.alike.specs.Answering.{says, answer}
use Rattle.alike.proofs.Checking.{asked-fine}
use Rattle.alike.proofs.Meaning.{taken-by, answers}
use Rattle.alike.proofs.alike.Goals as goal

pub returns-in_err-check_of : goal.returns-in_err-check_of
unfolding answer
returns-in_err-check_of c =
    let a = c.args in
    let p = err_from_is_err_and c.from_residual.result c.from_residual.ensures.1 in
    rw (p.1, p.2) (answers a.first.now a.second.now a.wires _ (c.in_err-check_of.ensures _))

pub returns-in_err-check_of-2 : goal.returns-in_err-check_of-2
unfolding answer
returns-in_err-check_of-2 c =
    let a = c.args in
    let r = c.from_residual-in_err-check_of-2 in
    let p = err_from_is_err_and r.result r.ensures.1 in
    rw (p.1, p.2) (answers a.first.now a.second.now a.wires _ (c.in_err-check_of-2.ensures _ ∙ c.in_ok-check_of.ensures _))

pub compare-requires : goal.compare-requires
compare-requires c =
    let a = c.args in
    let one = asked-fine a.first.now a.wires (taken-by 1 (asked a.first.now a.wires) (λ rest. c.in_ok-check_of.ensures rest)) in
    let two = asked-fine a.second.now a.wires (taken-by 2 (asked a.second.now a.wires) (λ rest. c.in_ok-check_of-2.ensures rest)) in
    record { fine = one.0; fine_2 = two.0; wires_le_max_columns = one.1 }

pub returns : goal.returns
unfolding answer
returns c =
    let a = c.args in
    answers a.first.now a.second.now a.wires _ (ap says c.compare.ensures ∙ c.in_ok-check_of-2.ensures _ ∙ c.in_ok-check_of.ensures _)

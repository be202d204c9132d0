-- `plain::cnot_min_plain` meets its contract: refused as the check says, with nothing written, or shortened.
use mathlib.Core.Path.{◌≡◌, refl, sym, ap, ◌∙◌}
use Prim.Native.Nat.{ℕ}
use lib.ListN.{length}
use Rattle.std.proofs.lemmas.Result.{err_from_is_err_and}
use Rattle.rules.specs.Limits.{clamp_qubits}
use Rattle.rules.specs.Plan as Rules
use Rattle.rules.specs.Refusal.{Verdict}
use Rattle.cnot_min.proofs.Rooms.{lent}
use Rattle.plain_check.specs.Refusing.{plain_verdict}
use Rattle.plain_check.proofs.Taking.{taken}
use Rattle.plain.proofs.Agreeing.{does, declines}
use Rattle.plain.proofs.cnot_min_plain.Goals as goal

pub minimize-requires-clause-lent : goal.minimize-requires-clause-lent
minimize-requires-clause-lent c =
    let a = c.args in
    lent a.list.now a.wires a.bits _ _ _ (taken a.list.now a.wires a.bits c.of_caps-plan.result.qubits _ _ _ (length a.whole.now) (sym c.in_ok-check.ensures)).first

pub minimize-requires-clause-sized : goal.minimize-requires-clause-sized
minimize-requires-clause-sized c =
    let a = c.args in
    let t = taken a.list.now a.wires a.bits c.of_caps-plan.result.qubits (length a.out.now) (length a.terms.now) (length a.steps.now) (length a.whole.now) (sym c.in_ok-check.ensures) in
    record { few = t.few; narrow = t.narrow; long = t.long }

pub returns-in_err-check : goal.returns-in_err-check
returns-in_err-check c =
    let a = c.args in
    let verdict-at : ℕ → Verdict = λ n. plain_verdict a.list.now a.wires a.bits n (length a.out.now) (length a.terms.now) (length a.steps.now) (length a.whole.now) in
    let capped : verdict-at (clamp_qubits a.qubit_cap) ≡ verdict-at c.of_caps-plan.result.qubits = ap (λ (p : Rules.Plan). verdict-at p.qubits) (sym c.of_caps-plan.ensures) in
    let p = err_from_is_err_and c.from_residual.result c.from_residual.ensures.1 in
    rw (p.1, p.2) (declines a.list.now a.wires a.bits a.qubit_cap a.term_cap a.out.now a.terms.now a.steps.now a.whole.now _ _ refl (capped ∙ sym c.in_err-check.ensures))

pub returns : goal.returns
returns c =
    let a = c.args in
    let verdict-at : ℕ → Verdict = λ n. plain_verdict a.list.now a.wires a.bits n (length a.out.now) (length a.terms.now) (length a.steps.now) (length a.whole.now) in
    let capped : verdict-at (clamp_qubits a.qubit_cap) ≡ verdict-at c.of_caps-plan.result.qubits = ap (λ (p : Rules.Plan). verdict-at p.qubits) (sym c.of_caps-plan.ensures) in
    does a.list.now a.wires a.bits a.qubit_cap a.term_cap a.out.now a.terms.now a.steps.now a.whole.now _ _ _ _ _ (capped ∙ sym c.in_ok-check.ensures)
    (c.minimize.ensures.first a.qubit_cap a.term_cap c.of_caps-plan.ensures) c.minimize.ensures.whole_is

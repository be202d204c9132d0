-- What the plain engine answers to every list's text.
use Rattle.std.specs.Prelude.{List, ℕ, ◌*◌, ◌/◌, ℤ, length}
use Rattle.rules.specs.Limits.{width, term_width, step_width, term_entries, step_entries, clamp_qubits, whole_gates}
use Rattle.rules.specs.Refusal.{Verdict}
use Rattle.spelling.specs.Texts.{Head}
use Rattle.saying.specs.Answer.{Answer, judged_by, answer_by}
use Rattle.list.specs.Answer.{shortened}
use Rattle.plain_check.specs.Refusing.{plain_verdict}

-- a list that was read gets rooms exactly as long as it needs: 3, then 15 for more than 256 gates or a clamped qubit cap above 32, then gate by gate
unfoldable pub plain_exact : Head → List ℤ → Verdict
unfolding plain_verdict
plain_exact h numbers =
    let g = length numbers / width in
    plain_verdict numbers h.wires h.bits (clamp_qubits h.qubits) (length numbers) (term_width * term_entries g) (step_width * step_entries g) (width * whole_gates)

-- 10, then line by line, then 3, 15, then gate by gate; of an accepted list, what the list program prints
unfoldable pub answer : List ℕ → Answer
unfolding answer_by plain_exact shortened
answer text = answer_by (judged_by plain_exact shortened) text

-- What is answered to a laboratory's text that is to be shortened.
use Rattle.std.specs.Prelude.{List, ℕ, ℤ}
use Rattle.rules.specs.Numbers.{gates_of, numbers_of}
use Rattle.rules.specs.Pass.{pass}
use Rattle.spelling.specs.Texts.{Head}
use Rattle.saying.specs.Answer.{Answer, answered}
use Rattle.qasm.specs.Export.{qasm_text}
use Rattle.import.specs.Answer.{answer_by}

-- the same wires and bits, and the gates that the pass makes
unfoldable pub shortened : Head → List ℤ → Answer
unfolding gates_of numbers_of pass qasm_text
shortened h numbers = answered (qasm_text h.wires h.bits (numbers_of (pass h.qubits h.terms (gates_of numbers)).gates))

-- refused as import refuses
unfoldable pub answer : List ℕ → Answer
unfolding answer_by shortened
answer text = answer_by shortened text

-- What export answers to every text.
use Rattle.std.specs.Prelude.{List, [], ◌∷◌, ℕ, ◌/◌, ltb, ℤ, length}
use Rattle.rules.specs.Limits.{width}
use Rattle.rules.specs.Refusal.{first_number}
use Rattle.spelling.specs.Texts.{Head}
use Rattle.saying.specs.Answer.{Answer, answered, refusal, checked, answer_by}
use Rattle.qasm.specs.Export.{qasm_text, unspelled}

-- an accepted list. 13: the first gate that the laboratories' text doesn't spell, by its index; else that text
unfoldable pub translated : Head → List ℤ → Answer
unfolding unspelled qasm_text
translated h numbers =
    let first = unspelled numbers in
    first_number ((ltb first (length numbers / width), refusal 13 first 0) ∷ []) (answered (qasm_text h.wires h.bits numbers))

-- the list is checked as the list program does: 10, then line by line, then 3, then gate by gate; then 13
unfoldable pub answer : List ℕ → Answer
unfolding answer_by translated
answer text = answer_by (checked translated) text

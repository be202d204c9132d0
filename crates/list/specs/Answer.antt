-- What the list program answers to every text.
use Rattle.std.specs.Prelude.{List, [], ◌∷◌, ℕ, ℤ}
use Rattle.rules.specs.Numbers.{gates_of, numbers_of}
use Rattle.rules.specs.Pass.{Counts, pass, counts}
use Rattle.spelling.specs.Texts.{Head, result_text}
use Rattle.saying.specs.Answer.{Answer, answered, checked, answer_by}

-- the eight counts, in their order
abbrev pub count_numbers : Counts → List ℕ
count_numbers c = c.gates_in ∷ c.gates_out ∷ c.twos_in ∷ c.twos_out ∷ c.t_in ∷ c.t_out ∷ c.blocks ∷ c.replaced ∷ []

-- an accepted list: the head as read, the new gates, and the counts
unfoldable pub shortened : Head → List ℤ → Answer
unfolding gates_of numbers_of pass counts result_text
shortened h numbers =
    let gs = gates_of numbers in
    let new = pass h.qubits h.terms gs in
    answered (result_text h (numbers_of new.gates) (count_numbers (counts gs new)))

-- 10, then line by line, then 3, then gate by gate
unfoldable pub answer : List ℕ → Answer
unfolding answer_by shortened
answer text = answer_by (checked shortened) text

-- What is answered to a laboratory's text whose gates are to be traced.
use Rattle.std.specs.Prelude.{List, ℕ, ℤ}
use Rattle.rules.specs.Numbers.{gates_of}
use Rattle.rules.specs.Plan.{plan_of}
use Rattle.rules.specs.Scan.{pieces_of}
use Rattle.rules.specs.Pass.{writer_of}
use Rattle.spelling.specs.Texts.{Head}
use Rattle.saying.specs.Answer.{Answer, answered}
use Rattle.import.specs.Answer.{answer_by}
use Rattle.origin.specs.Origins.{origins, origins_text}

-- of the gates that the pass makes of the list, each with its origin: the pieces are those that the pass cuts the list into
unfoldable pub traced : Head → List ℤ → Answer
unfolding gates_of pieces_of writer_of origins origins_text
traced h numbers =
    let p = plan_of h.qubits h.terms in
    answered (origins_text (origins (writer_of p) (pieces_of p (gates_of numbers))))

-- refused as import refuses
unfoldable pub answer : List ℕ → Answer
unfolding answer_by traced
answer text = answer_by traced text

-- What is answered of two lists, for every two lists and any number of wires, and what the answer means.
use Rattle.std.specs.Prelude.{◌≡◌, ◌↔◌, Result, Ok, Err, List, ℕ, ℤ}
use Rattle.rules.specs.Numbers.{gates_of}
use Rattle.rules.specs.Refusal.{Refusal, Verdict, accepted, refused}
use Rattle.rules.specs.Stretch.{AlikeGates}
use Rattle.gate.specs.Verdicts.{refusal_of}
use Rattle.acting.specs.Alike as Question
use Rattle.acting.specs.Alike.{SameMap, SameFlips, SamePhase}
use Rattle.acting.specs.declared.Verdict as Code
use Rattle.acting.specs.Answer.{verdict_of}
use Rattle.compare.specs.View.{ops_of}
use Rattle.alike.specs.Asking.{asked}
use Rattle.alike.specs.declared.Which.{Which}
use Rattle.alike.specs.declared.Which.TheVariants.{First, Second}
use Rattle.alike.specs.declared.Blame.{Blame}

-- a refusal with the list that it belongs to, 1 or 2; or the first that differs of linear map, flips and phase; or the same
pub data Answer : Type 0 where
  refusal : ℕ → Refusal → Answer
  says : Question.Verdict → Answer

-- a refusal of that list, or what is answered after it
abbrev pub after : ℕ → Verdict → Answer → Answer
after list accepted rest = rest
after list (refused r) rest = refusal list r

-- all checks of the first list come before those of the second
unfoldable pub answer : List ℤ → List ℤ → ℕ → Answer
unfolding asked ops_of
answer first second w = after 1 (asked first w) (after 2 (asked second w) (says (Question.verdict w (ops_of first) (ops_of second))))

-- the list's number
abbrev pub number_of : Which → ℕ
number_of First = 1
number_of Second = 2

abbrev pub told : Result Code.Verdict Blame → Answer
told (Err b) = refusal (number_of b.list) (refusal_of b.refusal)
told (Ok v) = says (verdict_of v)

-- the refusal of one list, or what is answered after it
abbrev pub told_or : Result (Unit {0}) Blame → Answer → Answer
told_or (Ok u) rest = rest
told_or (Err b) rest = refusal (number_of b.list) (refusal_of b.refusal)

-- both lists are taken
pub record Taken (first second : List ℤ) (w : ℕ) : Type 0 where
  pub one : asked first w ≡ accepted
  pub two : asked second w ≡ accepted

pub record Answers (first second : List ℤ) (w : ℕ) (r : Result Code.Verdict Blame) : Type 0 where
  -- refused exactly when document 02 says, with number, place, field and list; else the answer.
  -- Wrong: the second list's fault told before the first's; 16 told before 9; 17 for the wires in use
  pub answered : told r ≡ answer first second w
  -- the same exactly when every setting of the wires goes to the same setting, and phases differ by one constant modulo 8.
  -- Wrong: different because their terms differ; settings with two ones only; pairs of wires modulo 2
  pub same : Taken first second w → ((told r ≡ says Question.alike) ↔ AlikeGates (gates_of first) (gates_of second))
  -- else the first that differs. Of the linear map: between some two settings, other wires change. Wrong: flips told before the map
  pub map : Taken first second w → ((told r ≡ says Question.map_differs) ↔ ¬ (SameMap (ops_of first) (ops_of second)))
  -- of the flips: the zeros go elsewhere
  pub flips : Taken first second w → ((told r ≡ says Question.flips_differ) ↔ (SameMap (ops_of first) (ops_of second) × ¬ (SameFlips (ops_of first) (ops_of second))))
  -- of the phase: no one constant
  pub phase : Taken first second w → ((told r ≡ says Question.phase_differs) ↔ (SameMap (ops_of first) (ops_of second) × SameFlips (ops_of first) (ops_of second) × ¬ (SamePhase (ops_of first) (ops_of second))))

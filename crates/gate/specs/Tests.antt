-- The tests of a check as the code makes them: each with what it gives where it fails.
use Rattle.std.specs.Prelude.{Bool, cond, List, [], ◌∷◌, map, Option, Some, None}
use Rattle.rules.specs.Refusal as Paper
use Rattle.gate.specs.declared.Fault.{Fault}
use Rattle.gate.specs.Faults.{tells}

-- what the first that fails gives
abbrev pub first : {A : Type 0} → List (Bool × A) → Option A
first [] = None
first (test ∷ others) = let later = first others in cond test.0 (Some test.1) later

-- the same tests with document 01's numbers and fields
abbrev pub all_told : List (Bool × Fault) → List (Bool × Paper.Fault)
all_told tests = map (λ test. (test.0, tells test.1)) tests

-- the fault, or none of document 01's
abbrev pub told : Option Fault → Paper.Fault
told None = Paper.none
told (Some fault) = tells fault

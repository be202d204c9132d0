-- The refusals of one of two lists of fragment gates, exactly when each is given, and in their order. There are no classical bits.
use Rattle.std.specs.Prelude.{Bool, not, ◌||◌, List, [], ◌∷◌, ◌++◌, ℕ, zero, suc, ◌/◌, ◌%◌, eqb, ltb, ℤ, pos, length}
use Rattle.rules.specs.Limits.{width, max_gates, max_wires, max_columns}
use Rattle.rules.specs.Gate.{fragment}
use Rattle.rules.specs.Numbers.{nat_of, negative, field}
use Rattle.rules.specs.Refusal.{Fault, Verdict, accepted, tell, none, first_number, ruled, gate_tests}

-- the tests of a gate: those of any list up to 9 (a line of 0 fails none), then 16 for an opaque code, and 18 last. A measure is refused by 14 before it could be by 16
abbrev pub asked_tests : ℕ → ℕ → ℤ → ℤ → ℤ → ℤ → ℤ → List (Bool × Fault)
asked_tests c w x y z t s = gate_tests c w zero x y z t (pos zero) ++ ((not (fragment c), tell 16 0) ∷ (negative s, tell 18 0) ∷ [])

-- a fault's number says that no test up to 9 fails: 18 stands behind them
abbrev pub passes_nine : ℕ → Bool
passes_nine number = eqb number 0 || eqb number 18

-- what is wrong with the gate at place i
unfoldable pub asked_at : List ℤ → ℕ → ℕ → Fault
asked_at l w i = first_number (asked_tests (nat_of (field l i 0)) w (field l i 1) (field l i 2) (field l i 3) (field l i 4) (field l i 5)) none

-- the number of the refusal of n numbers as g gates, before any gate is looked at, or 0 for none: 17 stands straight after 3
abbrev pub whole_asked : ℕ → ℕ → ℕ → ℕ
whole_asked n g w = first_number ((not (eqb (n % width) 0), 1) ∷ (ltb max_gates g, 2) ∷ (ltb max_wires w, 3) ∷ (ltb max_columns w, 17) ∷ []) 0

-- n gates from place i on, in list order; the place is the gate's index
unfoldable pub asked_from : List ℤ → ℕ → ℕ → ℕ → Verdict
unfolding asked_at
asked_from l w zero i = accepted
asked_from l w (suc n) i =
    let rest = asked_from l w n (suc i) in
    ruled (asked_at l w i) i rest

-- 1, 2, 3, 17, then gate by gate
unfoldable pub asked : List ℤ → ℕ → Verdict
unfolding asked_from
asked l w =
    let g = length l / width in
    let rest = asked_from l w g zero in
    ruled (tell (whole_asked (length l) g w) 0) zero rest

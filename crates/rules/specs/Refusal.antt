-- The refusals 1 to 9, 14 and 18, exactly when each is given, and in their order.
use Rattle.std.specs.Prelude.{Bool, not, ◌&&◌, ◌||◌, cond, List, [], ◌∷◌, ℕ, zero, suc, ◌/◌, ◌%◌, eqb, ltb, ℤ, pos, length}
use Rattle.rules.specs.Limits.{width, last_code, max_gates, max_wires, max_bits, term_width, step_width, term_entries, step_entries}
use Rattle.rules.specs.Gate.{from, second, bitted, third, turned}
use Rattle.rules.specs.Numbers.{nat_of, inside, same, negative, field}

-- a refusal returns number and place, and the field that is wrong: 1 first, 2 second, 3 third; 0 where it names none
pub record Refusal : Type 0 where
  pub number : ℕ
  pub place : ℕ
  pub field : ℕ

pub data Verdict : Type 0 where
  accepted : Verdict
  refused : Refusal → Verdict

-- what a test that fails tells, wherever it stands
pub record Fault : Type 0 where
  pub number : ℕ
  pub field : ℕ

abbrev pub tell : ℕ → ℕ → Fault
tell number field = record { number = number; field = field }

-- no test fails
abbrev pub none : Fault
none = tell 0 0

-- tests in their order, each with what it gives where it fails: the first of these, or what comes else where none fails
abbrev pub first_number : {A : Type 0} → List (Bool × A) → A → A
first_number [] else = else
first_number (test ∷ others) else = let later = first_number others else in cond test.0 test.1 later

-- every refusal is made here
abbrev pub refuse : Fault → ℕ → Verdict
refuse f place = refused (record { number = f.number; place = place; field = f.field })

-- refused by that fault, at a place; where its number is 0, the rest decides
abbrev pub ruled : Fault → ℕ → Verdict → Verdict
ruled f place rest = cond (eqb f.number 0) rest (refuse f place)

-- ---- one gate: code c, fields x, y, z, turn t and line s, on w wires and b classical bits

abbrev pub nought : ℤ → Bool
nought z = same z (pos 0)

-- not 7: each unused field is 0
abbrev pub unused : ℕ → ℤ → ℤ → ℤ → Bool
unused c y z t = (second c || (bitted c || nought y)) && ((third c || nought z) && (turned c || nought t))

-- not 9: no wire stands twice. A measure's bit may equal its wire
abbrev pub apart : ℕ → ℤ → ℤ → ℤ → Bool
apart c x y z = not (second c && same x y) && not (third c && (same x z || same y z))

-- the tests of a gate of code c: 6, 7, then its fields from left to right, then 9, and 18 last: a negative line. A wire that isn't
-- one of 0 to w - 1 is 8, a measure's bit that isn't one of 0 to b - 1 is 14; these two name their field
abbrev pub gate_tests : ℕ → ℕ → ℕ → ℤ → ℤ → ℤ → ℤ → ℤ → List (Bool × Fault)
gate_tests c w b x y z t s =
    (not (from 1 last_code c), tell 6 0)
    ∷ (not (unused c y z t), tell 7 0)
    ∷ (not (inside x w), tell 8 1)
    ∷ (second c && not (inside y w), tell 8 2)
    ∷ (bitted c && not (inside y b), tell 14 2)
    ∷ (third c && not (inside z w), tell 8 3)
    ∷ (not (apart c x y z), tell 9 0)
    ∷ (negative s, tell 18 0)
    ∷ []

-- what is wrong with a gate. A code below 1 reads as 0
unfoldable pub fault_of : ℕ → ℕ → ℤ → ℤ → ℤ → ℤ → ℤ → ℤ → Fault
fault_of w b code x y z t s = first_number (gate_tests (nat_of code) w b x y z t s) none

unfoldable pub fault_at : List ℤ → ℕ → ℕ → ℕ → Fault
unfolding fault_of
fault_at l w b i = fault_of w b (field l i 0) (field l i 1) (field l i 2) (field l i 3) (field l i 4) (field l i 5)

-- ---- the list

-- a refusal of the list as a whole has the place 0, and names no field
abbrev pub whole : ℕ → Verdict
whole k = refuse (tell k 0) zero

-- the number of the refusal of n numbers as g gates, before any gate is looked at, or 0 for none. The rooms are given by how many numbers they hold
abbrev pub whole_fault : ℕ → ℕ → ℕ → ℕ → ℕ → ℕ → ℕ → ℕ
whole_fault n g w b out terms steps =
    first_number
    ((not (eqb (n % width) 0), 1)
    ∷ (ltb max_gates g, 2)
    ∷ (ltb max_wires w || ltb max_bits b, 3)
    ∷ (ltb out n, 4)
    ∷ (ltb (terms / term_width) (term_entries g) || ltb (steps / step_width) (step_entries g), 5)
    ∷ [])
    0

-- n gates from place i on, in list order; the place is the gate's index
unfoldable pub faults_from : List ℤ → ℕ → ℕ → ℕ → ℕ → Verdict
unfolding fault_at
faults_from l w b zero i = accepted
faults_from l w b (suc n) i =
    let rest = faults_from l w b n (suc i) in
    ruled (fault_at l w b i) i rest

-- 1 to 5, then gate by gate
unfoldable pub verdict : List ℤ → ℕ → ℕ → ℕ → ℕ → ℕ → Verdict
unfolding faults_from
verdict l w b out terms steps =
    let g = length l / width in
    let rest = faults_from l w b g zero in
    ruled (tell (whole_fault (length l) g w b out terms steps) 0) zero rest

-- Worked pairs of runs, by computing: one table, and one statement for each way to the answer.
use mathlib.Core.Path.{◌≡◌, refl}
use mathlib.Core.List.{List, [], ◌∷◌, ◌++◌, map}
use Prim.Native.Nat.{ℕ}
use Rattle.rules.specs.Meaning.{Op, flip, phase, cnot, cz}
use Rattle.acting.specs.Alike.{Verdict, alike, map_differs, flips_differ, phase_differs, verdict}
use Rattle.acting.specs.Table.{computed}

pub record Case : Type 0 where
  pub wires : ℕ
  pub one : List Op
  pub two : List Op
  pub answer : Verdict

abbrev pub case : ℕ → List Op → List Op → Verdict → Case
case n us vs a = record { wires = n; one = us; two = vs; answer = a }

abbrev pub t : ℕ → Op
t q = phase 1 q

abbrev pub tdg : ℕ → Op
tdg q = phase 7 q

-- t on the seven parities of three wires: 4 where all three are 1, and nothing elsewhere
abbrev pub seven : List Op
seven = t 0 ∷ t 1 ∷ t 2 ∷ cnot 0 1 ∷ t 1 ∷ cnot 2 1 ∷ t 1 ∷ cnot 0 1 ∷ t 1 ∷ cnot 2 1 ∷ cnot 0 2 ∷ t 2 ∷ cnot 0 2 ∷ []

-- t on the eight other parities of four wires, those with wire 3, in the order of a Gray code
abbrev pub eight : List Op
eight =
    t 3 ∷ cnot 0 3 ∷ t 3 ∷ cnot 1 3 ∷ t 3 ∷ cnot 0 3 ∷ t 3 ∷ cnot 2 3 ∷ t 3 ∷ cnot 0 3 ∷ t 3 ∷ cnot 1 3 ∷ t 3 ∷ cnot 0 3 ∷ t 3 ∷ cnot 2 3 ∷ []

abbrev pub cases : List Case
cases =
    case 2 (cz 0 1 ∷ cz 0 1 ∷ []) [] alike
    -- a cz by its folds; and one that takes the other wire for control
    ∷ case 2 (cz 0 1 ∷ []) (phase 2 0 ∷ phase 2 1 ∷ cnot 0 1 ∷ phase 6 1 ∷ cnot 0 1 ∷ []) alike
    ∷ case 2 (cz 0 1 ∷ []) (cz 1 0 ∷ []) alike
    -- all fifteen parities of four wires: nothing, though no turn is 0; the seven of three: something
    ∷ case 4 (seven ++ eight) [] alike
    ∷ case 3 seven [] phase_differs
    -- a constant turn
    ∷ case 1 (flip 0 ∷ t 0 ∷ flip 0 ∷ t 0 ∷ []) [] alike
    ∷ case 1 (t 0 ∷ []) (tdg 0 ∷ []) phase_differs
    ∷ case 1 (flip 0 ∷ []) [] flips_differ
    ∷ case 2 (cnot 0 1 ∷ []) [] map_differs
    -- three cnots against three the other way round: both exchange the wires
    ∷ case 2 (cnot 0 1 ∷ cnot 1 0 ∷ cnot 0 1 ∷ []) (cnot 1 0 ∷ cnot 0 1 ∷ cnot 1 0 ∷ []) alike
    -- the first that differs, where several do
    ∷ case 2 (cnot 0 1 ∷ flip 0 ∷ t 0 ∷ []) [] map_differs
    ∷ case 2 (flip 1 ∷ t 0 ∷ []) [] flips_differ
    ∷ case 0 [] [] alike
    ∷ []

pub worked : map (λ (c : Case). verdict c.wires c.one c.two) cases ≡ map (λ (c : Case). c.answer) cases
unfolding verdict
worked = refl

pub worked-computed : map (λ (c : Case). computed c.wires c.one c.two) cases ≡ map (λ (c : Case). c.answer) cases
unfolding computed
worked-computed = refl

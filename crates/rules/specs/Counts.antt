-- What is counted: gates, CNOT and CZ together, T as the machine spends it; and which of two lists is cheaper.
use Rattle.std.specs.Prelude.{◌≡◌, ◌⊎◌, Bool, ◌&&◌, ◌||◌, cond, List, [], ◌∷◌, ℕ, zero, ◌+◌, ◌≤◌, ◌<◌, ℤ, length, eqb, leb, ltb}
use Rattle.rules.specs.Gate.{Gate, code_t, code_tdg, code_rz, code_cnot, code_cz, code_p}
use Rattle.rules.specs.Numbers.{odd}

-- CNOT or CZ
abbrev pub is_two : ℕ → Bool
is_two c = eqb c code_cnot || eqb c code_cz

-- t, tdg, and every rz or p with an odd turn, of the turn as it is written
abbrev pub spends : ℕ → ℤ → Bool
spends c k = (eqb c code_t || eqb c code_tdg) || ((eqb c code_rz || eqb c code_p) && odd k)

unfoldable pub twos : List Gate → ℕ
twos [] = zero
twos (g ∷ gs) = cond (is_two g.code) 1 0 + twos gs

unfoldable pub ts : List Gate → ℕ
ts [] = zero
ts (g ∷ gs) = cond (spends g.code g.turn) 1 0 + ts gs

-- no more T
abbrev pub NoMoreT : List Gate → List Gate → Type 0
NoMoreT new old = ts new ≤ ts old

-- the total isn't higher, and the pair (CNOT and CZ, total) is smaller, the first number deciding
unfoldable pub cheaper : List Gate → List Gate → Bool
unfolding twos
cheaper new old =
    leb (length new) (length old)
    && (ltb (twos new) (twos old) || (eqb (twos new) (twos old) && ltb (length new) (length old)))

-- a stretch is unchanged, or has no more gates, no more CNOT and CZ together, and fewer of one of these
pub data Thrifty (new old : List Gate) : Type 0 where
  unchanged : new ≡ old → Thrifty new old
  fewer : length new ≤ length old → twos new ≤ twos old → (length new < length old) ⊎ (twos new < twos old) → Thrifty new old

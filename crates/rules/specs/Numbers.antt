-- A gate is six signed numbers: reading and writing a list.
use Rattle.std.specs.Prelude.{Bool, true, false, List, [], ◌∷◌, ◌++◌, ℕ, zero, suc, ◌+◌, ◌*◌, ◌/◌, ◌%◌, eqb, ltb, ℤ, pos, negsuc, length, get_or}
use Rattle.rules.specs.Limits.{width}
use Rattle.rules.specs.Gate.{Gate}

-- ---- signed numbers, looked at in five ways only

-- the number itself, and 0 for a negative one
abbrev pub nat_of : ℤ → ℕ
nat_of (pos n) = n
nat_of (negsuc n) = 0

-- one of 0 to n - 1
abbrev pub inside : ℤ → ℕ → Bool
inside (pos k) n = ltb k n
inside (negsuc k) n = false

abbrev pub same : ℤ → ℤ → Bool
same (pos a) (pos b) = eqb a b
same (pos a) (negsuc b) = false
same (negsuc a) (pos b) = false
same (negsuc a) (negsuc b) = eqb a b

-- odd, a negative one too: `negsuc n` is -(n + 1)
abbrev pub odd : ℤ → Bool
odd (pos n) = eqb (n % 2) 1
odd (negsuc n) = eqb (suc n % 2) 1

abbrev pub negative : ℤ → Bool
negative (pos n) = false
negative (negsuc n) = true

-- ---- reading

-- field k of the gate at place i
abbrev pub field : List ℤ → ℕ → ℕ → ℤ
field l i k = get_or l (width * i + k) (pos 0)

-- code, first, second, third, turn, line
unfoldable pub gate_at : List ℤ → ℕ → Gate
gate_at l i = record {
  code = nat_of (field l i 0);
  first = nat_of (field l i 1);
  second = nat_of (field l i 2);
  third = nat_of (field l i 3);
  turn = field l i 4;
  line = nat_of (field l i 5);
}

-- n gates, from place i on
unfoldable pub gates_from : List ℤ → ℕ → ℕ → List Gate
unfolding gate_at
gates_from l zero i = []
gates_from l (suc n) i = gate_at l i ∷ gates_from l n (suc i)

unfoldable pub gates_of : List ℤ → List Gate
unfolding gates_from
gates_of l = gates_from l (length l / width) zero

-- ---- writing

abbrev pub numbers : Gate → List ℤ
numbers g = pos g.code ∷ pos g.first ∷ pos g.second ∷ pos g.third ∷ g.turn ∷ pos g.line ∷ []

unfoldable pub numbers_of : List Gate → List ℤ
numbers_of [] = []
numbers_of (g ∷ gs) = numbers g ++ numbers_of gs

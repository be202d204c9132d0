-- A gate written into a list of numbers.
use Rattle.std.specs.Prelude.{List, ◌++◌, ℕ, zero, suc, ◌+◌, ◌*◌, ◌^◌, ◌<◌, ℤ, pos, take, drop, set}
use Rattle.rules.specs.Limits.{width}
use Rattle.rules.specs.Gate as Paper
use Rattle.rules.specs.Numbers.{numbers}
use Rattle.gate.specs.declared.Gate.{Gate}

-- the gate that the code's numbers are, on no line
abbrev pub gate_of : Gate → Paper.Gate
gate_of g = record { code = g.code; first = g.first; second = g.second; third = g.third; turn = pos g.turn; line = 0 }

-- its numbers fit 32 signed bits; a turn always does
pub record Small (g : Gate) : Type 0 where
  pub code : g.code < 2 ^ 31
  pub first : g.first < 2 ^ 31
  pub second : g.second < 2 ^ 31
  pub third : g.third < 2 ^ 31

-- the list with the gate at place i
unfoldable pub placed : List ℤ → ℕ → Paper.Gate → List ℤ
placed l i g = take (width * i) l ++ numbers g ++ drop (width * i + width) l

-- the list with that line in the k gates from place i on
unfoldable pub stamped : ℕ → ℕ → ℕ → List ℤ → List ℤ
stamped line zero i l = l
stamped line (suc k) i l = stamped line k (suc i) (set l (width * i + 5) (pos line))

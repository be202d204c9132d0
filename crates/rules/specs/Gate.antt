-- A gate, the table of codes, and which fields each code uses.
use Rattle.std.specs.Prelude.{Bool, ◌&&◌, ◌||◌, ℕ, zero, ℤ, pos, eqb, leb}
use Rattle.rules.specs.Limits.{last_fragment}

-- code, first, second, third, turn, line. A wire and a classical bit are numbers; a turn counts units of pi/4, either way round;
-- the line is where the customer's text has the gate, and nothing but the output's lines depends on it
pub record Gate : Type 0 where
  pub code : ℕ
  pub first : ℕ
  pub second : ℕ
  pub third : ℕ
  pub turn : ℤ
  pub line : ℕ

-- the fragment's codes, as document 01's table has them
abbrev pub code_x : ℕ
code_x = 1

abbrev pub code_t : ℕ
code_t = 2

abbrev pub code_tdg : ℕ
code_tdg = 3

abbrev pub code_s : ℕ
code_s = 4

abbrev pub code_sdg : ℕ
code_sdg = 5

abbrev pub code_z : ℕ
code_z = 6

abbrev pub code_rz : ℕ
code_rz = 7

abbrev pub code_cnot : ℕ
code_cnot = 8

abbrev pub code_cz : ℕ
code_cz = 9

-- of the opaque codes, the one that is counted
abbrev pub code_p : ℕ
code_p = 14

-- the code is one of a to e
abbrev pub from : ℕ → ℕ → ℕ → Bool
from a e c = leb a c && leb c e

-- the codes 1 to 9; 10 to 27 are opaque
abbrev pub fragment : ℕ → Bool
fragment c = from 1 last_fragment c

-- every code uses `first`, a wire. `second` is a wire: cnot, cz; swap, cy, ch, cp, crx, cry, crz, ccx, ccz, cswap
abbrev pub second : ℕ → Bool
second c = from 8 9 c || from 17 26 c

-- `second` is a classical bit: measure
abbrev pub bitted : ℕ → Bool
bitted c = eqb c 27

-- `third` is a wire: ccx, ccz, cswap
abbrev pub third : ℕ → Bool
third c = from 24 26 c

-- `turn` is used: rz; p, rx, ry; cp, crx, cry, crz
abbrev pub turned : ℕ → Bool
turned c = eqb c 7 || (from 14 16 c || from 20 23 c)

-- a gate on one wire, and on two; what they do not use is 0, and so is their line
abbrev pub gate1 : ℕ → ℕ → Gate
gate1 c q = record { code = c; first = q; second = zero; third = zero; turn = pos zero; line = zero }

abbrev pub gate2 : ℕ → ℕ → ℕ → Gate
gate2 c p q = record { code = c; first = p; second = q; third = zero; turn = pos zero; line = zero }

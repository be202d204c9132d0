-- A gate of the fragment that has nothing to refuse, as one quick test.
use Rattle.std.specs.Prelude.{Bool, not, ◌&&◌, ◌||◌, ℕ, eqb, ℤ}
use Rattle.rules.specs.Gate.{from, code_x, code_rz, code_cnot, code_cz}
use Rattle.rules.specs.Numbers.{inside, same, negative}
use Rattle.rules.specs.Refusal.{nought}

-- on one wire, with a turn only where the code is rz
abbrev pub single : ℕ → ℤ → ℤ → Bool
single c y t = from code_x code_rz c && (nought y && (eqb c code_rz || nought t))

-- on two wires, cnot or cz
abbrev pub paired : ℕ → ℕ → ℤ → ℤ → ℤ → Bool
paired c w x y t = from code_cnot code_cz c && (inside y w && (not (same x y) && nought t))

unfoldable pub plain : ℕ → ℕ → ℤ → ℤ → ℤ → ℤ → ℤ → Bool
plain c w x y z t s = (single c y t || paired c w x y t) && (inside x w && (nought z && not (negative s)))

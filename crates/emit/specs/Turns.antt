-- The first gate of a turn from 1 to 7, by the code's tests; that it is document 01's table is proved (`rotation-is`).
use Rattle.std.specs.Prelude.{cond, ℕ, eqb, leb}
use Rattle.rules.specs.Gate.{code_t, code_tdg, code_s, code_sdg, code_z}

abbrev pub lead : ℕ → ℕ
lead k = cond (eqb k 1) code_t (cond (leb k 3) code_s (cond (leb k 5) code_z (cond (eqb k 6) code_sdg code_tdg)))

-- A column with its score, as document 01's choice has them.
use Rattle.std.specs.Prelude.{ℕ}
use Rattle.plain_walk.specs.declared.Kept.{Kept}

abbrev pub pair_of : Kept → ℕ × ℕ
pair_of k = (k.column, k.score)

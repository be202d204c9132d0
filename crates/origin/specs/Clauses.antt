-- What the crate's functions ask and say.
use Rattle.std.specs.Prelude.{List, [], ◌++◌, ℕ, zero, suc, ◌+◌, ℤ, pos, get_or, take, drop}
use Rattle.rules.specs.Limits.{width}
use Rattle.rules.specs.Numbers.{nat_of}
use Rattle.qasm.specs.Statement.{statement_text}
use Rattle.qasm.specs.Clauses.{statement_size}
use Rattle.origin.specs.declared.Source.{Source}
use Rattle.origin.specs.declared.Source.TheVariants.{Copied, Again}
use Rattle.origin.specs.Origins.{unended, line_note, lines_note}

-- what is said of a gate's six numbers: the lines of the block that was written again, or the gate's own
abbrev pub note : Source → List ℤ → List ℕ
note Copied row = line_note (nat_of (get_or row 5 (pos 0)))
note (Again a b) row = lines_note a b

-- a gate's six numbers, said
unfoldable pub row_text : Source → List ℤ → List ℕ
unfolding statement_text
row_text s row = unended (statement_text row) ++ note s row

-- n gates
unfoldable pub rows_text : Source → ℕ → List ℤ → List ℕ
unfolding row_text
rows_text s zero ns = []
rows_text s (suc n) ns = row_text s (take width ns) ++ rows_text s n (drop width ns)

-- no note, and no line, is longer
abbrev pub note_size : ℕ
note_size = 35

abbrev pub origin_size : ℕ
origin_size = statement_size + note_size

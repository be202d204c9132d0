-- Where each gate of a shortened circuit comes from, and how that is said to people.
use Rattle.std.specs.Prelude.{cond, List, [], ◌∷◌, ◌++◌, map, ℕ, zero, ◌-◌, length, take}
use Rattle.rules.specs.Gate.{Gate}
use Rattle.rules.specs.Numbers.{numbers}
use Rattle.rules.specs.Scan.{Piece, copied, block, Writer, replaces}
use Rattle.rules.specs.Lines.{line_of}
use Rattle.text.specs.Bytes.{bytes}
use Rattle.text.specs.Printing.{decimal, named_text}
use Rattle.qasm.specs.Statement.{statement_text}

-- ---- origins

-- a gate out that was copied: it has its own line. Or one of a block that was written again, whose gates stood on lines a to b
pub data Origin : Type 0 where
  kept : Gate → Origin
  made : ℕ → ℕ → Gate → Origin

-- the line of the last gate, in list order; n where there is none
unfoldable pub last_from : ℕ → List Gate → ℕ
last_from n [] = n
last_from n (g ∷ gs) = last_from g.line gs

abbrev pub last_line : List Gate → ℕ
last_line gs = last_from zero gs

-- gate by gate, of the pieces that a list was cut into: copied are the gates outside any block and those of a block that is kept
unfoldable pub origins : Writer → List Piece → List Origin
unfolding replaces last_from
origins write [] = []
origins write (copied g ∷ ps) = kept g ∷ origins write ps
origins write (block gs ∷ ps) = cond (replaces write gs) (map (made (line_of gs) (last_line gs)) (write gs)) (map kept gs) ++ origins write ps

-- ---- how it is said

-- a text without its last byte, the LF of a statement
abbrev pub unended : List ℕ → List ℕ
unended t = take (length t - 1) t

-- ` // line N`, and the end of the line
unfoldable pub line_note : ℕ → List ℕ
unfolding named_text
line_note n = named_text (bytes " // line") (n ∷ [])

-- ` // lines A to B`
unfoldable pub lines_note : ℕ → ℕ → List ℕ
unfolding decimal named_text
lines_note a b = bytes " // lines " ++ (decimal a ++ named_text (bytes " to") (b ∷ []))

-- the statement as it is printed, and the note
unfoldable pub origin_text : Origin → List ℕ
unfolding statement_text line_note lines_note
origin_text (kept g) = unended (statement_text (numbers g)) ++ line_note g.line
origin_text (made a b g) = unended (statement_text (numbers g)) ++ lines_note a b

-- a line for each gate
unfoldable pub origins_text : List Origin → List ℕ
unfolding origin_text
origins_text [] = []
origins_text (o ∷ os) = origin_text o ++ origins_text os

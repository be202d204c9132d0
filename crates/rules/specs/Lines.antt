-- The customer's line numbers: what becomes of them. They lie around the writer, so that no other rule knows of them.
use Rattle.std.specs.Prelude.{◌≡◌, ◌⊎◌, cond, List, [], ◌∷◌, ◌++◌, map, ℕ, zero, length, replicate}
use Rattle.rules.specs.Gate.{Gate}
use Rattle.rules.specs.Scan.{Piece, copied, block, Writer, replaces, Result}

-- ---- gates with a line

-- the gate with that line, its other fields as they are
abbrev pub with_line : ℕ → Gate → Gate
with_line n g = record { code = g.code; first = g.first; second = g.second; third = g.third; turn = g.turn; line = n }

-- every gate with that line
unfoldable pub stamp : ℕ → List Gate → List Gate
stamp n [] = []
stamp n (g ∷ gs) = with_line n g ∷ stamp n gs

-- the line of the first gate, in list order
abbrev pub line_of : List Gate → ℕ
line_of [] = zero
line_of (g ∷ gs) = g.line

-- a block's new gates all take the line of its first gate, whatever the writer
unfoldable pub lined : Writer → Writer
unfolding stamp
lined write gs = stamp (line_of gs) (write gs)

-- ---- the lines out

abbrev pub lines : List Gate → List ℕ
lines gs = map (λ g. g.line) gs

-- gate by gate: a copied gate has its own line, outside any block and in one that is kept; the gates of a replaced block have the line of its first gate
unfoldable pub lines_after : Writer → List Piece → List ℕ
unfolding replaces
lines_after write [] = []
lines_after write (copied g ∷ ps) = g.line ∷ lines_after write ps
lines_after write (block gs ∷ ps) = cond (replaces write gs) (replicate (length (write gs)) (line_of gs)) (lines gs) ++ lines_after write ps

-- n is the line of one of the gates
unfoldable pub LineIn : ℕ → List Gate → Type 0
LineIn n [] = ⊥
LineIn n (g ∷ gs) = (g.line ≡ n) ⊎ LineIn n gs

-- each line of the new gates is the line of one of the old
unfoldable pub LinesFrom : List Gate → List Gate → Type 0
unfolding LineIn
LinesFrom [] old = Unit {0}
LinesFrom (g ∷ new) old = LineIn g.line old × LinesFrom new old

-- the law that these two ask of a writer: its gates have the line of the run's first
pub record Lining (write : Writer) : Type 0 where
  pub takes : (gs : List Gate) → stamp (line_of gs) (write gs) ≡ write gs

-- ---- the first five fields

-- no line
abbrev pub unlined : List Gate → List Gate
unlined gs = stamp zero gs

abbrev pub five_of : Result → Result
five_of r = record { gates = unlined r.gates; blocks = r.blocks; replaced = r.replaced }

-- the law that the first five fields ask of a writer: it looks at no line, and without lines it writes none
pub record Blind (write : Writer) : Type 0 where
  pub sees : (gs : List Gate) → unlined (write gs) ≡ write (unlined gs)

-- How the laboratories spell a gate: one table, read in both directions.
use Rattle.std.specs.Prelude.{Bool, cond, List, [], ◌∷◌, ℕ, eqb, ltb, length, get_or}
use Prim.Native.Char.{code}
use Rattle.text.specs.Bytes.{bytes, lf}

-- line k spells code k: `cx q[0],q[1];`, `rz(-3*pi/4) q[0];`, `measure q[0] -> c[0];`. An empty line: the code isn't spelled.
-- F, S, T and K stand for first, second, third and turn, every other byte for itself
unfoldable pub table : List ℕ
table = bytes "x q[F];\nt q[F];\ntdg q[F];\ns q[F];\nsdg q[F];\nz q[F];\nrz(K*pi/4) q[F];\ncx q[F],q[S];\ncz q[F],q[S];\nh q[F];\ny q[F];\n\nreset q[F];\n\n\n\n\n\n\n\n\n\n\nccx q[F],q[S],q[T];\n\n\nmeasure q[F] -> c[S];\n"

-- a byte before the first of some lines
abbrev pub onto : ℕ → List (List ℕ) → List (List ℕ)
onto b [] = (b ∷ []) ∷ []
onto b (l ∷ ls) = (b ∷ l) ∷ ls

-- the lines of some bytes, each with its LF
unfoldable pub lines_of : List ℕ → List (List ℕ)
lines_of [] = []
lines_of (b ∷ bs) =
    let others = lines_of bs in
    cond (eqb b lf) ((b ∷ []) ∷ others) (onto b others)

-- by code. There is no code 0
unfoldable pub templates : List (List ℕ)
unfolding table lines_of
templates = [] ∷ lines_of table

unfoldable pub template : ℕ → List ℕ
unfolding templates
template c = get_or templates c []

-- more than LF
abbrev pub written : List ℕ → Bool
written t = ltb 1 (length t)

-- the code has a spelling
unfoldable pub spelled : ℕ → Bool
unfolding template
spelled c = written (template c)

-- the number of a gate that a byte of a template stands for, by its place; 0 where it stands for itself
unfoldable pub field_of : ℕ → ℕ
field_of b = cond (eqb b (code "F")) 1 (cond (eqb b (code "S")) 2 (cond (eqb b (code "T")) 3 (cond (eqb b (code "K")) 4 0)))

-- Export: wires, bits and gates as a laboratory's text.
use Rattle.std.specs.Prelude.{cond, List, [], ◌∷◌, ◌++◌, ℕ, zero, suc, ◌/◌, eqb, ℤ, pos, length, take, drop}
use Rattle.rules.specs.Limits.{width}
use Rattle.rules.specs.Numbers.{nat_of, field}
use Rattle.qasm.specs.Table.{spelled}
use Rattle.qasm.specs.Statement.{spell_by, statement_text, on_line}
use Rattle.qasm.specs.Import.{version_line, include_line, wires_line, bits_line}

-- a register's numbers: its size stands first
abbrev pub sized : ℕ → List ℤ
sized n = pos 0 ∷ pos n ∷ pos 0 ∷ pos 0 ∷ pos 0 ∷ pos 0 ∷ []

-- a register of size 0 is left out
unfoldable pub register_text : List ℕ → ℕ → List ℕ
unfolding spell_by
register_text t n = cond (eqb n 0) [] (spell_by t (sized n))

-- n gates, a statement a line; their own lines are dropped
unfoldable pub statements_text : ℕ → List ℤ → List ℕ
unfolding statement_text
statements_text zero ns = []
statements_text (suc n) ns = statement_text (take width ns) ++ statements_text n (drop width ns)

-- the lines before the gates
unfoldable pub opening_text : ℕ → ℕ → List ℕ
unfolding register_text
opening_text w b = version_line ++ (include_line ++ (register_text wires_line w ++ register_text bits_line b))

-- a list of w wires and b bits
unfoldable pub qasm_text : ℕ → ℕ → List ℤ → List ℕ
unfolding opening_text statements_text
qasm_text w b ns = opening_text w b ++ statements_text (length ns / width) ns

-- the index of the first gate of n, from place i on, that isn't spelled; the place behind them where each is
unfoldable pub unspelled_from : List ℤ → ℕ → ℕ → ℕ
unspelled_from l zero i = i
unspelled_from l (suc n) i =
    let rest = unspelled_from l n (suc i) in
    cond (spelled (nat_of (field l i 0))) rest i

-- 13 is said of this gate; where it is the number of gates, of none
unfoldable pub unspelled : List ℤ → ℕ
unfolding unspelled_from
unspelled l = unspelled_from l (length l / width) 0

-- ---- the lines that an exported text gives its gates

-- the line behind a register that begins on line k, if it isn't left out
abbrev pub past : ℕ → ℕ → ℕ
past k n = cond (eqb n 0) k (suc k)

-- the line of the first gate: the version, the include line and the registers stand before it
abbrev pub first_line : ℕ → ℕ → ℕ
first_line w b = past (past 3 w) b

-- n gates, on line k and those that follow: all but their sixth numbers are as they were
unfoldable pub relined_from : ℕ → ℕ → List ℤ → List ℤ
relined_from zero k ns = []
relined_from (suc n) k ns = on_line k (take width ns) ++ relined_from n (suc k) (drop width ns)

-- the gates of a list of w wires and b bits, on the lines of its text
unfoldable pub relined : ℕ → ℕ → List ℤ → List ℤ
unfolding relined_from
relined w b ns = relined_from (length ns / width) (first_line w b) ns

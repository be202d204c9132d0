-- Lists and what export prints for them, by computing: every form of head is read, lines are dropped, and a negative one is refused before any spelling is missed.
use mathlib.Core.Path.{◌≡◌, refl}
use mathlib.Core.List.{List, [], ◌∷◌, map}
use Prim.Native.Nat.{ℕ}
use Prim.Native.String.{String}
use Rattle.rules.specs.Refusal.{fault_at}
use Rattle.text.specs.Bytes.{bytes}
use Rattle.text.specs.Printing.{printed}
use Rattle.text.specs.Reading.{word, integer, ended, natural_line, count_line}
use Rattle.spelling.specs.Reading.{head_at, row, rows, read_text}
use Rattle.saying.specs.Answer.{exact}
use Rattle.qasm.specs.Table.{template, field_of, spelled}
use Rattle.export.specs.Answer.{answer}

abbrev prints : String → List ℕ
prints s = (answer (bytes s)).text

forms : map prints (
    "head 5\n1\n0\n128\n512\n6\ngates 1\n1 0 0 0 0 77\n" ∷ "head 5\n1\n0\n128\n512\n5\ngates 1\n1 0 0 0 0\n" ∷ "head 4\n1\n0\n128\n512\ngates 1\n1 0 0 0 0\n"
    ∷ "head 5\n2\n0\n128\n512\n6\ngates 2\n17 0 1 0 0 0\n1 0 0 0 0 -1\n" ∷ "head 5\n2\n0\n128\n512\n6\ngates 2\n17 0 1 0 0 0\n1 0 0 0 0 1\n" ∷ [])
    ≡ map bytes (
    "OPENQASM 2.0;\ninclude \"qelib1.inc\";\nqreg q[1];\nx q[0];\n" ∷ "OPENQASM 2.0;\ninclude \"qelib1.inc\";\nqreg q[1];\nx q[0];\n" ∷ "OPENQASM 2.0;\ninclude \"qelib1.inc\";\nqreg q[1];\nx q[0];\n"
    ∷ "refused 18 1 0\n" ∷ "refused 13 0 0\n" ∷ [])
unfolding answer read_text head_at row rows word integer ended natural_line count_line exact fault_at printed field_of spelled template
forms = refl

-- Laboratories' texts and what import prints for them, by computing: a statement's line is counted from the text's first, whether registers stand before it or not.
use mathlib.Core.Path.{◌≡◌, refl}
use mathlib.Core.List.{List, [], ◌∷◌, map}
use Prim.Native.Nat.{ℕ}
use Prim.Native.String.{String}
use Rattle.rules.specs.Refusal.{fault_at}
use Rattle.text.specs.Bytes.{bytes}
use Rattle.text.specs.Reading.{word, integer}
use Rattle.qasm.specs.Table.{field_of, spelled}
use Rattle.import.specs.Answer.{answer}

abbrev prints : String → List ℕ
prints s = (answer (bytes s)).text

lines : map prints (
    "OPENQASM 2.0;\ninclude \"qelib1.inc\";\nqreg q[1];\nx q[0];\n" ∷ "OPENQASM 2.0;\ninclude \"qelib1.inc\";\n"
    ∷ "OPENQASM 2.0;\ninclude \"qelib1.inc\";\nqreg q[1];\ncreg c[1];\nmeasure q[0] -> c[0];\nrz(-9*pi/4) q[0];\n"
    ∷ "OPENQASM 2.0;\ninclude \"qelib1.inc\";\nqreg q[1];\nx q[1];\n" ∷ [])
    ≡ map bytes (
    "head 5\n1\n0\n128\n512\n6\ngates 1\n1 0 0 0 0 4\n" ∷ "head 5\n0\n0\n128\n512\n6\ngates 0\n"
    ∷ "head 5\n1\n1\n128\n512\n6\ngates 2\n27 0 0 0 0 5\n7 0 0 0 -9 6\n" ∷ "refused 13 4 0\n" ∷ [])
unfolding answer word integer fault_at field_of spelled
lines = refl

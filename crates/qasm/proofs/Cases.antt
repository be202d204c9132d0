-- Laboratories' texts and what import says of them, by computing.
use mathlib.Core.Path.{◌≡◌, refl}
use mathlib.Core.Bool.{true, false}
use mathlib.Core.List.{[], ◌∷◌, ◌++◌, map}
use Prim.Native.String.{String}
use lib.IntN.{pos, negsuc}
use Rattle.rules.specs.Refusal.{fault_at}
use Rattle.text.specs.Bytes.{bytes}
use Rattle.text.specs.Printing.{printed}
use Rattle.text.specs.Reading.{word, integer}
use Rattle.qasm.specs.Table.{template, spelled, field_of}
use Rattle.qasm.specs.Import.{Import, wrong, many, large, list, version_line, include_line, read_qasm}
use Rattle.qasm.specs.Export.{qasm_text, unspelled}

-- at most two gates
abbrev said : String → Import
said s = read_qasm 2 (bytes s)

-- the two opening lines, and what comes behind them
abbrev behind : String → Import
behind s = read_qasm 2 (version_line ++ (include_line ++ bytes s))

-- version, include, a line that is missing or not ended by LF, CR LF, a byte order mark
openings : map said (
    "OPENQASM 2;\ninclude \"qelib1.inc\";\n" ∷ "OPENQASM 2.0;\ninclude  \"qelib1.inc\";\n" ∷ "" ∷ "OPENQASM 2.0;\n" ∷ "OPENQASM 2.0;\ninclude \"qelib1.inc\";"
    ∷ "OPENQASM 2.0;\r\ninclude \"qelib1.inc\";\r\n" ∷ "ï»¿OPENQASM 2.0;\ninclude \"qelib1.inc\";\n" ∷ [])
    ≡ wrong 1 ∷ wrong 2 ∷ wrong 1 ∷ wrong 2 ∷ wrong 2 ∷ wrong 1 ∷ wrong 1 ∷ []
unfolding read_qasm word integer fault_at field_of spelled
openings = refl

-- registers: none, one of the two, of size 0, in the other order, late, again; sizes at and beyond the limit of each and beyond a number; a leading zero
registers : map behind (
    "" ∷ "creg c[2];\n" ∷ "qreg q[0];\n" ∷ "creg c[0];\n" ∷ "creg c[1];\nqreg q[1];\n" ∷ "qreg q[1];\nx q[0];\ncreg c[1];\n" ∷ "qreg q[1];\nqreg q[1];\n"
    ∷ "qreg q[4096];\n" ∷ "qreg q[4097];\n" ∷ "creg c[1024];\n" ∷ "creg c[1025];\n" ∷ "qreg q[2147483648];\n" ∷ "qreg q[5000];\nx q[4999];\n" ∷ "qreg q[01];\n" ∷ "qreg q[-1];\n" ∷ [])
    ≡ list 0 0 [] ∷ list 0 2 [] ∷ wrong 3 ∷ wrong 3 ∷ wrong 4 ∷ wrong 5 ∷ wrong 4
    ∷ list 4096 0 [] ∷ large ∷ list 0 1024 [] ∷ large ∷ wrong 3 ∷ large ∷ wrong 3 ∷ wrong 3 ∷ []
unfolding read_qasm word integer fault_at field_of spelled
registers = refl

-- a last line without LF, blank lines, comments; angles and numbers; blanks; whole registers; other names; a wire twice
statements : map behind (
    "qreg q[1];\nx q[0];" ∷ "\n" ∷ "// by hand\n" ∷ "qreg q[1];\nx q[0];\n\n"
    ∷ "qreg q[1];\nrz(pi/4) q[0];\n" ∷ "qreg q[1];\nrz(-0*pi/4) q[0];\n" ∷ "qreg q[1];\nrz(2147483648*pi/4) q[0];\n" ∷ "qreg q[1];\nx q[00];\n"
    ∷ "qreg q[2];\ncx q[0], q[1];\n" ∷ "qreg q[1];\ncreg c[1];\nmeasure q[0]->c[0];\n" ∷ "qreg q[1];\ncreg c[1];\nmeasure q -> c;\n" ∷ "qreg q[1];\nx q;\n"
    ∷ "qreg q[2];\nswap q[0],q[1];\n" ∷ "qreg q[3];\nccx q[0],q[1],q[0];\n" ∷ "qreg q[1];\nmeasure q[0] -> c[0];\n" ∷ "qreg q[1];\nx q[1];\n" ∷ "qreg q[1];\nx q[-1];\n" ∷ [])
    ≡ wrong 4 ∷ wrong 3 ∷ wrong 3 ∷ wrong 5
    ∷ wrong 4 ∷ wrong 4 ∷ wrong 4 ∷ wrong 4
    ∷ wrong 4 ∷ wrong 5 ∷ wrong 5 ∷ wrong 4
    ∷ wrong 4 ∷ wrong 4 ∷ wrong 4 ∷ wrong 4 ∷ wrong 4 ∷ []
unfolding read_qasm word integer fault_at field_of spelled
statements = refl

-- each gate has its statement's line, the opening counted; a turn is kept as it stands, at both ends too; a bit and a wire of the same number; a third gate is one too many, and a wrong line wins over it
gates : map behind (
    "qreg q[1];\nrz(1*pi/4) q[0];\nrz(-9*pi/4) q[0];\n" ∷ "qreg q[1];\nrz(-2147483648*pi/4) q[0];\n" ∷ "qreg q[1];\ncreg c[1];\nmeasure q[0] -> c[0];\nreset q[0];\n"
    ∷ "qreg q[3];\nccx q[2],q[0],q[1];\ncz q[1],q[0];\n" ∷ "qreg q[1];\nx q[0];\nx q[0];\nx q[0];\n" ∷ "qreg q[1];\nx q[0];\nx q[0];\nx q[0];\ny\n" ∷ "qreg q[4097];\nx q[0];\nx q[0];\nx q[0];\n" ∷ [])
    ≡ list 1 0 (pos 7 ∷ pos 0 ∷ pos 0 ∷ pos 0 ∷ pos 1 ∷ pos 4 ∷ pos 7 ∷ pos 0 ∷ pos 0 ∷ pos 0 ∷ negsuc 8 ∷ pos 5 ∷ [])
    ∷ list 1 0 (pos 7 ∷ pos 0 ∷ pos 0 ∷ pos 0 ∷ negsuc 2147483647 ∷ pos 4 ∷ [])
    ∷ list 1 1 (pos 27 ∷ pos 0 ∷ pos 0 ∷ pos 0 ∷ pos 0 ∷ pos 5 ∷ pos 13 ∷ pos 0 ∷ pos 0 ∷ pos 0 ∷ pos 0 ∷ pos 6 ∷ [])
    ∷ list 3 0 (pos 24 ∷ pos 2 ∷ pos 0 ∷ pos 1 ∷ pos 0 ∷ pos 4 ∷ pos 9 ∷ pos 1 ∷ pos 0 ∷ pos 0 ∷ pos 0 ∷ pos 5 ∷ [])
    ∷ many ∷ wrong 7 ∷ many ∷ []
unfolding read_qasm word integer fault_at field_of spelled
gates = refl

-- every spelling, whatever the line; and the codes that have none
spelt : qasm_text 3 1 (
    pos 1 ∷ pos 0 ∷ pos 0 ∷ pos 0 ∷ pos 0 ∷ pos 77 ∷ pos 2 ∷ pos 0 ∷ pos 0 ∷ pos 0 ∷ pos 0 ∷ pos 2147483647 ∷ pos 3 ∷ pos 0 ∷ pos 0 ∷ pos 0 ∷ pos 0 ∷ pos 0 ∷ pos 4 ∷ pos 0 ∷ pos 0 ∷ pos 0 ∷ pos 0 ∷ pos 0
    ∷ pos 5 ∷ pos 0 ∷ pos 0 ∷ pos 0 ∷ pos 0 ∷ pos 0 ∷ pos 6 ∷ pos 0 ∷ pos 0 ∷ pos 0 ∷ pos 0 ∷ pos 0 ∷ pos 7 ∷ pos 0 ∷ pos 0 ∷ pos 0 ∷ negsuc 2 ∷ pos 0 ∷ pos 8 ∷ pos 0 ∷ pos 1 ∷ pos 0 ∷ pos 0 ∷ pos 0
    ∷ pos 9 ∷ pos 0 ∷ pos 1 ∷ pos 0 ∷ pos 0 ∷ pos 0 ∷ pos 10 ∷ pos 0 ∷ pos 0 ∷ pos 0 ∷ pos 0 ∷ pos 0 ∷ pos 11 ∷ pos 0 ∷ pos 0 ∷ pos 0 ∷ pos 0 ∷ pos 0 ∷ pos 13 ∷ pos 0 ∷ pos 0 ∷ pos 0 ∷ pos 0 ∷ pos 0
    ∷ pos 24 ∷ pos 0 ∷ pos 1 ∷ pos 2 ∷ pos 0 ∷ pos 0 ∷ pos 27 ∷ pos 2 ∷ pos 0 ∷ pos 0 ∷ pos 0 ∷ pos 0 ∷ [])
    ≡ version_line ++ (include_line ++ bytes "qreg q[3];\ncreg c[1];\nx q[0];\nt q[0];\ntdg q[0];\ns q[0];\nsdg q[0];\nz q[0];\nrz(-3*pi/4) q[0];\ncx q[0],q[1];\ncz q[0],q[1];\nh q[0];\ny q[0];\nreset q[0];\nccx q[0],q[1],q[2];\nmeasure q[2] -> c[0];\n")
unfolding qasm_text printed field_of template
spelt = refl

known : map spelled (0 ∷ 1 ∷ 2 ∷ 3 ∷ 4 ∷ 5 ∷ 6 ∷ 7 ∷ 8 ∷ 9 ∷ 10 ∷ 11 ∷ 12 ∷ 13 ∷ 14 ∷ 15 ∷ 16 ∷ 17 ∷ 18 ∷ 19 ∷ 20 ∷ 21 ∷ 22 ∷ 23 ∷ 24 ∷ 25 ∷ 26 ∷ 27 ∷ 28 ∷ [])
    ≡ false ∷ true ∷ true ∷ true ∷ true ∷ true ∷ true ∷ true ∷ true ∷ true ∷ true ∷ true ∷ false ∷ true ∷ false ∷ false ∷ false ∷ false ∷ false ∷ false ∷ false ∷ false ∷ false ∷ false ∷ true ∷ false ∷ false ∷ true ∷ false ∷ []
unfolding spelled
known = refl

-- no registers, one of the two; and the first gate that isn't spelled
bare-texts : qasm_text 0 0 [] ∷ qasm_text 0 2 [] ∷ [] ≡ (version_line ++ include_line) ∷ (version_line ++ (include_line ++ bytes "creg c[2];\n")) ∷ []
unfolding qasm_text printed field_of
bare-texts = refl

others : unspelled (pos 1 ∷ pos 0 ∷ pos 0 ∷ pos 0 ∷ pos 0 ∷ pos 3 ∷ pos 17 ∷ pos 0 ∷ pos 1 ∷ pos 0 ∷ pos 0 ∷ pos 4 ∷ []) ∷ unspelled (pos 1 ∷ pos 0 ∷ pos 0 ∷ pos 0 ∷ pos 0 ∷ pos 3 ∷ []) ∷ [] ≡ 1 ∷ 1 ∷ []
unfolding unspelled spelled
others = refl

-- A laboratory's texts traced, by computing: a block that is written again, a gate between, a block that is kept, one that leaves nothing, a refusal.
use mathlib.Core.Path.{◌≡◌, refl}
use mathlib.Core.List.{List, [], ◌∷◌, ◌++◌, map}
use Prim.Native.Nat.{ℕ}
use Prim.Native.String.{String}
use Rattle.rules.specs.Bit.{xor}
use Rattle.rules.specs.Refusal.{fault_at}
use Rattle.text.specs.Bytes.{bytes}
use Rattle.text.specs.Printing.{printed, decimal}
use Rattle.text.specs.Reading.{word, integer}
use Rattle.qasm.specs.Table.{template, field_of, spelled}
use Rattle.qasm.specs.Import.{version_line, include_line}
use Rattle.trace.specs.Answer.{answer}

-- what is printed for a text, behind its two opening lines
abbrev prints : String → List ℕ
prints s = (answer (version_line ++ (include_line ++ bytes s))).text

told : map prints (
    "qreg q[2];\nx q[0];\nt q[0];\nx q[0];\nh q[0];\ncx q[0],q[1];\nt q[1];\n" ∷ "qreg q[1];\nx q[0];\nx q[0];\nh q[0];\n"
    ∷ "" ∷ "qreg q[1];\nx q[1];\n" ∷ [])
    ≡ map bytes (
    "tdg q[0]; // lines 4 to 6\nh q[0]; // line 7\ncx q[0],q[1]; // line 8\nt q[1]; // line 9\n" ∷ "h q[0]; // line 6\n"
    ∷ "" ∷ "refused 13 4 0\n" ∷ [])
unfolding answer word integer fault_at printed decimal field_of spelled template xor
told = refl

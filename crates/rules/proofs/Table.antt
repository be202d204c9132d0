-- The small lists of document 01, those marked P first: one table, and the definitions give what it says.
use mathlib.Core.Path.{◌≡◌, refl}
use mathlib.Core.Bool.{Bool, true, false, ◌&&◌}
use mathlib.Core.List.{List, [], ◌∷◌, map}
use Prim.Native.Nat.{ℕ, zero, ◌+◌, ◌%◌}
use lib.IntN.{ℤ, pos, negsuc}
use lib.ListN.{length}
use Rattle.rules.specs.Gate.{Gate, gate1, gate2, code_x, code_t, code_tdg, code_s, code_rz, code_cnot, code_cz, code_p}
use Rattle.rules.specs.Bit.{xor}
use Rattle.rules.specs.Meaning.{turn8, op, op_of, when1, moved, added, wires, phases, Alike}
use Rattle.rules.specs.Counts.{twos, ts}
use Rattle.rules.specs.Synth.{resynthesis}
use Rattle.rules.specs.Scan.{Result}
use Rattle.rules.specs.Lines.{with_line}
use Rattle.rules.specs.Pass.{pass, counts}

abbrev x : ℕ → Gate
x q = gate1 code_x q

abbrev t : ℕ → Gate
t q = gate1 code_t q

abbrev tdg : ℕ → Gate
tdg q = gate1 code_tdg q

abbrev s : ℕ → Gate
s q = gate1 code_s q

abbrev h : ℕ → Gate
h q = gate1 10 q

abbrev by : ℕ → ℤ → ℕ → Gate
by c k q = record { code = c; first = q; second = zero; third = zero; turn = k; line = zero }

abbrev rz : ℤ → ℕ → Gate
rz k q = by code_rz k q

abbrev cnot : ℕ → ℕ → Gate
cnot p q = gate2 code_cnot p q

abbrev cz : ℕ → ℕ → Gate
cz p q = gate2 code_cz p q

record Case : Type 0 where
  qubits : ℕ
  terms : ℕ
  list : List Gate
  result : List Gate
  blocks : ℕ
  replaced : ℕ

abbrev plain : List Gate → List Gate → ℕ → ℕ → Case
plain l r b k = record { qubits = 128; terms = 512; list = l; result = r; blocks = b; replaced = k }

abbrev kept : List Gate → Case
kept l = plain l l 1 0

abbrev cases : List Case
cases =
    plain [] [] 0 0
    ∷ kept (t 0 ∷ [])
    ∷ plain (t 0 ∷ t 0 ∷ []) (s 0 ∷ []) 1 1
    ∷ kept (rz (pos 1) 0 ∷ [])
    ∷ plain (rz (negsuc 7) 0 ∷ []) [] 1 1
    ∷ plain (x 0 ∷ t 0 ∷ x 0 ∷ []) (tdg 0 ∷ []) 1 1
    ∷ plain (cnot 0 1 ∷ t 0 ∷ t 0 ∷ []) (s 0 ∷ cnot 0 1 ∷ []) 1 1
    ∷ kept (cz 0 1 ∷ [])
    ∷ kept (cz 0 1 ∷ cz 0 1 ∷ [])
    ∷ kept (cnot 0 1 ∷ cnot 1 0 ∷ cnot 0 1 ∷ [])
    ∷ plain (cnot 0 1 ∷ t 1 ∷ cnot 0 1 ∷ cnot 0 1 ∷ t 1 ∷ cnot 0 1 ∷ []) (cnot 0 1 ∷ s 1 ∷ cnot 0 1 ∷ []) 1 1
    ∷ plain (rz (pos 3) 0 ∷ rz (pos 3) 1 ∷ cnot 0 1 ∷ cnot 0 1 ∷ []) (s 0 ∷ t 0 ∷ s 1 ∷ t 1 ∷ []) 1 1
    ∷ kept (rz (pos 3) 0 ∷ rz (pos 3) 1 ∷ rz (pos 3) 2 ∷ cnot 0 1 ∷ cnot 0 1 ∷ [])
    ∷ record { qubits = 1; terms = 512; list = t 0 ∷ t 0 ∷ cnot 0 1 ∷ t 0 ∷ t 0 ∷ []; result = s 0 ∷ cnot 0 1 ∷ s 0 ∷ []; blocks = 2; replaced = 2 }
    ∷ record { qubits = 128; terms = 1; list = rz (pos 0) 0 ∷ t 1 ∷ []; result = t 1 ∷ []; blocks = 2; replaced = 1 }
    -- not marked: an opaque gate between two blocks; a rotation of a parity that has its term, and of one that would need a term more
    ∷ plain (t 0 ∷ t 0 ∷ h 0 ∷ t 0 ∷ t 0 ∷ []) (s 0 ∷ h 0 ∷ s 0 ∷ []) 2 2
    ∷ record { qubits = 128; terms = 1; list = cz 0 1 ∷ t 0 ∷ []; result = cz 0 1 ∷ t 0 ∷ []; blocks = 1; replaced = 0 }
    ∷ record { qubits = 128; terms = 1; list = cz 0 1 ∷ t 2 ∷ []; result = cz 0 1 ∷ t 2 ∷ []; blocks = 2; replaced = 0 }
    ∷ []

-- what the pass gives, and what the table says
abbrev got : Case → Result
got c = pass c.qubits c.terms c.list

abbrev wanted : Case → Result
wanted c = record { gates = c.result; blocks = c.blocks; replaced = c.replaced }

pub table : map got cases ≡ map wanted cases
unfolding pass xor
table = refl

-- ---- what two of the kept blocks are written again to

-- gates, and CNOT and CZ among them
abbrev sizes : List Gate → ℕ × ℕ
sizes gs = (length gs, twos gs)

abbrev three : List Gate
three = cnot 0 1 ∷ cnot 1 0 ∷ cnot 0 1 ∷ []

abbrev five : List Gate
five = rz (pos 3) 0 ∷ rz (pos 3) 1 ∷ rz (pos 3) 2 ∷ cnot 0 1 ∷ cnot 0 1 ∷ []

-- "ties at 3"
pub ties : (resynthesis three ≡ cnot 1 0 ∷ cnot 0 1 ∷ cnot 1 0 ∷ []) × (sizes (resynthesis three) ≡ (3, 3)) × (sizes three ≡ (3, 3))
unfolding resynthesis xor twos
ties = (refl, refl, refl)

-- "6 gates against 5", though none of the 6 is a CNOT
pub longer : (resynthesis five ≡ s 0 ∷ t 0 ∷ s 1 ∷ t 1 ∷ s 2 ∷ t 2 ∷ []) × (sizes (resynthesis five) ≡ (6, 0)) × (sizes five ≡ (5, 2))
unfolding resynthesis xor twos
longer = (refl, refl, refl)

-- ---- T as the machine spends it

-- document 02's list: rz(1)0 rz(0)0 comes out as t0, and T stays 1
abbrev spun : List Gate
spun = rz (pos 1) 0 ∷ rz (pos 0) 0 ∷ []

pub stays : ((pass 128 512 spun).gates ≡ t 0 ∷ [])
    × (counts spun (pass 128 512 spun) ≡ record { gates_in = 2; gates_out = 1; twos_in = 0; twos_out = 0; t_in = 1; t_out = 1; blocks = 1; replaced = 1 })
unfolding counts pass xor
stays = (refl, refl)

-- t, tdg, rz and p by an odd turn, -1 and the greatest number too; not by an even one, nor s, rx, cp and crz by whatever turn
pub spending : map (λ (g : Gate). ts (g ∷ []))
    (t 0 ∷ tdg 0 ∷ rz (negsuc 0) 0 ∷ rz (pos 2147483647) 0 ∷ by code_p (pos 1) 0 ∷ by code_p (negsuc 8) 0
    ∷ rz (pos 0) 0 ∷ rz (negsuc 1) 0 ∷ rz (negsuc 2147483647) 0 ∷ by code_p (pos 4) 0 ∷ s 0 ∷ by 15 (pos 1) 0 ∷ by 20 (pos 1) 0 ∷ by 23 (negsuc 0) 0 ∷ [])
    ≡ 1 ∷ 1 ∷ 1 ∷ 1 ∷ 1 ∷ 1 ∷ 0 ∷ 0 ∷ 0 ∷ 0 ∷ 0 ∷ 0 ∷ 0 ∷ 0 ∷ []
unfolding ts
spending = refl

-- ---- lines

abbrev on : Gate → ℕ → Gate
on g n = with_line n g

-- a replaced block has the line of its first gate, be it the largest; one that is kept, and gates outside any block, have their own
pub lining :
    ((pass 128 512 (on (cnot 0 1) 9 ∷ on (t 0) 3 ∷ t 0 ∷ [])).gates ≡ on (s 0) 9 ∷ on (cnot 0 1) 9 ∷ [])
    × ((pass 1 512 (on (t 0) 9 ∷ on (t 0) 8 ∷ on (cnot 0 1) 7 ∷ [])).gates ≡ on (s 0) 9 ∷ on (cnot 0 1) 7 ∷ [])
    × ((pass 128 512 (on (cz 0 1) 4 ∷ on (cz 0 1) 5 ∷ on (h 0) 6 ∷ t 0 ∷ on (t 0) 7 ∷ [])).gates ≡ on (cz 0 1) 4 ∷ on (cz 0 1) 5 ∷ on (h 0) 6 ∷ s 0 ∷ [])
unfolding pass xor
lining = (refl, refl, refl)

-- ---- turns

-- -1, -8, and the least and the greatest number of 32 signed bits
pub turns : map turn8 (negsuc 0 ∷ negsuc 7 ∷ negsuc 2147483647 ∷ pos 2147483647 ∷ []) ≡ 7 ∷ 0 ∷ 0 ∷ 7 ∷ []
turns = refl

-- ---- cz01 cz01 acts as the empty list, though it is kept

pub undone : Alike (map op (cz 0 1 ∷ cz 0 1 ∷ [])) []
unfolding op op_of wires phases moved added
undone = record { same = λ u q. refl; constant = 0; phase = λ u. twice (u 0 && u 1) }
  where
    twice : (b : Bool) → (0 + (when1 b 4 + (when1 b 4 + 0))) % 8 ≡ 0
    twice true = refl
    twice false = refl

-- A gate's numbers as the code loads them, and what is wrong with them.
use Rattle.std.specs.Prelude.{List, ℕ, ℤ}
use Rattle.rules.specs.Numbers.{nat_of, field}
use Rattle.rules.specs.Refusal.{Fault, none, first_number, gate_tests}
use Rattle.gate.specs.declared.Fields.{Fields}

abbrev pub fields_at : List ℤ → ℕ → Fields
fields_at l i = record {
  code = nat_of (field l i 0);
  first = field l i 1;
  second = field l i 2;
  third = field l i 3;
  turn = field l i 4;
  line = field l i 5;
}

-- the fault of a gate of these fields
abbrev pub fault_of : Fields → ℕ → ℕ → Fault
fault_of f w b = first_number (gate_tests f.code w b f.first f.second f.third f.turn f.line) none

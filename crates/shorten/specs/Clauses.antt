-- What the entry point promises of every text.
use Rattle.std.specs.Prelude.{◌≡◌, false, List, ℕ, ℤ, take}
use Rattle.rules.specs.Numbers.{gates_of}
use Rattle.rules.specs.Plan.{plan_of}
use Rattle.rules.specs.Promise.{Promised}
use Rattle.rules.specs.Pass.{writer_of}
use Rattle.spelling.specs.Sizes.{list_gates}
use Rattle.saying.specs.Clauses.{Says}
use Rattle.saying.specs.declared.Said.{Said}
use Rattle.qasm.specs.Import.{list, read_qasm}
use Rattle.qasm.specs.Export.{relined}
use Rattle.shorten.specs.Answer.{answer}

-- demand 3, of the two texts. Both read as the same wires and bits; and the gates of the one that is printed stand to those of the one that
-- was read as demand 3 says, at the caps 128 and 512, and spend no more T. The lines of the new gates aren't printed: what is printed has lines of its own, and reads as
-- the new gates in all but their sixth numbers
pub record Kept (text printed : List ℕ) : Type 0 where
  pub wires : ℕ
  pub bits : ℕ
  pub old : List ℤ
  pub new : List ℤ
  pub blocks : ℕ
  pub replaced : ℕ
  pub reads : read_qasm list_gates text ≡ list wires bits old
  -- wrong: a gate of the pass that isn't spelled; a register lost
  pub reads-back : read_qasm list_gates printed ≡ list wires bits (relined wires bits new)
  -- wrong: an x lost; a dearer writing kept; the pass left out; a turn of 2 written as two t
  pub promised : let p = plan_of 128 512 in Promised (writer_of p) p (gates_of old) (record { gates = gates_of new; blocks = blocks; replaced = replaced })

-- every text is answered by the definition's bytes; and where they are no refusal, demand 3 holds of the two texts
pub record Shortens (text room : List ℕ) (r : Said) (room' : List ℕ) : Type 0 where
  pub says : Says (answer text) room r room'
  pub kept : r.refused ≡ false → Kept text (take r.length room')

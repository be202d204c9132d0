-- What the crate's functions ask and say.
use Rattle.std.specs.Prelude.{◌≡◌, false, List, ℕ, ◌^◌, ◌≤◌, ◌<◌, ℤ, take, Result, Ok, Err}
use Rattle.rules.specs.Limits.{max_wires, max_bits}
use Rattle.spelling.specs.Sizes.{list_gates}
use Rattle.spelling.specs.Texts.{Head}
use Rattle.spelling.specs.Reading.{read, read_text}
use Rattle.saying.specs.Answer.{answered, checked}
use Rattle.saying.specs.Reasons.{place_of, told}
use Rattle.saying.specs.declared.Reason.{Reason}
use Rattle.saying.specs.Clauses.{Says}
use Rattle.saying.specs.declared.Said.{Said}
use Rattle.qasm.specs.Import.{list, read_qasm}
use Rattle.qasm.specs.Export.{qasm_text, relined}
use Rattle.export.specs.Answer.{translated, answer}

-- wires and bits of an accepted list
pub record Sized (h : Head) : Type 0 where
  pub wires : h.wires ≤ max_wires
  pub bits : h.bits ≤ max_bits

-- an accepted list all of whose gates are spelled is translated; of any other the answer is the refusal
pub record Spelled (h : Head) (numbers : List ℤ) : Type 0 where
  pub sized : Sized h
  pub answer : checked translated h numbers ≡ answered (qasm_text h.wires h.bits numbers)

pub record Unspelled (h : Head) (numbers : List ℤ) (e : Reason) : Type 0 where
  pub answer : checked translated h numbers ≡ told e
  pub small : place_of e < 2 ^ 32

abbrev pub Spells : Head → List ℤ → Result Unit Reason → Type 0
Spells h numbers (Ok u) = Spelled h numbers
Spells h numbers (Err e) = Unspelled h numbers e

-- the list's text reads as a head and some gates' numbers; what is printed reads, as a laboratory's text, as the same wires, bits and gates, all but
-- their sixth numbers: these are now the lines of the text that is printed
pub record Translated (text printed : List ℕ) : Type 0 where
  pub head : Head
  pub numbers : List ℤ
  pub reads : read_text list_gates text ≡ read head numbers
  -- wrong: control and target exchanged; a cz spelled as a cx; a register of size 0 written
  pub reads-back : read_qasm list_gates printed ≡ list head.wires head.bits (relined head.wires head.bits numbers)

-- every text is answered by the definition's bytes; and where they are no refusal, wires, bits and gates are kept, lines dropped
pub record Exports (text room : List ℕ) (r : Said) (room' : List ℕ) : Type 0 where
  pub says : Says (answer text) room r room'
  pub translated : r.refused ≡ false → Translated text (take r.length room')

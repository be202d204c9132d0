-- What the crate's functions say.
use Rattle.std.specs.Prelude.{◌≡◌, false, List, ℕ, ◌*◌, ◌≤◌, ℤ, length, take, Result, Ok, Err}
use Rattle.rules.specs.Limits.{width}
use Rattle.rules.specs.Refusal.{accepted}
use Rattle.spelling.specs.Sizes.{list_bytes, list_gates}
use Rattle.spelling.specs.Reading.{read, read_text}
use Rattle.spelling.specs.Texts as Texts
use Rattle.spelling.specs.Heads.{head_of}
use Rattle.spelling.specs.declared.Head.{Head}
use Rattle.saying.specs.Answer.{Next, exact}
use Rattle.saying.specs.Clauses.{Says, Few, Declined}
use Rattle.saying.specs.declared.Said.{Said}
use Rattle.gate.specs.declared.Fault.TheVariants.{Limits}
use Rattle.saying.specs.declared.Reason.{Reason}
use Rattle.saying.specs.declared.Reason.TheVariants.{Unspelled, Many, List as OfList}
use Rattle.qasm.specs.declared.Wrong.{Wrong}
use Rattle.qasm.specs.declared.Wrong.TheVariants as Of
use Rattle.qasm.specs.declared.Wrong.TheVariants.{Line}
use Rattle.qasm.specs.Import.{list, read_qasm}
use Rattle.qasm.specs.Export.{qasm_text, relined}
use Rattle.import.specs.Answer.{head_for, answer_by, answer}

-- a text that isn't read: 13, 12 or 3
abbrev pub reason_of : Wrong → Reason
reason_of (Line k) = Unspelled k
reason_of Of.Many = Many 0
reason_of Of.Large = OfList (record { fault = Limits; place = 0 })

-- a list that was read is never refused
abbrev pub right : Texts.Head → List ℤ → Type 0
right h numbers = exact h numbers ≡ accepted

-- what a text that was read leaves in the numbers' room: whole gates, not too many, and all of them there. What the program says of them is the answer
pub record Held (text : List ℕ) (numbers' : List ℤ) (h : Head) (n : ℕ) : Type 0 where
  pub short : length text ≤ list_bytes
  pub most : n ≤ list_gates
  pub fits : width * n ≤ length numbers'
  pub few : Few (take (width * n) numbers')
  pub head : head_of h ≡ head_for h.wires h.bits
  pub reads : read_qasm list_gates text ≡ list h.wires h.bits (take (width * n) numbers')
  pub known : right (head_of h) (take (width * n) numbers')
  pub answer : (next : Next) → answer_by next text ≡ next (head_of h) (take (width * n) numbers')

abbrev pub Takes : List ℕ → List ℤ → Result (Head × ℕ) Reason → Type 0
Takes text numbers' (Ok p) = Held text numbers' p.0 p.1
Takes text numbers' (Err e) = Declined answer_by text e

-- the laboratory's text reads as wires, bits and gates; what is printed reads as their list; and export would print the text that was read
pub record Translated (text printed : List ℕ) : Type 0 where
  pub wires : ℕ
  pub bits : ℕ
  pub numbers : List ℤ
  pub reads : read_qasm list_gates text ≡ list wires bits numbers
  -- wrong: counts behind the list; a turn reduced
  pub reads-back : read_text list_gates printed ≡ read (head_for wires bits) numbers
  -- wrong: two spellings of one gate
  pub exports : qasm_text wires bits numbers ≡ text
  -- wrong: the gates counted, or the opening not: each gate's sixth number is the number of its statement's line
  pub lines : relined wires bits numbers ≡ numbers

-- every text is answered by the definition's bytes; and where they are no refusal, nothing is lost on the way
pub record Imports (text room : List ℕ) (r : Said) (room' : List ℕ) : Type 0 where
  pub says : Says (answer text) room r room'
  pub translated : r.refused ≡ false → Translated text (take r.length room')

-- What the crate's functions ask and say.
use Rattle.std.specs.Prelude.{◌≡◌, Option, None, Some, Result, Ok, Err, true, false, ◌||◌, cond, List, [], ◌∷◌, ℕ, ◌+◌, ◌*◌, ◌/◌, ◌^◌, ◌≤◌, ◌<◌, eqb, ℤ, length, take}
use Prim.Native.Char.{code}
use Rattle.rules.specs.Limits.{width}
use Rattle.rules.specs.Pass.{over}
use Rattle.spelling.specs.Lines.{Lines, bad, good}
use Rattle.spelling.specs.Reading.{Rows}
use Rattle.qasm.specs.Table.{field_of}
use Rattle.qasm.specs.Import as Spec
use Rattle.qasm.specs.declared.Opening.{Opening}
use Rattle.qasm.specs.declared.Wrong.{Wrong}
use Rattle.qasm.specs.declared.Wrong.TheVariants.{Line, Many, Large}

-- ---- parts of the text

-- so many bytes have fewer lines than a gate's number can say
abbrev pub longest : ℕ
longest = 2 ^ 30

-- a byte of a template stands for itself, or for the number at a place
abbrev pub StandsFor : ℕ → Option ℕ → Type 0
StandsFor b None = eqb (field_of b) 0 ≡ true
StandsFor b (Some k) = (eqb (field_of b) 0 ≡ false) × (k ≡ field_of b) × (k < width)

-- what the first and the second byte of a statement tell of its code: their sum is the only one whose spelling can begin so
abbrev pub first_part : ℕ → ℕ
first_part b =
    cond (eqb b (code "x")) 1
    (cond (eqb b (code "t")) 2
    (cond (eqb b (code "s")) 4
    (cond (eqb b (code "z") || eqb b (code "r")) 6
    (cond (eqb b (code "c")) 8
    (cond (eqb b (code "h")) 10
    (cond (eqb b (code "y")) 11
    (cond (eqb b (code "m")) 20 0)))))))

abbrev pub second_part : ℕ → ℕ
second_part b = cond (eqb b (code "d") || eqb b (code "z")) 1 (cond (eqb b (code "e")) 7 (cond (eqb b (code "c")) 16 0))

-- the lines before the gates
abbrev pub ReadsOpening : Result Opening Wrong → Lines Spec.Registers → Type 0
ReadsOpening (Ok o) meant = meant ≡ good (record { wires = o.wires; bits = o.bits }) o.line o.rest.now
ReadsOpening (Err (Line k)) meant = meant ≡ bad k
ReadsOpening (Err Many) meant = ⊥
ReadsOpening (Err Large) meant = ⊥

-- the gates' lines
abbrev pub BodyEnds : Result ℕ Wrong → Rows → Type 0
BodyEnds (Ok n) meant = (k : ℕ) × (meant.behind ≡ good tt k []) × (length meant.numbers ≡ width * n)
BodyEnds (Err (Line k)) meant = meant.behind ≡ bad k
BodyEnds (Err Many) meant = ⊥
BodyEnds (Err Large) meant = ⊥

-- the numbers of at most so many gates stand first in the room
pub record ReadsBody (meant : Rows) (most : ℕ) (room room' : List ℤ) (r : Result ℕ Wrong) : Type 0 where
  pub lines : BodyEnds r meant
  pub numbers : room' ≡ over (take (width * most) meant.numbers) room

-- ---- how long it can be

-- a byte of a template, and a template, with any numbers
abbrev pub piece_size : ℕ → ℕ
piece_size b = cond (eqb (field_of b) 0) 1 11

unfoldable pub template_size : List ℕ → ℕ
template_size [] = 0
template_size (b ∷ t) = piece_size b + template_size t

-- a statement; a register; the lines before the gates; a text of so many numbers
abbrev pub statement_size : ℕ
statement_size = 50

abbrev pub register_size : ℕ
register_size = 21

abbrev pub opening_size : ℕ
opening_size = 78

abbrev pub qasm_size : ℕ → ℕ
qasm_size n = opening_size + statement_size * (n / width)

-- the registers' sizes are numbers of the text, and there is room
pub record Writable (wires bits : ℕ) (numbers : List ℤ) (room : List ℕ) (at : ℕ) : Type 0 where
  pub wires-fit : wires < 2 ^ 31
  pub bits_fit : bits < 2 ^ 31
  pub fits : at + qasm_size (length numbers) ≤ length room

-- ---- the whole text

-- the numbers read on the way, of at most so many gates: up to the first line that is wrong
abbrev pub met_lines : ℕ → Lines Spec.Registers → List ℤ
met_lines most (bad k) = []
met_lines most (good r k left) = take (width * most) (Spec.body (length left) r.wires r.bits k left).numbers

unfoldable pub met : ℕ → List ℕ → List ℤ
met most bs = met_lines most (Spec.opening bs)

-- the answer in the definition's terms; the gates' numbers are those that stand first in the room
abbrev pub answered : List ℤ → Result (ℕ × ℕ × ℕ) Wrong → Spec.Import
answered room (Err (Line k)) = Spec.wrong k
answered room (Err Many) = Spec.many
answered room (Err Large) = Spec.large
answered room (Ok x) = Spec.list x.0 x.1 (take (width * x.2) room)

-- a count of gates is that of the numbers read, and one of at most so many
abbrev pub Counts : ℕ → List ℤ → Result (ℕ × ℕ × ℕ) Wrong → Type 0
Counts most ns (Err e) = Unit {0}
Counts most ns (Ok x) = (length ns ≡ width * x.2) × (x.2 ≤ most)

-- the answer, and the room: what was read stands first, the rest is as it was
pub record ReadsQasm (text : List ℕ) (most : ℕ) (room room' : List ℤ) (r : Result (ℕ × ℕ × ℕ) Wrong) : Type 0 where
  pub answer : answered room' r ≡ Spec.read_qasm most text
  pub counts : Counts most (met most text) r
  pub numbers : room' ≡ over (met most text) room

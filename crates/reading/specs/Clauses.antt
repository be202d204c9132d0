-- What the crate's functions ask and say.
use Rattle.std.specs.Prelude.{◌≡◌, Option, None, Some, Result, Ok, Err, cond, List, [], ℕ, suc, ◌*◌, ◌^◌, ◌≤◌, ◌<◌, ltb, ℤ, length, take}
use Rattle.std.specs.Borrow.{Bor}
use Rattle.rules.specs.Limits.{width}
use Rattle.rules.specs.Pass.{over}
use Rattle.text.specs.Reading.{Found, none, found, count_line}
use Rattle.text.specs.Clauses.{Leaves}
use Rattle.spelling.specs.Lines.{Lines, bad, good}
use Rattle.spelling.specs.Texts as Texts
use Rattle.spelling.specs.Texts.{gates_word}
use Rattle.spelling.specs.Forms.{form_of}
use Rattle.spelling.specs.declared.Form.{Form}
use Rattle.spelling.specs.Reading as Spec
use Rattle.spelling.specs.Heads.{head_of}
use Rattle.spelling.specs.declared.Head.{Head}
use Rattle.reading.specs.declared.Listed.{Listed}
use Rattle.reading.specs.declared.Wrong.{Wrong}
use Rattle.reading.specs.declared.Wrong.TheVariants.{Line, Many}

-- ---- lines

-- what some lines come to, with a view of the value: the next line's number and the text behind them, or the number of the line that is wrong
abbrev pub ReadsLines : {A B : Type 0} → (A → B) → Result (A × ℕ × Bor (List ℕ)) Wrong → Lines B → Type 0
ReadsLines view (Ok x) meant = meant ≡ good (view x.0) x.1 x.2.now
ReadsLines view (Err (Line k)) meant = meant ≡ bad k
ReadsLines view (Err (Many k)) meant = ⊥

-- the form whose number was read
abbrev pub ReadsForm : Option (Form × Bor (List ℕ)) → Found ℕ → Type 0
ReadsForm None meant = meant ≡ none
ReadsForm (Some x) meant = (n : ℕ) × (meant ≡ found n x.1.now) × (form_of x.0 ≡ Texts.form_of n)

-- a line of numbers: they stand first in the room, up to the first that is not right
pub record ReadsRow (result : Option (Bor (List ℕ))) (meant : Spec.Row) (room room' : List ℤ) : Type 0 where
  pub exact : Leaves tt result meant.behind
  pub numbers : room' ≡ over meant.numbers room

-- likewise of lines with no value but their numbers
abbrev pub RowsEnd : Result (ℕ × Bor (List ℕ)) Wrong → Lines Unit → Type 0
RowsEnd (Ok x) meant = meant ≡ good tt x.0 x.1.now
RowsEnd (Err (Line k)) meant = meant ≡ bad k
RowsEnd (Err (Many k)) meant = ⊥

-- the gates' lines: their numbers stand first in the room
pub record ReadsRows (result : Result (ℕ × Bor (List ℕ)) Wrong) (meant : Spec.Rows) (room room' : List ℤ) : Type 0 where
  pub lines : RowsEnd result meant.behind
  pub numbers : room' ≡ over meant.numbers room

-- ---- a list from a line on

-- line numbers are far from their end, and the room holds the numbers of the most gates
pub record Legible (line most : ℕ) (room : List ℤ) : Type 0 where
  pub early : line < 2 ^ 32
  pub holds : width * most ≤ length room

-- the numbers read on the way: all of the gates', or those before the first that is not right
abbrev pub met_count : ℕ → Texts.Form → ℕ → Found ℕ → List ℤ
met_count most f k none = []
met_count most f k (found n left) = let gates = Spec.rows f n (suc k) left in cond (ltb most n) [] gates.numbers

abbrev pub met_lines : ℕ → Lines Texts.Head → List ℤ
met_lines most (bad k) = []
met_lines most (good h k left) = met_count most h.form k (count_line gates_word left)

unfoldable pub met : ℕ → ℕ → List ℕ → List ℤ
met most k bs = met_lines most (Spec.head_at k bs)

-- the answer in the definition's terms; the numbers are those that stand first in the room
abbrev pub front_of : List ℤ → Result Listed Wrong → Spec.Front
front_of room (Err (Line k)) = Spec.wrong k
front_of room (Err (Many k)) = Spec.large k
front_of room (Ok l) = Spec.list (head_of l.head) (take (width * l.gates) room) l.line l.rest.now

-- a count of gates is that of the numbers
abbrev pub Ends : List ℤ → Result Listed Wrong → Type 0
Ends ns (Err e) = Unit {0}
Ends ns (Ok l) = length ns ≡ width * l.gates

-- the answer, and the room: what was read stands first, the rest is as it was
pub record ReadsList (text : List ℕ) (line most : ℕ) (room room' : List ℤ) (r : Result Listed Wrong) : Type 0 where
  pub answer : front_of room' r ≡ Spec.list_at most line text
  pub ends : Ends (met most line text) r
  pub numbers : room' ≡ over (met most line text) room

-- ---- the whole text

abbrev pub answered : List ℤ → Result (Head × ℕ) Wrong → Spec.Read
answered room (Err (Line k)) = Spec.malformed k
answered room (Err (Many k)) = Spec.many k
answered room (Ok x) = Spec.read (head_of x.0) (take (width * x.1) room)

abbrev pub Counts : List ℤ → Result (Head × ℕ) Wrong → Type 0
Counts ns (Err e) = Unit {0}
Counts ns (Ok x) = length ns ≡ width * x.1

pub record ReadsText (text : List ℕ) (most : ℕ) (room room' : List ℤ) (r : Result (Head × ℕ) Wrong) : Type 0 where
  pub answer : answered room' r ≡ Spec.read_text most text
  pub counts : Counts (met most 1 text) r
  pub numbers : room' ≡ over (met most 1 text) room

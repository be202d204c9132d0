-- From what reading says of each list to the answer.
use mathlib.Core.Path.{◌≡◌, sym, ap}
use mathlib.Core.List.{List}
use Prim.Native.Nat.{ℕ, ◌+◌, ◌*◌, ◌≤◌, ◌<◌}
use native.Mathlib.Omega.{arith}
use borrow.Author.Tests.{lt-ltb, le-ltb}
use lib.IntN.{ℤ}
use lib.ListN.{length, take, drop, length-append}
use lib.Seq.{length-take-le}
use Rattle.rules.specs.Limits.{width}
use Rattle.spelling.specs.Sizes.{list_bytes, list_gates}
use Rattle.spelling.specs.Reading.{Front, wrong, large, list, list_at}
use Rattle.spelling.specs.Heads.{head_of}
use Rattle.spelling.proofs.Spelling.{list_read}
use Rattle.std.specs.Prelude.{Ok, Err}
use Rattle.reading.specs.Clauses.{ReadsList, front_of, met}
use Rattle.reading.specs.declared.Wrong.{Wrong}
use Rattle.reading.specs.declared.Wrong.TheVariants.{Line, Many}
use Rattle.saying.specs.Reasons.{place_of, reason_of}
use Rattle.reading.specs.declared.Listed.{Listed}
use Rattle.saying.proofs.Places.{front_line, front-line}
use Rattle.pair.specs.Answer.{refusal, first_as, answer}

-- ---- reading

-- a list that was read: whole in its room, with few gates
pub record Stands (text : List ℕ) (line : ℕ) (room' : List ℤ) (l : Listed) : Type 0 where
  pub is : list_at list_gates line text ≡ list (head_of l.head) (take (width * l.gates) room') l.line l.rest.now
  pub most : l.gates ≤ list_gates
  pub fits : width * l.gates ≤ length room'

pub list_stands : (text : List ℕ) (line : ℕ) (room room' : List ℤ) (l : Listed) → ReadsList text line list_gates room room' (Ok l) → Stands text line room' l
list_stands text line room room' l t =
    let is : list_at list_gates line text ≡ list (head_of l.head) (take (width * l.gates) room') l.line l.rest.now = sym t.answer in
    let numbers : List ℤ = met list_gates line text in
    let fits : width * l.gates ≤ length room' = omega (arith, t.ends, ap length t.numbers, length-append numbers (drop (length numbers) room)) in
    let few = (list_read list_gates line (head_of l.head) (take (width * l.gates) room') text l.line l.rest.now is).1 in
    record { is = is; most = omega (arith, few.few, length-take-le (width * l.gates) room' fits); fits = fits }

-- line numbers are small
pub line_small : (line : ℕ) (bs : List ℕ) (o : Front) → list_at list_gates line bs ≡ o → front_line o ≤ line + 1000
line_small line bs o e = omega (arith, ap front_line e, front-line list_gates line bs)

pub wrong-small : (line : ℕ) (bs : List ℕ) (room : List ℤ) (w : Wrong) → front_of room (Err w) ≡ list_at list_gates line bs → place_of (reason_of w) ≤ line + 1000
wrong-small line bs room (Line k) e = line_small line bs (wrong k) (sym e)
wrong-small line bs room (Many k) e = line_small line bs (large k) (sym e)

-- ---- the text

pub answer-long : (text : List ℕ) → list_bytes < length text → answer text ≡ refusal 0 10 0 0
unfolding answer
answer-long text h = rw (lt-ltb list_bytes (length text) h)

pub answer-read : (text : List ℕ) (o : Front) → length text ≤ list_bytes → list_at list_gates 1 text ≡ o → answer text ≡ first_as o
unfolding answer
answer-read text o h e = rw (le-ltb list_bytes (length text) h) (ap first_as e)

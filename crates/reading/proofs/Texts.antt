-- A list, by where its reading ends; and the whole text.
use mathlib.Core.Path.{◌≡◌, refl, sym, ap, ◌∙◌}
use mathlib.Core.Bool.{true, false}
use mathlib.Core.List.{List, [], ◌∷◌, ◌++◌}
use Prim.Native.Nat.{ℕ, zero, suc, ◌+◌, ◌*◌, ◌≤◌, ◌<◌}
use native.Mathlib.Numerals.{add-one}
use native.Mathlib.Omega.{arith}
use borrow.Author.Tests.{lt-ltb, le-ltb, eqb-true, eqb-false}
use lib.Dec.{eqb}
use Rattle.std.proofs.lemmas.List.{nil_from_length}
use lib.IntN.{ℤ}
use lib.ListN.{length, take, drop, length-append}
use lib.Seq.{take_at}
use Rattle.rules.specs.Limits.{width}
use Rattle.rules.specs.Pass.{over}
use Rattle.text.specs.Reading.{Found, none, found, onward, count_line}
use Rattle.spelling.specs.Lines.{bad, good}
use Rattle.spelling.specs.Texts.{Form, gates_word}
use Rattle.spelling.specs.Forms.{form_of}
use Rattle.spelling.specs.Reading.{gate_row, Rows, rows, list, head_at, gathered, list_at, ending, read_text}
use Rattle.spelling.specs.Heads.{head_of}
use Rattle.spelling.specs.declared.Head as Code
use Rattle.spelling.proofs.Spelling.{apart}
use Rattle.std.specs.Prelude.{Ok, Err}
use Rattle.std.specs.Borrow.{Bor}
use Rattle.reading.specs.Clauses.{ReadsLines, RowsEnd, ReadsList, ReadsText, met}
use Rattle.reading.specs.declared.Listed.{Listed}
use Rattle.reading.specs.declared.Wrong.{Wrong}
use Rattle.reading.specs.declared.Wrong.TheVariants.{Line, Many}
use Rattle.reading.proofs.Gates.{gate-sized}

-- lines that are all right have all their numbers
rows-full : (f : Form) (n k : ℕ) (bs : List ℕ) (u : Unit) (i : ℕ) (left : List ℕ) → (rows f n k bs).behind ≡ good u i left → length (rows f n k bs).numbers ≡ width * n
unfolding rows
rows-full f zero k bs u i left h = refl
rows-full f (suc n) k bs u i left h = go (gate_row f bs).behind (gate-sized f bs).full (λ rest. rows-full f n (suc k) rest u i left) h
  where
    go : (o : Found Unit) → ((w : Unit) (rest : List ℕ) → o ≡ found w rest → length (gate_row f bs).numbers ≡ width)
        → ((rest : List ℕ) → (rows f n (suc k) rest).behind ≡ good u i left → length (rows f n (suc k) rest).numbers ≡ width * n)
        → (let r = onward {B = Rows} o (record { numbers = (gate_row f bs).numbers; behind = bad k }) (λ w rest. record { numbers = (gate_row f bs).numbers ++ (rows f n (suc k) rest).numbers; behind = (rows f n (suc k) rest).behind }) in
        r.behind ≡ good u i left → length r.numbers ≡ width * suc n)
    go none m g h = apart k u i left h
    go (found w rest) m g h = simp length-append (omega (arith, m w rest refl, g rest h))

-- ---- a list: the five ways

module _ (text : List ℕ) (line most : ℕ) (room : List ℤ) where
  pub bad-head : (e : Wrong) → ReadsLines head_of (Err e) (head_at line text) → ReadsList text line most room room (Err e)
  unfolding list_at met
  bad-head (Line k) h = record { answer = rw h; ends = tt; numbers = rw h }
  bad-head (Many k) h = absurd h

  module _ (h : Code.Head) (k : ℕ) (left : List ℕ) (e : head_at line text ≡ good (head_of h) k left) where
    pub bad-count : count_line gates_word left ≡ none → ReadsList text line most room room (Err (Line k))
    unfolding list_at met
    bad-count f = record { answer = rw (e, f); ends = tt; numbers = rw (e, f) }

    module _ (n : ℕ) (rest : List ℕ) (f : count_line gates_word left ≡ found n rest) where
      pub too_many : most < n → ReadsList text line most room room (Err (Many k))
      unfolding list_at met
      too_many g = record { answer = rw (e, f, lt-ltb most n g); ends = tt; numbers = rw (e, f, lt-ltb most n g) }

      module _ (g : n ≤ most) (room' : List ℤ) where
        abbrev gates : Rows
        gates = rows (form_of h.form) n (k + 1) rest

        met-is : met most line text ≡ gates.numbers
        unfolding met
        met-is = rw (e, f, le-ltb most n g, add-one k)

        comes-to : list_at most line text ≡ gathered (head_of h) gates.numbers gates.behind
        unfolding list_at
        comes-to = rw (e, f, le-ltb most n g, add-one k)

        module _ (stand : room' ≡ over gates.numbers room) where
          stands : room' ≡ over (met most line text) room
          stands = stand ∙ rw met-is refl

          pub not_all : (x : Wrong) → RowsEnd (Err x) gates.behind → ReadsList text line most room room' (Err x)
          not_all (Line i) t = record { answer = sym (comes-to ∙ rw t refl); ends = tt; numbers = stands }
          not_all (Many i) t = absurd t

          pub all_read : (i : ℕ) (end : Bor (List ℕ)) → gates.behind ≡ good tt i end.now
              → ReadsList text line most room room' (Ok (record { head = h; gates = n; line = i; rest = end }))
          all_read i end t =
              let full : length gates.numbers ≡ width * n = rows-full (form_of h.form) n (k + 1) rest tt i end.now t in
              let first : take (width * n) room' ≡ gates.numbers = rw stand (take_at gates.numbers (drop (length gates.numbers) room) (width * n) full) in
              record {
                answer = ap (λ (ns : List ℤ). list (head_of h) ns i end.now) first ∙ sym (comes-to ∙ rw t refl);
                ends = ap length met-is ∙ full;
                numbers = stands;
              }

-- ---- the whole text, by what its list comes to

module _ (text : List ℕ) (most : ℕ) (room room' : List ℤ) where
  pub text-wrong : (e : Wrong) → ReadsList text 1 most room room' (Err e) → ReadsText text most room room' (Err e)
  unfolding read_text
  text-wrong (Line k) r = record { answer = ap ending r.answer; counts = tt; numbers = r.numbers }
  text-wrong (Many k) r = record { answer = ap ending r.answer; counts = tt; numbers = r.numbers }

  module _ (l : Listed) (r : ReadsList text 1 most room room' (Ok l)) where
    left_is : (left : List ℕ) → l.rest.now ≡ left → ending (list (head_of l.head) (take (width * l.gates) room') l.line left) ≡ read_text most text
    unfolding read_text
    left_is left e = ap (λ (x : List ℕ). ending (list (head_of l.head) (take (width * l.gates) room') l.line x)) (sym e) ∙ ap ending r.answer

    pub text-whole : eqb (length l.rest.now) 0 ≡ true → ReadsText text most room room' (Ok (l.head, l.gates))
    text-whole e = record { answer = left_is [] (nil_from_length l.rest.now (eqb-true (length l.rest.now) 0 e)); counts = r.ends; numbers = r.numbers }

    pub text-surplus : eqb (length l.rest.now) 0 ≡ false → ReadsText text most room room' (Err (Line l.line))
    text-surplus e = go l.rest.now refl
      where
        go : (left : List ℕ) → l.rest.now ≡ left → ReadsText text most room room' (Err (Line l.line))
        go [] is = absurd (eqb-false (length l.rest.now) 0 e (ap length is))
        go (b ∷ bs) is = record { answer = left_is (b ∷ bs) is; counts = tt; numbers = r.numbers }

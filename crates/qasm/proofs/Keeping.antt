-- The gates that are kept while there is room, and what import says of the whole text.
use mathlib.Core.Path.{◌≡◌, refl, sym, ap, ◌∙◌}
use mathlib.Core.Bool.{true, false, ◌||◌}
use mathlib.Core.List.{List, [], ◌∷◌, ◌++◌, append_assoc}
use Prim.Native.Nat.{ℕ, suc, ◌+◌, ◌-◌, ◌*◌, ◌/◌, ◌≤◌, ◌<◌}
use native.Mathlib.Nat.{zero-add, sub-zero}
use native.Mathlib.Omega.{arith}
use borrow.Author.Tests.{lt-ltb, le-ltb}
use lib.Dec.{ltb}
use lib.IntN.{ℤ, pos}
use lib.ListN.{length, take, drop, length-set, length-append, length-take}
use lib.Seq.{take-nil, take_all, take_at, take-append-add, drop-drop}
use Rattle.std.specs.Prelude.{Ok, Err}
use Rattle.rules.specs.Limits.{width, max_wires, max_bits}
use Rattle.rules.specs.Pass.{over}
use Rattle.text.specs.Bytes.{pasted}
use Rattle.text.specs.Reading.{found, none}
use borrow.Rule.Slice.PartMut.{put_mid}
use Rattle.text.proofs.Pasting.{pasted-none, pasted-both}
use Rattle.spelling.specs.Reading.{Rows}
use Rattle.qasm.specs.Statement.{on_line, statement}
use Rattle.qasm.specs.Import.{opening, body, judged, gathered, read_qasm}
use Rattle.qasm.specs.Clauses.{ReadsOpening, ReadsBody, ReadsQasm, met}
use Rattle.qasm.specs.declared.Opening.{Opening}
use Rattle.qasm.specs.declared.Wrong.{Wrong}
use Rattle.qasm.specs.declared.Wrong.TheVariants.{Line, Many, Large}
use Rattle.qasm.proofs.Bodies.{body_end, body-stop, body-once}

-- ---- one gate more in the room

-- what is left of the gates that are kept
abbrev pub left : ℕ → ℕ → List ℤ → List ℤ
left most i ns = take (width * (most - i)) ns

kept-once : (room row others : List ℤ) (i most : ℕ) → length row ≡ width → width * most ≤ length room → i < most
    → pasted (pasted room (width * i) row) (width * (i + 1)) (left most (i + 1) others) ≡ pasted room (width * i) (left most i (row ++ others))
kept-once room row others i most size fits h =
    let j : width * (i + 1) ≡ width * i + length row = omega arith in
    let m : width * (most - i) ≡ length row + width * (most - (i + 1)) = omega arith in
    let few : width * i + length row + length (left most (i + 1) others) ≤ length room = simp length-take (omega arith) in
    rw (j, m, take-append-add row others (width * (most - (i + 1)))) (pasted-both room (width * i) row (left most (i + 1) others) few)

left-once : (room row others : List ℤ) (i most : ℕ) → most ≤ i → pasted room (width * (i + 1)) (left most (i + 1) others) ≡ pasted room (width * i) (left most i (row ++ others))
left-once room row others i most h =
    let m : width * (most - i) ≡ 0 = omega arith in
    let n : width * (most - (i + 1)) ≡ 0 = omega arith in
    rw (m, n) (pasted-none room (width * (i + 1)) ∙ sym (pasted-none room (width * i)))

-- ---- what the code knows on its way: what is left of the text comes to what all of it does

pub record Goes (whole rest : Rows) (most : ℕ) (room now : List ℤ) (i : ℕ) : Type 0 where
  pub behind : rest.behind ≡ whole.behind
  pub size : width * i + length rest.numbers ≡ length whole.numbers
  pub kept : pasted now (width * i) (left most i rest.numbers) ≡ pasted room 0 (left most 0 whole.numbers)

pub goes_first : (whole : Rows) (most : ℕ) (room : List ℤ) → Goes whole whole most room room 0
goes_first whole most room = record { behind = refl; size = omega arith; kept = refl }

-- one gate more: it is kept while there is room for it
module _ (whole : Rows) (most : ℕ) (room now : List ℤ) (i f w b k : ℕ) (bs : List ℕ) (row : List ℤ) (rest : List ℕ) (g : Goes whole (body (suc f) w b k bs) most room now i)
    (h : 1 ≤ length bs) (e : statement w b bs ≡ found row rest) where
  once : body (suc f) w b k bs ≡ record { numbers = on_line k row ++ (body f w b (suc k) rest).numbers; behind = (body f w b (suc k) rest).behind }
  once = body-once f w b k bs h row rest e

  goes_with : (now' : List ℤ) → length row ≡ width → pasted now' (width * (i + 1)) (left most (i + 1) (body f w b (suc k) rest).numbers) ≡ pasted now (width * i) (left most i (on_line k row ++ (body f w b (suc k) rest).numbers))
      → Goes whole (body f w b (suc k) rest) most room now' (i + 1)
  goes_with now' size kept = record {
    behind = sym (ap (λ (r : Rows). r.behind) once) ∙ g.behind;
    size = omega (arith, g.size, ap (λ (r : Rows). length r.numbers) once, length-append (on_line k row) (body f w b (suc k) rest).numbers, length-set row 5 (pos k));
    kept = kept ∙ sym (ap (λ (r : Rows). pasted now (width * i) (left most i r.numbers)) once) ∙ g.kept;
  }

  pub goes-kept : length row ≡ width → width * most ≤ length now → i < most → Goes whole (body f w b (suc k) rest) most room (pasted now (width * i) (on_line k row)) (i + 1)
  goes-kept size fits l = goes_with _ size (kept-once now (on_line k row) _ i most (length-set row 5 (pos k) ∙ size) fits l)

  pub goes-left : length row ≡ width → most ≤ i → Goes whole (body f w b (suc k) rest) most room now (i + 1)
  goes-left size l = goes_with now size (left-once now (on_line k row) _ i most l)

-- a row written where the gate's numbers belong
pub put-row : (room row : List ℤ) (i : ℕ) → length row ≡ width → put_mid (6 * i) (6 * (i + 1) - 6 * i) room row ≡ pasted room (width * i) row
put-row room row i h =
    let k : 6 * (i + 1) - 6 * i ≡ length row = omega arith in
    rw (k, drop-drop (length row) (6 * i) room) (sym (append_assoc (take (6 * i) room) row (drop (6 * i + length row) room)))

-- what stands from place 0 on stands first
first-kept : (room new : List ℤ) → pasted room 0 new ≡ over new room
first-kept room new = rw (zero-add (length new))

-- the room at the end, where no number is left
all-kept : (whole rest : Rows) (most : ℕ) (room now : List ℤ) (i : ℕ) → Goes whole rest most room now i → rest.numbers ≡ [] → now ≡ over (take (width * most) whole.numbers) room
all-kept whole rest most room now i g e =
    let none : left most i rest.numbers ≡ [] = ap (left most i) e ∙ take-nil (width * (most - i)) in
    sym (pasted-none now (width * i)) ∙ ap (pasted now (width * i)) (sym none) ∙ g.kept ∙ first-kept room (left most 0 whole.numbers) ∙ ap (λ (k : ℕ). over (take (width * k) whole.numbers) room) (sub-zero most)

pub goes-stop : (whole : Rows) (most : ℕ) (room now : List ℤ) (i f w b k : ℕ) (bs : List ℕ) → Goes whole (body (suc f) w b k bs) most room now i → 1 ≤ length bs → statement w b bs ≡ none
    → ReadsBody whole most room now (Err (Line k))
goes-stop whole most room now i f w b k bs g h e =
    let stop = body-stop f w b k bs h e in
    record { lines = sym g.behind ∙ ap (λ (r : Rows). r.behind) stop; numbers = all-kept whole (body (suc f) w b k bs) most room now i g (ap (λ (r : Rows). r.numbers) stop) }

pub goes_end : (whole : Rows) (most : ℕ) (room now : List ℤ) (i f w b k : ℕ) (bs : List ℕ) → length bs ≤ 0 → Goes whole (body f w b k bs) most room now i → ReadsBody whole most room now (Ok i)
goes_end whole most room now i f w b k [] h g =
    let end = body_end f w b k in
    record {
      lines = (k, sym g.behind ∙ ap (λ (r : Rows). r.behind) end, omega (arith, g.size, ap (λ (r : Rows). length r.numbers) end));
      numbers = all-kept whole (body f w b k []) most room now i g (ap (λ (r : Rows). r.numbers) end);
    }
goes_end whole most room now i f w b k (x ∷ bs) h g = absurd (omega arith)

-- ---- the whole text

module _ (text : List ℕ) (most : ℕ) (room : List ℤ) where
  pub wrong-opening : (e : Wrong) → ReadsOpening (Err e) (opening text) → ReadsQasm text most room room (Err e)
  unfolding read_qasm met
  wrong-opening (Line k) e = record { answer = rw e; counts = tt; numbers = rw e }
  wrong-opening Many e = absurd e
  wrong-opening Large e = absurd e

  module _ (o : Opening) (e : ReadsOpening (Ok o) (opening text)) (room' : List ℤ) where
    abbrev rows : Rows
    rows = body (length o.rest.now) o.wires o.bits o.line o.rest.now

    met-is : met most text ≡ take (width * most) rows.numbers
    unfolding met
    met-is = rw e

    comes-to : read_qasm most text ≡ gathered most (record { wires = o.wires; bits = o.bits }) rows.numbers rows.behind
    unfolding read_qasm
    comes-to = rw e

    pub wrong-line : (x : Wrong) → ReadsBody rows most room room' (Err x) → ReadsQasm text most room room' (Err x)
    wrong-line (Line k) b = record { answer = sym (comes-to ∙ rw b.lines); counts = tt; numbers = b.numbers ∙ rw met-is }
    wrong-line Many b = absurd b.lines
    wrong-line Large b = absurd b.lines

    module _ (n : ℕ) (b : ReadsBody rows most room room' (Ok n)) where
      gates : length rows.numbers / width ≡ n
      gates = omega (arith, b.lines.2)

      judged-is : read_qasm most text ≡ judged most (record { wires = o.wires; bits = o.bits }) rows.numbers
      judged-is = comes-to ∙ rw b.lines.1

      pub too-many : most < n → ReadsQasm text most room room' (Err Many)
      too-many h = record { answer = sym (judged-is ∙ rw (gates, lt-ltb most n h)); counts = tt; numbers = b.numbers ∙ rw met-is }

      pub too-large : n ≤ most → (ltb max_wires o.wires || ltb max_bits o.bits) ≡ true → ReadsQasm text most room room' (Err Large)
      too-large h f = record { answer = sym (judged-is ∙ rw (gates, le-ltb most n h, f)); counts = tt; numbers = b.numbers ∙ rw met-is }

      pub all_lines : n ≤ most → (ltb max_wires o.wires || ltb max_bits o.bits) ≡ false → ReadsQasm text most room room' (Ok (o.wires, o.bits, n))
      all_lines h f =
          let ns : List ℤ = rows.numbers in
          let size : length ns ≡ width * n = b.lines.2 in
          let all : take (width * most) ns ≡ ns = take_all (width * most) ns (omega arith) in
          let front : take (width * n) room' ≡ ns = ap (take (width * n)) (b.numbers ∙ ap (λ (l : List ℤ). over l room) all) ∙ take_at ns (drop (length ns) room) (width * n) size in
          record { answer = rw front (sym (judged-is ∙ rw (gates, le-ltb most n h, f))); counts = (ap length (met-is ∙ all) ∙ size, h); numbers = b.numbers ∙ rw met-is }

-- The gates' lines: a number more, a line more, and the room that they go into.
use mathlib.Core.Path.{◌≡◌, refl, sym, ap, ◌∙◌}
use mathlib.Core.List.{List, [], ◌∷◌, ◌++◌, append-nil, append_assoc}
use Prim.Native.Nat.{ℕ, zero, suc, ◌+◌, ◌-◌, ◌*◌, ◌≤◌, ◌<◌}
use native.Mathlib.Nat.{zero-add}
use native.Mathlib.Omega.{arith}
use lib.IntN.{ℤ, pos}
use lib.ListN.{length, take, drop, set, replicate, length-append, length-take, length-drop, take-append-drop, drop_of_length-le}
use borrow.Rule.Slice.PartMut.{put_mid}
use lib.Seq.{take_at, drop-drop}
use Rattle.std.specs.Prelude.{Option, None, Some, Result, Err}
use Rattle.std.specs.Option.{ok_or}
use Rattle.std.specs.Borrow.{Bor}
use Rattle.rules.specs.Limits.{width}
use Rattle.rules.specs.Pass.{over}
use Rattle.text.specs.Bytes.{pasted}
use Rattle.text.specs.Reading.{Found, none, found, onward, ended}
use Rattle.text.proofs.Lines.{absent}
use Rattle.text.proofs.Pasting.{pasted-front, pasted-both}
use Rattle.spelling.specs.Lines.{bad, good}
use Rattle.spelling.specs.Texts.{Form, per_gate, unsaid}
use Rattle.spelling.specs.Reading.{Row, row, gate_row, Rows, rows}
use Rattle.spelling.proofs.Forms.{per-gate-le, all_said}
use Rattle.spelling.proofs.Spelling.{ends}
use Rattle.reading.specs.Clauses.{ReadsRow}

-- ---- a number of a line

abbrev failed : {A E : Type 0} → E → Result A E
failed e = Err e

module _ (n k : ℕ) (bs : List ℕ) (h : k < n) where
  pub row_more : (v : ℤ) (left : List ℕ) → ended (ends (n - (k + 1))) bs ≡ found v left
      → row (n - k) bs ≡ record { numbers = v ∷ (row (n - (k + 1)) left).numbers; behind = (row (n - (k + 1)) left).behind }
  unfolding row
  row_more v left e =
      let s : n - k ≡ suc (n - (k + 1)) = omega arith in
      rw (s, e)

  pub row-stop : ended (ends (n - (k + 1))) bs ≡ none → row (n - k) bs ≡ record { numbers = []; behind = none }
  unfolding row
  row-stop e =
      let s : n - k ≡ suc (n - (k + 1)) = omega arith in
      rw (s, e)

pub row-end : (n k : ℕ) (bs : List ℕ) → n ≤ k → row (n - k) bs ≡ record { numbers = []; behind = found tt bs }
unfolding row
row-end n k bs h =
    let s : n - k ≡ 0 = omega arith in
    rw s

-- one more number in the room
pub row-once : (room : List ℤ) (n k : ℕ) (bs : List ℕ) (v : ℤ) (left : List ℕ) → k < n → k < length room → ended (ends (n - (k + 1))) bs ≡ found v left
    → ((row (n - (k + 1)) left).behind ≡ (row (n - k) bs).behind)
    × (pasted (set room k v) (k + 1) (row (n - (k + 1)) left).numbers ≡ pasted room k (row (n - k) bs).numbers)
row-once room n k bs v left h fits e =
    let m = row_more n k bs h v left e in
    (rw m, rw m (pasted-front room k v (row (n - (k + 1)) left).numbers fits))

-- ---- how many numbers

-- at most k of a line, and exactly k of one that is right
pub record Sized (k : ℕ) (r : Row) : Type 0 where
  pub most : length r.numbers ≤ k
  pub full : (u : Unit) (left : List ℕ) → r.behind ≡ found u left → length r.numbers ≡ k

row_next : (k : ℕ) (o : Found ℤ) (f : List ℕ → Row) → ((left : List ℕ) → Sized k (f left))
    → Sized (suc k) (onward o (record { numbers = []; behind = none }) (λ v left. record { numbers = v ∷ (f left).numbers; behind = (f left).behind }))
row_next k none f s = record { most = omega arith; full = λ u left h. absent u left h }
row_next k (found v left) f s = record { most = omega (arith, (s left).most); full = λ u rest h. omega (arith, (s left).full u rest h) }

pub row_sized : (k : ℕ) (bs : List ℕ) → Sized k (row k bs)
unfolding row
row_sized zero bs = record { most = omega arith; full = λ u left h. refl }
row_sized (suc k) bs = row_next k (ended (ends k) bs) (λ left. row k left) (λ left. row_sized k left)

-- ---- a gate's line

module _ (f : Form) (bs : List ℕ) where
  abbrev shown : Row
  shown = row (per_gate f) bs

  pub gate-none : shown.behind ≡ none → gate_row f bs ≡ shown
  unfolding gate_row
  gate-none e = rw e

  pub gate-found : (u : Unit) (left : List ℕ) → shown.behind ≡ found u left → gate_row f bs ≡ record { numbers = shown.numbers ++ unsaid f; behind = found u left }
  unfolding gate_row
  gate-found u left e = rw e

  -- at most a gate's numbers, and exactly these of one that is right
  pub gate-sized : Sized width (gate_row f bs)
  gate-sized = go shown.behind refl
    where
      s : Sized (per_gate f) shown
      s = row_sized (per_gate f) bs

      go : (o : Found Unit) → shown.behind ≡ o → Sized width (gate_row f bs)
      go none e = rw (gate-none e) (record { most = omega (arith, s.most, per-gate-le f); full = λ u left h. absent u left (sym e ∙ h) })
      go (found w rest) e =
          let all : length (shown.numbers ++ unsaid f) ≡ width = length-append shown.numbers (unsaid f) ∙ omega (arith, s.full w rest e, all_said f) in
          rw (gate-found w rest e) (record { most = omega arith; full = λ u left h. all })

-- a part's end and what lies behind the part
end_behind : {A : Type 0} (m k : ℕ) (xs : List A) → m ≤ k → drop m (take k xs) ++ drop k xs ≡ drop m xs
end_behind zero k xs h = take-append-drop k xs
end_behind (suc m) zero xs h = absurd (omega arith)
end_behind (suc m) (suc k) [] h = refl
end_behind (suc m) (suc k) (x ∷ xs) h = end_behind m k xs (omega arith)

-- what stands first in a part of the room stands there in the room
pub part-over : (new xs : List ℤ) (k : ℕ) → length new ≤ k → over new (take k xs) ++ drop k xs ≡ over new xs
part-over new xs k h = append_assoc new (drop (length new) (take k xs)) (drop k xs) ∙ ap (λ (ys : List ℤ). new ++ ys) (end_behind (length new) k xs h)

pub part-pasted : (room new : List ℤ) (a k : ℕ) → length new ≤ k → take a room ++ (over new (take k (drop a room)) ++ drop k (drop a room)) ≡ pasted room a new
part-pasted room new a k h =
    ap (λ (ys : List ℤ). take a room ++ ys) (part-over new (drop a room) k h ∙ ap (λ (ys : List ℤ). new ++ ys) (drop-drop (length new) a room))
    ∙ sym (append_assoc (take a room) new (drop (a + length new) room))

-- the room after a gate's line: what it doesn't show is filled up
pub gate-no : (result : Option (Bor (List ℕ))) (f : Form) (bs : List ℕ) (gate part : List ℤ) → result ≡ None → (row (per_gate f) bs).behind ≡ none → part ≡ over (row (per_gate f) bs).numbers (take (per_gate f) gate)
    → ReadsRow result (gate_row f bs) gate (part ++ drop (per_gate f) gate)
gate-no result f bs gate part is stop e =
    rw (is, gate-none f bs stop) (record { exact = stop; numbers = rw e (part-over (row (per_gate f) bs).numbers gate (per_gate f) (row_sized (per_gate f) bs).most) })

pub gate-all : (f : Form) (bs : List ℕ) (rest : Bor (List ℕ)) (gate part whole filled : List ℤ) → length gate ≡ width → (row (per_gate f) bs).behind ≡ found tt rest.now
    → part ≡ over (row (per_gate f) bs).numbers (take (per_gate f) gate) → whole ≡ part ++ drop (per_gate f) gate
    → filled ≡ replicate (length (take (length whole - per_gate f) (drop (per_gate f) whole))) (pos 0)
    → ReadsRow (Some rest) (gate_row f bs) gate (take (per_gate f) whole ++ (filled ++ drop (length whole - per_gate f) (drop (per_gate f) whole)))
gate-all f bs rest gate part whole filled size end e is fill =
    let k : ℕ = per_gate f in
    let ns : List ℤ = (row k bs).numbers in
    let less = per-gate-le f in
    let full : length ns ≡ k = (row_sized k bs).full tt rest.now end in
    let written : whole ≡ ns ++ drop (length ns) gate = is ∙ rw e (part-over ns gate k (omega arith)) in
    let long : length whole ≡ width = ap length written ∙ length-append ns (drop (length ns) gate) ∙ omega (arith, length-drop (length ns) gate) in
    let front : take k whole ≡ ns = rw written (take_at ns (drop (length ns) gate) k full) in
    let others : length (take (length whole - k) (drop k whole)) ≡ width - k = length-take (length whole - k) (drop k whole) ∙ omega (arith, length-drop k whole) in
    let nothing : drop (length whole - k) (drop k whole) ≡ [] = drop_of_length-le (drop k whole) (omega (arith, length-drop k whole)) in
    let past : drop (length (ns ++ unsaid f)) gate ≡ [] = drop_of_length-le gate (omega (arith, length-append ns (unsaid f), all_said f)) in
    rw (gate-found f bs tt rest.now end) (record { exact = refl; numbers = rw (front, fill, others, nothing, past, append-nil) (sym (append-nil (ns ++ unsaid f))) })

-- ---- the gates' lines

module _ (f : Form) (n i k : ℕ) (bs : List ℕ) (h : i < n) where
  pub rows_more : (u : Unit) (left : List ℕ) → (gate_row f bs).behind ≡ found u left
      → rows f (n - i) k bs ≡ record { numbers = (gate_row f bs).numbers ++ (rows f (n - (i + 1)) (suc k) left).numbers; behind = (rows f (n - (i + 1)) (suc k) left).behind }
  unfolding rows
  rows_more u left e =
      let s : n - i ≡ suc (n - (i + 1)) = omega arith in
      rw (s, e)

  pub rows-stop : (gate_row f bs).behind ≡ none → rows f (n - i) k bs ≡ record { numbers = (gate_row f bs).numbers; behind = bad k }
  unfolding rows
  rows-stop e =
      let s : n - i ≡ suc (n - (i + 1)) = omega arith in
      rw (s, e)

pub rows_end : (f : Form) (n i k : ℕ) (bs : List ℕ) → n ≤ i → rows f (n - i) k bs ≡ record { numbers = []; behind = good tt k bs }
unfolding rows
rows_end f n i k bs h =
    let s : n - i ≡ 0 = omega arith in
    rw s

pub rows-size : (f : Form) (n k : ℕ) (bs : List ℕ) → length (rows f n k bs).numbers ≤ width * n
unfolding rows
rows-size f zero k bs = omega arith
rows-size f (suc n) k bs = go (gate_row f bs).behind (λ left. rows-size f n (suc k) left)
  where
    go : (o : Found Unit) → ((left : List ℕ) → length (rows f n (suc k) left).numbers ≤ width * n) → length (onward {B = Rows} o (record { numbers = (gate_row f bs).numbers; behind = bad k }) (λ u left.
        record { numbers = (gate_row f bs).numbers ++ (rows f n (suc k) left).numbers; behind = (rows f n (suc k) left).behind })).numbers ≤ width * suc n
    go none m = omega (arith, (gate-sized f bs).most)
    go (found u left) m = let others = m left in simp length-append (omega (arith, (gate-sized f bs).most))

-- a gate's part of the room, put back
pub put-back : (room gate new : List ℤ) (i : ℕ) → length new ≤ width → gate ≡ over new (take (6 * (i + 1) - 6 * i) (drop (6 * i) room))
    → put_mid (6 * i) (6 * (i + 1) - 6 * i) room gate ≡ pasted room (width * i) new
put-back room gate new i h e =
    let k : 6 * (i + 1) - 6 * i ≡ width = omega arith in
    rw (e, k) (part-pasted room new (width * i) width h)

-- the error that takes the place of nothing
pub err_or : {A E : Type 0} (o : Option A) (d e : E) → o ≡ None → failed {A = A} e ≡ ok_or o d → e ≡ d
err_or o d e is h = let same = rw is at h in cc

-- one more line in the room
pub rows-once : (f : Form) (room room' : List ℤ) (n i line : ℕ) (bs : List ℕ) (u : Unit) (left : List ℕ) → i < n → width * n ≤ length room
    → (gate_row f bs).behind ≡ found u left → room' ≡ pasted room (width * i) (gate_row f bs).numbers
    → ((rows f (n - (i + 1)) (line + (i + 1)) left).behind ≡ (rows f (n - i) (line + i) bs).behind)
    × (pasted room' (width * (i + 1)) (rows f (n - (i + 1)) (line + (i + 1)) left).numbers ≡ pasted room (width * i) (rows f (n - i) (line + i) bs).numbers)
rows-once f room room' n i line bs u left h fits e is =
    let m = rows_more f n i (line + i) bs h u left e in
    let k : suc (line + i) ≡ line + (i + 1) = omega arith in
    let full = (gate-sized f bs).full u left e in
    let j : width * (i + 1) ≡ width * i + length (gate_row f bs).numbers = omega arith in
    let few = rows-size f (n - (i + 1)) (line + (i + 1)) left in
    rw (m, k, is, j) (refl, pasted-both room (width * i) (gate_row f bs).numbers (rows f (n - (i + 1)) (line + (i + 1)) left).numbers (omega arith))

-- what stands from place 0 on stands first
pub pasted-first : (room new : List ℤ) → pasted room 0 new ≡ over new room
pasted-first room new = rw (zero-add (length new))

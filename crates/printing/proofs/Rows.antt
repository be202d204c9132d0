-- One number more, one line more, and none left.
use mathlib.Core.Path.{◌≡◌, refl}
use mathlib.Core.Bool.{cond}
use mathlib.Core.List.{List, [], ◌∷◌, ◌++◌}
use Prim.Native.Nat.{ℕ, suc, ◌+◌, ◌-◌, ◌*◌, ◌≤◌, ◌<◌}
use native.Mathlib.Numerals.{add-one}
use native.Mathlib.Omega.{arith}
use lib.Dec.{eqb}
use lib.IntN.{ℤ, pos}
use lib.ListN.{length, get_or, take, drop, length-drop, drop_of_length-le}
use lib.Seq.{drop-cons, drop-drop}
use Rattle.rules.specs.Limits.{width}
use Rattle.text.specs.Bytes.{lf, blank}
use Rattle.text.specs.Printing.{ended_text, line_text}
use Rattle.spelling.specs.Texts.{lines_text, row_text, Form, four, five, six, per_gate, fifth, rows_text}

pub lines_more : (ns : List ℕ) (i : ℕ) → i < length ns → lines_text (drop i ns) ≡ line_text (get_or ns i 0) ++ lines_text (drop (i + 1) ns)
unfolding lines_text
lines_more ns i h = rw (drop-cons ns i 0 h, add-one i)

pub lines_none : (ns : List ℕ) (i : ℕ) → length ns ≤ i → lines_text (drop i ns) ≡ []
unfolding lines_text
lines_none ns i h = rw (drop_of_length-le ns h)

pub row_more : (vs : List ℤ) (k : ℕ) → k < length vs
    → row_text (drop k vs) ≡ ended_text (cond (eqb (length vs - (k + 1)) 0) lf blank) (get_or vs k (pos 0)) ++ row_text (drop (k + 1) vs)
unfolding row_text
row_more vs k h =
    let size : length (drop (suc k) vs) ≡ length vs - suc k = length-drop (suc k) vs in
    rw (drop-cons vs k (pos 0) h, add-one k, size)

pub row-none : (vs : List ℤ) (k : ℕ) → length vs ≤ k → row_text (drop k vs) ≡ []
unfolding row_text
row-none vs k h = rw (drop_of_length-le vs h)

pub rows_more : (f : Form) (n : ℕ) (ns : List ℤ) (i : ℕ) → i < n
    → rows_text f (n - i) (drop (width * i) ns) ≡ row_text (take (per_gate f) (drop (width * i) ns)) ++ rows_text f (n - (i + 1)) (drop (width * (i + 1)) ns)
unfolding rows_text
rows_more f n ns i h =
    let s : n - i ≡ suc (n - (i + 1)) = omega arith in
    let j : width * i + width ≡ width * (i + 1) = omega arith in
    rw (s, drop-drop width (width * i) ns, j)

pub rows_none : (f : Form) (n : ℕ) (ns : List ℤ) (i : ℕ) → n ≤ i → rows_text f (n - i) (drop (width * i) ns) ≡ []
unfolding rows_text
rows_none f n ns i h =
    let s : n - i ≡ 0 = omega arith in
    rw s

-- the head's numbers, of which the first four or all are printed
pub head-taken : (f : Form) (a b c d : ℕ) → take (4 + length (fifth f)) (a ∷ b ∷ c ∷ d ∷ per_gate f ∷ []) ≡ a ∷ b ∷ c ∷ d ∷ fifth f
head-taken four a b c d = refl
head-taken five a b c d = refl
head-taken six a b c d = refl

pub fifth-few : (f : Form) → length (fifth f) ≤ 1
fifth-few four = omega arith
fifth-few five = omega arith
fifth-few six = omega arith

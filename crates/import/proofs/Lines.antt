-- Every line that 13 tells of is small.
use mathlib.Core.Path.{◌≡◌, refl, ap}
use mathlib.Core.Bool.{◌||◌}
use mathlib.Core.List.{List, [], ◌∷◌, ◌++◌}
use Prim.Native.Nat.{ℕ, zero, suc, ◌+◌, ◌/◌, ◌≤◌}
use native.Mathlib.Omega.{arith}
use lib.Dec.{ltb}
use lib.IntN.{ℤ}
use lib.ListN.{length, length-append}
use Rattle.rules.specs.Limits.{width, max_wires, max_bits}
use Rattle.rules.proofs.Bits.{split}
use Rattle.text.specs.Reading.{Found, none, found, onward, word}
use Rattle.spelling.specs.Lines.{Lines, bad, good}
use Rattle.spelling.specs.Reading.{Rows}
use Rattle.saying.proofs.Places.{number, line-number}
use Rattle.qasm.specs.Statement.{on_line, statement}
use Rattle.qasm.specs.Import.{Import, wrong, many, large, list, Registers, version_line, include_line, wires_line, bits_line, register, perhaps, opening, body, judged, gathered, opened, read_qasm}
use Rattle.qasm.specs.Export.{opening_text}
use Rattle.qasm.proofs.Openings.{opening-read}

-- ---- the lines before the gates are at most four

perhaps-number : {B : Type 0} (k m : ℕ) (o : Found ℕ) (bs : List ℕ) (next : ℕ → ℕ → List ℕ → Lines B) → number (next 0 k bs) ≤ m
    → ((n : ℕ) (left : List ℕ) → number (next n (suc k) left) ≤ m) → number (perhaps k o bs next) ≤ m
perhaps-number k m none bs next h f = h
perhaps-number k m (found n left) bs next h f = f n left

opening-number : (bs : List ℕ) → number (opening bs) ≤ 5
unfolding opening
opening-number bs =
    line-number 1 5 (word version_line bs) _ (omega arith) (λ u a.
    line-number 2 5 (word include_line a) _ (omega arith) (λ v c.
    perhaps-number 3 5 (register wires_line c) c _
    (perhaps-number 3 5 (register bits_line c) c _ (omega arith) (λ n d. omega arith))
    (λ n d. perhaps-number 4 5 (register bits_line d) d _ (omega arith) (λ m e. omega arith))))

-- ---- a statement a line

body-number : (n w b k : ℕ) (bs : List ℕ) → number (body n w b k bs).behind ≤ k + n
unfolding body
body-number zero w b k [] = omega arith
body-number zero w b k (c ∷ bs) = omega arith
body-number (suc n) w b k [] = omega arith
body-number (suc n) w b k (c ∷ bs) = go (statement w b (c ∷ bs)) (λ left. body-number n w b (suc k) left)
  where
    go : (o : Found (List ℤ)) → ((left : List ℕ) → number (body n w b (suc k) left).behind ≤ suc k + n)
        → number (onward {B = Rows} o (record { numbers = []; behind = bad k }) (λ row left. record { numbers = on_line k row ++ (body n w b (suc k) left).numbers; behind = (body n w b (suc k) left).behind })).behind ≤ k + suc n
    go none f = omega arith
    go (found row left) f = omega (arith, f left)

-- ---- the whole text

abbrev pub line_of : Import → ℕ
line_of (wrong k) = k
line_of many = 0
line_of large = 0
line_of (list w b ns) = 0

judged-line : (most : ℕ) (r : Registers) (ns : List ℤ) → line_of (judged most r ns) ≡ 0
judged-line most r ns =
    split (ltb most (length ns / width)) (λ e. rw e)
    (λ e. split (ltb max_wires r.wires || ltb max_bits r.bits) (λ f. rw (e, f)) (λ f. rw (e, f)))

gathered-line : (most : ℕ) (r : Registers) (ns : List ℤ) (o : Lines Unit) → line_of (gathered most r ns o) ≤ number o
gathered-line most r ns (bad k) = omega arith
gathered-line most r ns (good u k left) = omega (arith, judged-line most r ns)

opened-line : (most : ℕ) (bs : List ℕ) (o : Lines Registers) → opening bs ≡ o → number o ≤ 5 → line_of (opened most o) ≤ 5 + length bs
opened-line most bs (bad k) e h = omega arith
opened-line most bs (good r k left) e h =
    let rows : Rows = body (length left) r.wires r.bits k left in
    let o = opening-read r bs k left e in
    omega (arith, gathered-line most r rows.numbers rows.behind, body-number (length left) r.wires r.bits k left, ap length o.text, length-append (opening_text r.wires r.bits) left)

pub text-line : (most : ℕ) (bs : List ℕ) → line_of (read_qasm most bs) ≤ 5 + length bs
unfolding read_qasm
text-line most bs = opened-line most bs (opening bs) refl (opening-number bs)

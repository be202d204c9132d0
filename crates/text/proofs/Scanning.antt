-- Digits as the code counts them: the count stays at the top, and a test against a number below it decides the same.
use Rattle.std.proofs.Common.{◌≡◌, ℕ, ◌+◌, ◌<◌, min, List, [], ◌∷◌, Bool, true, false, cond, length, take, refl, sym, ap, ◌∙◌, arith}
use borrow.Author.Tests.{leb-true, leb-false, lt-leb}
use lib.Dec.{leb}
use Rattle.rules.proofs.Bits.{split}
use Rattle.text.specs.Bytes.{is_digit}
use Rattle.text.specs.Reading.{digits}
use Rattle.text.specs.Clauses.{top}

-- a test of a count that stays at the top against a number below the top
pub top-test : (v most : ℕ) → most < top → leb (min top v) most ≡ leb v most
top-test v most h =
    split (leb v most)
    (λ e. let s : min top v ≡ v = omega (arith, leb-true v most e) in rw s)
    (λ e. let big : most < v = leb-false v most e in lt-leb (min top v) most (omega arith) ∙ sym e)

-- the digits are the front of the text
pub digits-taken : (bs : List ℕ) → take (length (digits bs)) bs ≡ digits bs
unfolding digits
digits-taken [] = refl
digits-taken (b ∷ bs) = by (is_digit b) (digits-taken bs)
  where
    by : (e : Bool) → take (length (digits bs)) bs ≡ digits bs → take (length (cond e (b ∷ digits bs) [])) (b ∷ bs) ≡ cond e (b ∷ digits bs) []
    by true h = ap (λ (l : List ℕ). b ∷ l) h
    by false h = refl

-- how many digits stand at the front, one by one
pub count-none : length (digits []) ≡ 0
unfolding digits
count-none = refl

pub count-hit : (b : ℕ) (bs : List ℕ) → is_digit b ≡ false → length (digits (b ∷ bs)) ≡ 0
unfolding digits
count-hit b bs e = rw e refl

pub count-miss : (b : ℕ) (bs : List ℕ) → is_digit b ≡ true → length (digits (b ∷ bs)) ≡ length (digits bs) + 1
unfolding digits
count-miss b bs e = rw e (omega arith)

-- Every line that is told of is small: that of a text that was not read.
use mathlib.Core.Path.{◌≡◌, refl}
use mathlib.Core.Logic.{◌⊎◌, inl, inr}
use mathlib.Core.Bool.{◌||◌}
use mathlib.Core.List.{List, [], ◌∷◌, ◌++◌}
use Prim.Native.Nat.{ℕ, zero, suc, ◌+◌, ◌≤◌}
use native.Mathlib.Omega.{arith}
use borrow.Author.Tests.{ltb-false}
use lib.Dec.{eqb, ltb}
use lib.IntN.{ℤ}
use Rattle.rules.proofs.Bits.{split}
use Rattle.text.specs.Reading.{Found, none, found, onward, natural_line, count_line}
use Rattle.spelling.specs.Lines.{Lines, bad, good, line}
use Rattle.spelling.specs.Texts.{Form, Head, head_word, gates_word}
use Rattle.spelling.specs.Reading.{head_line, form_line, head_at, gate_row, Rows, rows, Front, wrong, large, list, Read, malformed, many, read, gathered, counted, headed, list_at, ending, read_text}
use Rattle.spelling.proofs.Spelling.{such-read, one_of}

-- the number of the wrong line, or of the next one
abbrev pub number : {A : Type 0} → Lines A → ℕ
number (bad k) = k
number (good v k left) = k

pub line-number : {A B : Type 0} (k m : ℕ) (o : Found A) (next : A → ℕ → List ℕ → Lines B) → k ≤ m
    → ((v : A) (left : List ℕ) → number (next v (suc k) left) ≤ m) → number (line k o next) ≤ m
line-number k m none next h f = h
line-number k m (found v left) next h f = f v left

-- the first line of a head says 4 or 5, and its last has no line of its own after `head 4`
first-number : {B : Type 0} (k m : ℕ) (bs : List ℕ) (next : ℕ → ℕ → List ℕ → Lines B) → k ≤ m
    → ((n : ℕ) (left : List ℕ) → n ≤ 5 → number (next n (suc k) left) ≤ m) → number (line k (head_line bs) next) ≤ m
unfolding head_line
first-number k m bs next h f = go (head_line bs) refl
  where
    small : (n : ℕ) → (n ≡ 4) ⊎ (n ≡ 5) → n ≤ 5
    small n (inl e) = omega arith
    small n (inr e) = omega arith

    go : (o : Found ℕ) → head_line bs ≡ o → number (line k o next) ≤ m
    go none e = h
    go (found n left) e = f n left (small n (one_of 4 5 n (such-read (λ n. eqb n 4 || eqb n 5) (count_line head_word bs) n left e).1))

form-number : {A B : Type 0} (k m : ℕ) (o : Found A) (next : A → List ℕ → Lines B) → k ≤ m → ((v : A) (left : List ℕ) → number (next v left) ≤ m) → number (onward o (bad k) next) ≤ m
form-number k m none next h f = h
form-number k m (found v left) next h f = f v left

head-number : (k : ℕ) (bs : List ℕ) → number (head_at k bs) ≤ k + 6
unfolding head_at
head-number k bs =
    first-number k (k + 6) bs _ (omega arith) (λ n a few.
    line-number (suc k) (k + 6) (natural_line a) _ (omega arith) (λ x b.
    line-number (suc (suc k)) (k + 6) (natural_line b) _ (omega arith) (λ y c.
    line-number (suc (suc (suc k))) (k + 6) (natural_line c) _ (omega arith) (λ z d.
    line-number (suc (suc (suc (suc k)))) (k + 6) (natural_line d) _ (omega arith) (λ t e.
    form-number (suc (suc (suc (suc (suc k))))) (k + 6) (form_line n e) _ (omega arith) (λ v left. omega (arith, few)))))))

rows-number : (f : Form) (n k : ℕ) (bs : List ℕ) → number (rows f n k bs).behind ≤ k + n
unfolding rows
rows-number f zero k bs = omega arith
rows-number f (suc n) k bs = go (gate_row f bs).behind (λ left. rows-number f n (suc k) left)
  where
    go : (o : Found Unit) → ((left : List ℕ) → number (rows f n (suc k) left).behind ≤ suc k + n)
        → number (onward {B = Rows} o (record { numbers = (gate_row f bs).numbers; behind = bad k }) (λ u left. record { numbers = (gate_row f bs).numbers ++ (rows f n (suc k) left).numbers; behind = (rows f n (suc k) left).behind })).behind ≤ k + suc n
    go none g = omega arith
    go (found u left) g = omega (arith, g left)

abbrev pub line_of : Read → ℕ
line_of (malformed k) = k
line_of (many k) = k
line_of (read h ns) = 0

-- the wrong line's number, or the next one's
abbrev pub front_line : Front → ℕ
front_line (wrong k) = k
front_line (large k) = k
front_line (list h ns k left) = k

gathered-line : (h : Head) (ns : List ℤ) (o : Lines Unit) → front_line (gathered h ns o) ≤ number o
gathered-line h ns (bad k) = omega arith
gathered-line h ns (good u k left) = omega arith

counted-line : (most : ℕ) (h : Head) (k : ℕ) (o : Found ℕ) → front_line (counted most h k o) ≤ suc k + most
counted-line most h k none = omega arith
counted-line most h k (found n left) =
    split (ltb most n) (λ e. rw e (omega arith))
    (λ e. rw e (omega (arith, ltb-false most n e, rows-number h.form n (suc k) left, gathered-line h (rows h.form n (suc k) left).numbers (rows h.form n (suc k) left).behind)))

headed-line : (most m : ℕ) (o : Lines Head) → number o ≤ m → front_line (headed most o) ≤ suc m + most
headed-line most m (bad k) h = omega arith
headed-line most m (good v k left) h = omega (arith, counted-line most v k (count_line gates_word left))

ending-line : (o : Front) → line_of (ending o) ≤ front_line o
ending-line (wrong k) = omega arith
ending-line (large k) = omega arith
ending-line (list h ns k []) = omega arith
ending-line (list h ns k (b ∷ bs)) = omega arith

-- of a list from line k on
pub front-line : (most k : ℕ) (bs : List ℕ) → front_line (list_at most k bs) ≤ k + 7 + most
unfolding list_at
front-line most k bs = omega (arith, headed-line most (k + 6) (head_at k bs) (head-number k bs))

pub text-line : (most : ℕ) (bs : List ℕ) → line_of (read_text most bs) ≤ 8 + most
unfolding read_text
text-line most bs = omega (arith, ending-line (list_at most 1 bs), front-line most 1 bs)

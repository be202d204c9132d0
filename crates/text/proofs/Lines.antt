-- Words and lines, both ways: what was printed is read back, and what is accepted is what would be printed.
use mathlib.Core.Path.{◌≡◌, refl, sym, ap, ◌∙◌}
use mathlib.Core.Bool.{false}
use mathlib.Core.List.{List, [], ◌∷◌, ◌++◌, append_assoc, append-nil}
use Prim.Native.Nat.{ℕ, ◌≤◌}
use native.Mathlib.Omega.{arith}
use borrow.Author.Tests.{eqb-true}
use lib.Dec.{eqb}
use lib.IntN.{ℤ}
use lib.Signed.{mag}
use Rattle.rules.proofs.Bits.{split, eqb-self}
use Rattle.text.specs.Bytes.{lf, blank, is_digit}
use Rattle.text.specs.Printing.{decimal, printed, ended_text, line_text, named_text}
use Rattle.text.specs.Reading.{Found, none, found, onward, largest, natural, integer, word, ended, natural_line, count_line}
use Rattle.text.proofs.Grammar.{read-decimal, decimal-read, read-printed, printed-read}

-- ---- words

pub read_word : (w rest : List ℕ) → word w (w ++ rest) ≡ found tt rest
unfolding word
read_word [] rest = refl
read_word (c ∷ w) rest = rw (eqb-self c) (read_word w rest)

pub absent : {A : Type 0} {P : Type 0} (v : A) (left : List ℕ) → none ≡ found v left → P
absent v left h = let z : ◌≡◌ {A = ℕ} 0 1 = cc in absurd (omega arith)

pub word_read : (w bs left : List ℕ) (u : Unit) → word w bs ≡ found u left → bs ≡ w ++ left
unfolding word
word_read [] bs left u h = cc
word_read (c ∷ w) [] left u h = absent u left h
word_read (c ∷ w) (b ∷ bs) left u h =
    split (eqb b c)
    (λ e. let q : b ≡ c = eqb-true b c e in rw (q, word_read w bs left u (rw e at h)))
    (λ e. absent u left (rw e at h))

-- ---- a number and what ends it

-- what goes on behind another was found, and so was the other
pub goes_on : {A B : Type 0} (o : Found A) (next : A → List ℕ → Found B) (v : B) (left : List ℕ) → onward o none next ≡ found v left
    → (a : A) × ((rest : List ℕ) × ((o ≡ found a rest) × (next a rest ≡ found v left)))
goes_on none next v left h = absent v left h
goes_on (found a rest) next v left h = (a, (rest, (refl, h)))

-- a value that is ended by a word stands right before it
ends : {A : Type 0} (o : Found A) (w : List ℕ) (v : A) (left : List ℕ) → onward o none (λ x rest. onward (word w rest) none (λ u behind. found x behind)) ≡ found v left
    → o ≡ found v (w ++ left)
ends o w v left h =
    let p = goes_on o (λ x rest. onward (word w rest) none (λ u behind. found x behind)) v left h in
    let q = goes_on (word w p.1.0) (λ u behind. found p.0 behind) v left p.1.1.1 in
    let same : p.0 ≡ v = cc in
    let rest : q.1.0 ≡ left = cc in
    p.1.1.0 ∙ rw (same, word_read w p.1.0 q.1.0 q.0 q.1.1.0, rest)

pub read-ended : (end : ℕ) (v : ℤ) (rest : List ℕ) → is_digit end ≡ false → mag v ≤ largest → ended end (ended_text end v ++ rest) ≡ found v rest
unfolding ended ended_text
read-ended end v rest e h =
    rw (append_assoc (printed v) (end ∷ []) rest, read-printed v (end ∷ rest) h e, read_word (end ∷ []) rest)

pub ended-read : (end : ℕ) (v : ℤ) (left bs : List ℕ) → ended end bs ≡ found v left → (bs ≡ ended_text end v ++ left) × (mag v ≤ largest)
unfolding ended ended_text
ended-read end v left bs h =
    let s = printed-read v (end ∷ left) bs (ends (integer bs) (end ∷ []) v left h) in
    (s.whole ∙ sym (append_assoc (printed v) (end ∷ []) left), s.small)

-- ---- lines of one number

pub read-line : (n : ℕ) (rest : List ℕ) → n ≤ largest → natural_line (line_text n ++ rest) ≡ found n rest
unfolding natural_line line_text
read-line n rest h = rw (append_assoc (decimal n) (lf ∷ []) rest, read-decimal largest n (lf ∷ rest) h refl)

pub line_read : (n : ℕ) (left bs : List ℕ) → natural_line bs ≡ found n left → (bs ≡ line_text n ++ left) × (n ≤ largest)
unfolding natural_line line_text
line_read n left bs h =
    let s = decimal-read largest n (lf ∷ left) bs (ends (natural bs) (lf ∷ []) n left h) in
    (s.whole ∙ sym (append_assoc (decimal n) (lf ∷ []) left), s.small)

-- ---- a word and a count

one-named : (w : List ℕ) (n : ℕ) → named_text w (n ∷ []) ≡ w ++ blank ∷ line_text n
unfolding named_text line_text
one-named w n = ap (λ (l : List ℕ). w ++ (blank ∷ (l ++ lf ∷ []))) (append-nil (decimal n))

behind-word : (w bs : List ℕ) → count_line w (w ++ blank ∷ bs) ≡ natural_line bs
unfolding count_line
behind-word w bs = rw (read_word w (blank ∷ bs))

pub read_count : (w : List ℕ) (n : ℕ) (rest : List ℕ) → n ≤ largest → count_line w (named_text w (n ∷ []) ++ rest) ≡ found n rest
read_count w n rest h = rw (one-named w n, append_assoc w (blank ∷ line_text n) rest) (behind-word w (line_text n ++ rest) ∙ read-line n rest h)

pub count-read : (w : List ℕ) (n : ℕ) (left bs : List ℕ) → count_line w bs ≡ found n left → (bs ≡ named_text w (n ∷ []) ++ left) × (n ≤ largest)
unfolding count_line
count-read w n left bs h =
    let o = goes_on (word w bs) (λ u rest. onward (word (blank ∷ []) rest) none (λ u behind. natural_line behind)) n left h in
    let p = goes_on (word (blank ∷ []) o.1.0) (λ u behind. natural_line behind) n left o.1.1.1 in
    let l = line_read n left p.1.0 p.1.1.1 in
    let rest : o.1.0 ≡ blank ∷ (line_text n ++ left) = word_read (blank ∷ []) o.1.0 p.1.0 p.0 p.1.1.0 ∙ rw l.0 in
    (word_read w bs o.1.0 o.0 o.1.1.0 ∙ rw (rest, one-named w n) (sym (append_assoc w (blank ∷ line_text n) left)), l.1)

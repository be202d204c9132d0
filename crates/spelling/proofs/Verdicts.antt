-- Of a text that was read, the list itself is refused by 3 or by a gate only: 1, 2, 4 and 5 can't come. And 12 is said of the line behind the head.
use mathlib.Core.Path.{◌≡◌, refl, ◌∙◌, subst}
use mathlib.Core.Bool.{true, false, ◌||◌, cond}
use mathlib.Core.List.{List, [], ◌∷◌, ◌++◌}
use Prim.Native.Nat.{ℕ, zero, suc, ◌+◌, ◌*◌, ◌/◌, ◌%◌, ◌≤◌}
use native.Mathlib.Omega.{arith}
use borrow.Author.Tests.{eq-eqb, le-ltb}
use lib.Dec.{eqb, ltb}
use lib.IntN.{ℤ}
use lib.ListN.{length}
use Rattle.rules.specs.Limits.{width, max_gates, max_wires, max_bits, term_width, step_width, term_entries, step_entries}
use Rattle.rules.specs.Refusal.{whole, faults_from, verdict}
use Rattle.rules.proofs.Bits.{split}
use Rattle.text.specs.Reading.{Found, none, found, count_line}
use Rattle.spelling.specs.Lines.{Lines, bad, good}
use Rattle.spelling.specs.Texts.{Head, head_lines, head_text, gates_word}
use Rattle.spelling.specs.Reading.{head_at, rows, Front, wrong, large, list, many, read, gathered, counted, headed, list_at, ending, read_text}
use Rattle.spelling.proofs.Spelling.{head_read, text-read}

pub three-or-gates : (most : ℕ) (bs : List ℕ) (h : Head) (ns : List ℤ) → most ≤ max_gates → read_text most bs ≡ read h ns
    → (let g = length ns / width in
    verdict ns h.wires h.bits (length ns) (term_width * term_entries g) (step_width * step_entries g)
    ≡ cond (ltb max_wires h.wires || ltb max_bits h.bits) (whole 3) (faults_from ns h.wires h.bits g zero))
unfolding verdict
three-or-gates most bs h ns fits e =
    let l = (text-read most h ns bs e).1 in
    let g : ℕ = length ns / width in
    let one : eqb (length ns % width) 0 ≡ true = eq-eqb (length ns % width) 0 (omega (arith, l.whole)) in
    let two : ltb max_gates g ≡ false = le-ltb max_gates g (omega (arith, l.few)) in
    let four : ltb (length ns) (length ns) ≡ false = le-ltb (length ns) (length ns) (omega arith) in
    let five : ltb (term_width * term_entries g / term_width) (term_entries g) ≡ false = le-ltb (term_width * term_entries g / term_width) (term_entries g) (omega arith) in
    let five' : ltb (step_width * step_entries g / step_width) (step_entries g) ≡ false = le-ltb (step_width * step_entries g / step_width) (step_entries g) (omega arith) in
    rw (one, two, four, five, five') (split (ltb max_wires h.wires || ltb max_bits h.bits) (λ t. rw t) (λ t. rw t))

-- ---- 12 is said of the line behind the head, where the list begins at line 1

-- a list of too many gates is one whose line m says so
abbrev Late : ℕ → Front → Type 0
Late m (wrong k) = Unit {0}
Late m (large k) = k ≡ m
Late m (list h ns k left) = Unit {0}

late-gathered : (m : ℕ) (h : Head) (ns : List ℤ) (o : Lines Unit) → Late m (gathered h ns o)
late-gathered m h ns (bad k) = tt
late-gathered m h ns (good u k left) = tt

late-counted : (most : ℕ) (h : Head) (k : ℕ) (o : Found ℕ) → Late k (counted most h k o)
late-counted most h k none = tt
late-counted most h k (found n left) =
    split (ltb most n) (λ e. rw e refl) (λ e. rw e (late-gathered k h (rows h.form n (suc k) left).numbers (rows h.form n (suc k) left).behind))

-- the text begins with a head at line k, and i is the line behind it
pub record Behind (k : ℕ) (bs : List ℕ) (i : ℕ) : Type 0 where
  pub head : Head
  pub left : List ℕ
  pub text : bs ≡ head_text head ++ left
  pub place : i ≡ k + head_lines head.form

large-headed : (most k : ℕ) (bs : List ℕ) (i : ℕ) (o : Lines Head) → head_at k bs ≡ o → headed most o ≡ large i → Behind k bs i
large-headed most k bs i (bad j) e f = let z : ◌≡◌ {A = ℕ} 0 1 = cc in absurd (omega arith)
large-headed most k bs i (good h j left) e f =
    let r = head_read h k bs j left e in
    let at : i ≡ j = subst (Late j) f (late-counted most h j (count_line gates_word left)) in
    record { head = h; left = left; text = r.text; place = at ∙ r.ahead }

pub list-large : (most k : ℕ) (bs : List ℕ) (i : ℕ) → list_at most k bs ≡ large i → Behind k bs i
unfolding list_at
list-large most k bs i e = large-headed most k bs i (head_at k bs) refl e

ending-many : (o : Front) (k : ℕ) → ending o ≡ many k → o ≡ large k
ending-many (wrong j) k e = let z : ◌≡◌ {A = ℕ} 0 1 = cc in absurd (omega arith)
ending-many (large j) k e = let a : j ≡ k = cc in rw a
ending-many (list h ns j []) k e = let z : ◌≡◌ {A = ℕ} 0 1 = cc in absurd (omega arith)
ending-many (list h ns j (b ∷ bs)) k e = let z : ◌≡◌ {A = ℕ} 0 1 = cc in absurd (omega arith)

-- line 6 after `head 4`, line 7 after `head 5`
pub twelve-behind : (most : ℕ) (bs : List ℕ) (k : ℕ) → read_text most bs ≡ many k → Behind 1 bs k
unfolding read_text
twelve-behind most bs k e = list-large most 1 bs k (ending-many (list_at most 1 bs) k e)

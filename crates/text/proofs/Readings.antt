-- What each reading function comes to, over plain variables.
use Rattle.std.proofs.Common.{◌≡◌, ℕ, zero, suc, ◌+◌, ◌-◌, ◌≤◌, List, [], ◌∷◌, true, false, cond, length, take, drop, Option, Some, None, refl, ap, ◌∙◌, arith}
use Rattle.std.specs.Prelude.{eqb, nat_eq, MatchOption, ℤ, pos, negsuc, ◌-ℤ◌, ◌≢◌}
use Rattle.std.specs.Borrow.{Bor}
use borrow.Author.Tests.{le-leb}
use lib.Pointwise.{pointwise}
use Rattle.rules.proofs.Bits.{split}
use Rattle.text.specs.Bytes.{minus}
use Rattle.text.specs.Reading.{none, found, up_to, natural, integer, positive, negative, largest, word}
use Rattle.text.specs.Clauses.{Leaves}
use Rattle.text.proofs.Grammar.{decimal-read}

-- ---- a word

word_is : (w bs : List ℕ) → word w bs ≡ cond (pointwise nat_eq (take (length w) bs) w) (found tt (drop (length w) bs)) none
unfolding word
word_is [] bs = refl
word_is (c ∷ w) [] = refl
word_is (c ∷ w) (b ∷ bs) = split (eqb b c) (λ e. rw e (word_is w bs)) (λ e. rw e refl)

pub reads_word : (w bs : List ℕ) (r : Option (Bor (List ℕ)))
    → MatchOption r (pointwise nat_eq (take (length w) bs) w ≡ false) (λ x. (pointwise nat_eq (take (length w) bs) w ≡ true) × (x.now ≡ drop (length w) bs) × (length x.now + length w ≡ length bs))
    → Leaves tt r (word w bs)
reads_word w bs None h = word_is w bs ∙ rw h refl
reads_word w bs (Some x) h = word_is w bs ∙ rw (h.0, h.1) refl

-- ---- a number with a sign

pub natural-small : (bs : List ℕ) (n : ℕ) (left : List ℕ) → natural bs ≡ found n left → n ≤ largest
unfolding natural
natural-small bs n left h = (decimal-read largest n left bs h).small

unsigned-is : (bs : List ℕ) → word (minus ∷ []) bs ≡ none → integer bs ≡ positive (natural bs)
unfolding word integer natural
unsigned-is [] h = refl
unsigned-is (b ∷ bs) h = split (eqb b minus) (λ e. let z : ◌≡◌ {A = ℕ} 0 1 = cc in absurd (omega arith)) (λ e. rw e refl)

pub unsigned_none : (bs : List ℕ) → word (minus ∷ []) bs ≡ none → natural bs ≡ none → integer bs ≡ none
unsigned_none bs h e = unsigned-is bs h ∙ rw e refl

pub unsigned_some : (bs : List ℕ) (n : ℕ) (left : List ℕ) → word (minus ∷ []) bs ≡ none → natural bs ≡ found n left → integer bs ≡ found (pos n) left
unsigned_some bs n left h e = unsigned-is bs h ∙ rw e refl

signed-is : (bs rest : List ℕ) → word (minus ∷ []) bs ≡ found tt rest → integer bs ≡ negative (up_to (suc largest) rest)
unfolding word integer
signed-is [] rest h = let z : ◌≡◌ {A = ℕ} 0 1 = cc in absurd (omega arith)
signed-is (b ∷ bs) rest h =
    split (eqb b minus)
    (λ e.
    let same : found tt bs ≡ found tt rest = rw e at h in
    let is : bs ≡ rest = cc in
    rw (e, is) refl)
    (λ e. let no : none ≡ found tt rest = rw e at h in let z : ◌≡◌ {A = ℕ} 0 1 = cc in absurd (omega arith))

pub signed_none : (bs rest : List ℕ) → word (minus ∷ []) bs ≡ found tt rest → up_to (suc largest) rest ≡ none → integer bs ≡ none
signed_none bs rest h e = signed-is bs rest h ∙ rw e refl

pub signed_zero : (bs rest : List ℕ) (n : ℕ) (left : List ℕ) → word (minus ∷ []) bs ≡ found tt rest → up_to (suc largest) rest ≡ found n left → n ≡ 0 → integer bs ≡ none
signed_zero bs rest n left h e is = signed-is bs rest h ∙ rw (e, is) refl

below : (n : ℕ) → pos 0 -ℤ pos (suc n) ≡ negsuc n
below n = let same : suc n - 1 ≡ n = omega arith in rw (le-leb 1 (suc n) (omega arith)) (ap negsuc same)

pub signed_some : (bs rest : List ℕ) (n : ℕ) (left : List ℕ) (v : ℤ) → word (minus ∷ []) bs ≡ found tt rest → up_to (suc largest) rest ≡ found n left → n ≢ 0 → v ≡ pos 0 -ℤ pos n → integer bs ≡ found v left
signed_some bs rest zero left v h e some is = absurd (some refl)
signed_some bs rest (suc n) left v h e some is = signed-is bs rest h ∙ rw (e, is, below n) refl

-- What stands at the front of some bytes: a number, a word, a line of one number.
use Rattle.std.specs.Prelude.{Bool, not, ◌&&◌, ◌||◌, cond, List, [], ◌∷◌, ℕ, zero, suc, ◌+◌, ◌-◌, ◌*◌, eqb, leb, ltb, ℤ, pos, negsuc, length, drop}
use Rattle.text.specs.Bytes.{lf, blank, minus, nought, is_digit, first}

-- a value, and what is left behind it. Stays: the definitions and laws match on both at once, and Some of a pair is no plainer
pub data Found (A : Type 0) : Type 0 where
  none : Found A
  found : A → List ℕ → Found A

-- where it was found, go on behind it
abbrev pub onward : {A B : Type 0} → Found A → B → (A → List ℕ → B) → B
onward none other next = other
onward (found v left) other next = next v left

-- ---- numbers

-- the digits at the front
unfoldable pub digits : List ℕ → List ℕ
digits [] = []
digits (b ∷ bs) =
    let others = digits bs in
    cond (is_digit b) (b ∷ others) []

-- v, and then these digits behind it, as one number. It has no bound
unfoldable pub worth : ℕ → List ℕ → ℕ
worth v [] = v
worth v (b ∷ bs) = worth (10 * v + (b - nought)) bs

-- at least one digit, no leading zeros: a 0 in front stands alone
abbrev pub proper : List ℕ → Bool
proper ds = ltb 0 (length ds) && (eqb (length ds) 1 || not (eqb (first ds) nought))

-- a number up to `most`. Whatever byte comes next ends it
unfoldable pub up_to : ℕ → List ℕ → Found ℕ
unfolding digits worth
up_to most bs =
    let ds = digits bs in
    cond (proper ds && leb (worth 0 ds) most) (found (worth 0 ds) (drop (length ds) bs)) none

-- numbers of a text are at most 2,147,483,647
abbrev pub largest : ℕ
largest = 2147483647

-- numbers that are no gate's are 0 to 2,147,483,647
unfoldable pub natural : List ℕ → Found ℕ
unfolding up_to
natural bs = up_to largest bs

-- no sign; there is no plus
abbrev pub positive : Found ℕ → Found ℤ
positive none = none
positive (found n left) = found (pos n) left

-- behind a minus; no -0
abbrev pub negative : Found ℕ → Found ℤ
negative none = none
negative (found zero left) = none
negative (found (suc n) left) = found (negsuc n) left

-- gate numbers fit 32 signed bits
unfoldable pub integer : List ℕ → Found ℤ
unfolding up_to
integer bs = cond (eqb (first bs) minus) (negative (up_to (suc largest) (drop 1 bs))) (positive (up_to largest bs))

-- ---- words

-- a word of the format, byte for byte
unfoldable pub word : List ℕ → List ℕ → Found Unit
word [] bs = found tt bs
word (c ∷ w) [] = none
word (c ∷ w) (b ∷ bs) =
    let others = word w bs in
    cond (eqb b c) others none

-- a number and the one byte that must end it
unfoldable pub ended : ℕ → List ℕ → Found ℤ
unfolding integer word
ended end bs = onward (integer bs) none (λ v left. onward (word (end ∷ []) left) none (λ u behind. found v behind))

-- ---- lines of one number

-- a number and LF
unfoldable pub natural_line : List ℕ → Found ℕ
unfolding natural word
natural_line bs = onward (natural bs) none (λ n left. onward (word (lf ∷ []) left) none (λ u behind. found n behind))

-- a word, one blank, and a count behind it
unfoldable pub count_line : List ℕ → List ℕ → Found ℕ
unfolding natural_line
count_line w bs = onward (word w bs) none (λ u left. onward (word (blank ∷ []) left) none (λ u behind. natural_line behind))

-- Numbers as they are printed: decimal, a minus where needed, no leading zeros.
use Rattle.std.specs.Prelude.{cond, List, [], ◌∷◌, ◌++◌, ℕ, zero, suc, ◌+◌, ◌/◌, ◌%◌, ltb, ℤ, pos, negsuc}
use Rattle.text.specs.Bytes.{lf, blank, minus, nought}

-- the byte of a digit
abbrev pub digit : ℕ → ℕ
digit d = nought + d

-- the last digit behind the others, as far as the first number allows
unfoldable pub digits_in : ℕ → ℕ → List ℕ
digits_in zero n = []
digits_in (suc most) n =
    let others = digits_in most (n / 10) in
    cond (ltb n 10) (digit n ∷ []) (others ++ digit (n % 10) ∷ [])

-- a number has fewer digits than its successor says, so that none is lost
unfoldable pub decimal : ℕ → List ℕ
unfolding digits_in
decimal n = digits_in (suc n) n

-- a minus where needed
unfoldable pub printed : ℤ → List ℕ
unfolding decimal
printed (pos n) = decimal n
printed (negsuc n) = minus ∷ decimal (suc n)

-- a signed number and the byte that ends it
unfoldable pub ended_text : ℕ → ℤ → List ℕ
unfolding printed
ended_text end v = printed v ++ end ∷ []

-- a line of one number
unfoldable pub line_text : ℕ → List ℕ
unfolding decimal
line_text n = decimal n ++ lf ∷ []

-- a number after one blank, and numbers so, one behind another
unfoldable pub spaced_text : ℕ → List ℕ
unfolding decimal
spaced_text n = blank ∷ decimal n

unfoldable pub all_spaced : List ℕ → List ℕ
unfolding spaced_text
all_spaced [] = []
all_spaced (n ∷ ns) = spaced_text n ++ all_spaced ns

-- a line of a word and numbers
unfoldable pub named_text : List ℕ → List ℕ → List ℕ
unfolding all_spaced
named_text w ns = w ++ (all_spaced ns ++ lf ∷ [])

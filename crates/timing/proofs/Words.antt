-- A room of words read and written a row at a time.
--     words_count    half the words are the number of rows
--     words-get      a row's two words are the row
--     words-put      storing them stores the row
use Rattle.std.proofs.Common.{◌≡◌, List, [], ◌∷◌, ℕ, zero, suc, ◌+◌, ◌*◌, ◌/◌, ◌^◌, ◌<◌, length, get_or, set, refl, ap, arith}
use native.Mathlib.Nat.{not-suc-le-zero, le_of_suc-le-suc}
use Rattle.timing.specs.Doors.{rows_in}

pub words_count : (xs : List ℕ) → length (rows_in xs) ≡ length xs / 2
unfolding rows_in
words_count [] = refl
words_count (lo ∷ []) = refl
words_count (lo ∷ hi ∷ xs) = let h = words_count xs in omega arith

pub words-get : (xs : List ℕ) (i : ℕ) → i < length (rows_in xs) → get_or xs (2 * i + 1) 0 * 2 ^ 64 + get_or xs (2 * i) 0 ≡ get_or (rows_in xs) i 0
unfolding rows_in
words-get [] i l = absurd (not-suc-le-zero l)
words-get (lo ∷ []) i l = absurd (not-suc-le-zero l)
words-get (lo ∷ hi ∷ xs) zero l = refl
words-get (lo ∷ hi ∷ xs) (suc i) l =
    let e : 2 * suc i ≡ suc (suc (2 * i)) = omega arith in
    let g : 2 * suc i + 1 ≡ suc (suc (2 * i + 1)) = omega arith in
    rw (g, e) (words-get xs i (le_of_suc-le-suc l))

pub words-put : (xs : List ℕ) (i lo hi : ℕ) → i < length (rows_in xs) → rows_in (set (set xs (2 * i) lo) (2 * i + 1) hi) ≡ set (rows_in xs) i (hi * 2 ^ 64 + lo)
unfolding rows_in
words-put [] i a b l = absurd (not-suc-le-zero l)
words-put (lo ∷ []) i a b l = absurd (not-suc-le-zero l)
words-put (lo ∷ hi ∷ xs) zero a b l = refl
words-put (lo ∷ hi ∷ xs) (suc i) a b l =
    let e : 2 * suc i ≡ suc (suc (2 * i)) = omega arith in
    let g : 2 * suc i + 1 ≡ suc (suc (2 * i + 1)) = omega arith in
    rw (g, e) (ap (λ (rows : List ℕ). (hi * 2 ^ 64 + lo) ∷ rows) (words-put xs i a b (le_of_suc-le-suc l)))

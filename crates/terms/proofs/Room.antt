-- The view of a room of numbers as terms.
--     room-length    how many terms a room has
--     room_size      the same for the check's tactics
--     room-get       they are the term
--     room_word, room-turn    the third, of which the turn is a part
--     room-put       storing three numbers stores the term
--     room-stores    and leaves what is behind it
use mathlib.Core.Path.{◌≡◌, refl, ap, ◌∙◌}
use mathlib.Core.List.{List, [], ◌∷◌, ◌++◌}
use Prim.Native.Nat.{ℕ, zero, suc, ◌+◌, ◌-◌, ◌*◌, ◌/◌, ◌%◌, ◌^◌, ◌≤◌, ◌<◌}
use native.Mathlib.Nat.{not-suc-le-zero, le_of_suc-le-suc}
use native.Mathlib.Omega.{arith}
use lib.ListN.{length, get_or, set, take, drop, length-set}
use lib.Seq.{drop-set-lt}
use Rattle.rules.specs.Fold.{Term}
use Rattle.terms.specs.Terms.{terms_of, words_of, no_term, Stores}

pub room-length : (xs : List ℕ) → length (terms_of xs) ≡ length xs / 3
unfolding terms_of
room-length [] = refl
room-length (a ∷ []) = refl
room-length (a ∷ b ∷ []) = refl
room-length (a ∷ b ∷ c ∷ xs) = let h = room-length xs in omega arith

-- what the size of a room says to the check, also after a store
pub ruleset room_size = (room-length, length-set)

-- rooms of one length have as many terms
pub room-same : (xs ys : List ℕ) → length xs ≡ length ys → length (terms_of xs) ≡ length (terms_of ys)
room-same xs ys e = omega (arith, room-length xs, room-length ys)

-- the three numbers of a term that is one further on
after : (i : ℕ) → (3 * suc i ≡ suc (suc (suc (3 * i)))) × ((3 * suc i + 1 ≡ suc (suc (suc (3 * i + 1)))) × (3 * suc i + 2 ≡ suc (suc (suc (3 * i + 2)))))
after i = (omega arith, (omega arith, omega arith))

pub room-get : (xs : List ℕ) (i : ℕ) → i < length (terms_of xs)
    → record { parity = get_or xs (3 * i + 1) 0 * 2 ^ 64 + get_or xs (3 * i) 0; turn = get_or xs (3 * i + 2) 0 % 8 } ≡ get_or (terms_of xs) i no_term
unfolding terms_of
room-get [] i l = absurd (not-suc-le-zero l)
room-get (a ∷ []) i l = absurd (not-suc-le-zero l)
room-get (a ∷ b ∷ []) i l = absurd (not-suc-le-zero l)
room-get (a ∷ b ∷ c ∷ xs) zero l = refl
room-get (a ∷ b ∷ c ∷ xs) (suc i) l = let e = after i in rw (e.1.1, e.1.0, e.0) (room-get xs i (le_of_suc-le-suc l))

pub room_word : (xs : List ℕ) (i : ℕ) → i < length (terms_of xs) → get_or xs (3 * i + 2) 0 ≡ get_or (words_of xs) i 0
unfolding terms_of words_of
room_word [] i l = absurd (not-suc-le-zero l)
room_word (a ∷ []) i l = absurd (not-suc-le-zero l)
room_word (a ∷ b ∷ []) i l = absurd (not-suc-le-zero l)
room_word (a ∷ b ∷ c ∷ xs) zero l = refl
room_word (a ∷ b ∷ c ∷ xs) (suc i) l = let e = after i in rw e.1.1 (room_word xs i (le_of_suc-le-suc l))

pub room-turn : (xs : List ℕ) (i : ℕ) → (get_or (terms_of xs) i no_term).turn ≡ get_or (words_of xs) i 0 % 8
unfolding terms_of words_of
room-turn [] i = refl
room-turn (a ∷ []) i = refl
room-turn (a ∷ b ∷ []) i = refl
room-turn (a ∷ b ∷ c ∷ xs) zero = refl
room-turn (a ∷ b ∷ c ∷ xs) (suc i) = room-turn xs i

pub words-length : (xs : List ℕ) → length (words_of xs) ≡ length (terms_of xs)
unfolding terms_of words_of
words-length [] = refl
words-length (a ∷ []) = refl
words-length (a ∷ b ∷ []) = refl
words-length (a ∷ b ∷ c ∷ xs) = ap suc (words-length xs)

pub room-put : (xs : List ℕ) (i lo hi k : ℕ) → i < length (terms_of xs)
    → terms_of (set (set (set xs (3 * i) lo) (3 * i + 1) hi) (3 * i + 2) k) ≡ set (terms_of xs) i (record { parity = hi * 2 ^ 64 + lo; turn = k % 8 })
unfolding terms_of
room-put [] i lo hi k l = absurd (not-suc-le-zero l)
room-put (a ∷ []) i lo hi k l = absurd (not-suc-le-zero l)
room-put (a ∷ b ∷ []) i lo hi k l = absurd (not-suc-le-zero l)
room-put (a ∷ b ∷ c ∷ xs) zero lo hi k l = refl
room-put (a ∷ b ∷ c ∷ xs) (suc i) lo hi k l =
    let e = after i in
    rw (e.1.1, e.1.0, e.0) (ap (λ (ts : List Term). record { parity = b * 2 ^ 64 + a; turn = c % 8 } ∷ ts) (room-put xs i lo hi k (le_of_suc-le-suc l)))

room-words : (xs : List ℕ) (i lo hi k : ℕ) → i < length (terms_of xs)
    → words_of (set (set (set xs (3 * i) lo) (3 * i + 1) hi) (3 * i + 2) k) ≡ set (words_of xs) i k
unfolding terms_of words_of
room-words [] i lo hi k l = absurd (not-suc-le-zero l)
room-words (a ∷ []) i lo hi k l = absurd (not-suc-le-zero l)
room-words (a ∷ b ∷ []) i lo hi k l = absurd (not-suc-le-zero l)
room-words (a ∷ b ∷ c ∷ xs) zero lo hi k l = refl
room-words (a ∷ b ∷ c ∷ xs) (suc i) lo hi k l =
    let e = after i in
    rw (e.1.1, e.1.0, e.0) (ap (λ (ws : List ℕ). c ∷ ws) (room-words xs i lo hi k (le_of_suc-le-suc l)))

pub room-stores : (xs : List ℕ) (i lo hi k : ℕ) → i < length (terms_of xs)
    → Stores i (record { parity = hi * 2 ^ 64 + lo; turn = k % 8 }) k xs (set (set (set xs (3 * i) lo) (3 * i + 1) hi) (3 * i + 2) k)
room-stores xs i lo hi k l = record {
  terms = room-put xs i lo hi k l;
  words = room-words xs i lo hi k l;
  rest = λ n h.
      drop-set-lt (3 * n) (set (set xs (3 * i) lo) (3 * i + 1) hi) (3 * i + 2) k (omega arith)
      ∙ drop-set-lt (3 * n) (set xs (3 * i) lo) (3 * i + 1) hi (omega arith) ∙ drop-set-lt (3 * n) xs (3 * i) lo (omega arith);
}

-- ---- parts of a room that begin and end between terms

pub room_take : (n : ℕ) (xs : List ℕ) → n ≤ length (terms_of xs) → terms_of (take (3 * n) xs) ≡ take n (terms_of xs)
unfolding terms_of
room_take zero xs l = refl
room_take (suc n) [] l = absurd (not-suc-le-zero l)
room_take (suc n) (a ∷ []) l = absurd (not-suc-le-zero l)
room_take (suc n) (a ∷ b ∷ []) l = absurd (not-suc-le-zero l)
room_take (suc n) (a ∷ b ∷ c ∷ xs) l =
    rw (after n).0 (ap (λ (ts : List Term). record { parity = b * 2 ^ 64 + a; turn = c % 8 } ∷ ts) (room_take n xs (le_of_suc-le-suc l)))

pub room_drop : (n : ℕ) (xs : List ℕ) → n ≤ length (terms_of xs) → terms_of (drop (3 * n) xs) ≡ drop n (terms_of xs)
unfolding terms_of
room_drop zero xs l = refl
room_drop (suc n) [] l = absurd (not-suc-le-zero l)
room_drop (suc n) (a ∷ []) l = absurd (not-suc-le-zero l)
room_drop (suc n) (a ∷ b ∷ []) l = absurd (not-suc-le-zero l)
room_drop (suc n) (a ∷ b ∷ c ∷ xs) l = rw (after n).0 (room_drop n xs (le_of_suc-le-suc l))

pub room-append : (m : ℕ) (xs ys : List ℕ) → length xs ≡ 3 * m → terms_of (xs ++ ys) ≡ terms_of xs ++ terms_of ys
unfolding terms_of
room-append m [] ys e = refl
room-append m (a ∷ []) ys e = absurd (omega arith)
room-append m (a ∷ b ∷ []) ys e = absurd (omega arith)
room-append m (a ∷ b ∷ c ∷ xs) ys e =
    ap (λ (ts : List Term). record { parity = b * 2 ^ 64 + a; turn = c % 8 } ∷ ts) (room-append (m - 1) xs ys (omega arith))

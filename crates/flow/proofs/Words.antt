-- Chunks of some bytes as numbers.
use Rattle.std.proofs.Common.{◌≡◌, refl, ℕ, zero, suc, ◌+◌, ◌*◌, ◌<◌, List, [], take, drop, get_or, ap, ◌∙◌, arith}
use Rattle.std.proofs.lemmas.List.{get_or-take, get_or-drop, drop-drop}
use Rattle.std.specs.Int.{w32, w64, from_le_bytes}
use Rattle.std.specs.Simd.{first_chunks}
use Rattle.flow.specs.Flowing.{word_at, long_at}

pub chunk_at : {X : Type 0} (n count i : ℕ) (xs : List X) → i < count → get_or (first_chunks n count xs) i [] ≡ take n (drop (n * i) xs)
chunk_at n zero i xs h = absurd (omega arith)
chunk_at n (suc count) zero xs h = let none : 0 ≡ n * 0 = omega arith in ap (λ k. take n (drop k xs)) none
chunk_at n (suc count) (suc i) xs h =
    let behind : n + n * i ≡ n * suc i = omega arith in
    chunk_at n count i (drop n xs) (omega arith) ∙ ap (take n) (drop-drop (n * i) n xs ∙ ap (λ k. drop k xs) behind)

-- a byte of a chunk is that of the bytes
module _ (n i : ℕ) (chunk bytes : List ℕ) (is : chunk ≡ take n (drop (n * i) bytes)) where
  byte_at : (k j : ℕ) → k < n → n * i + k ≡ j → get_or chunk k 0 ≡ get_or bytes j 0
  byte_at k j h e = ap (λ l. get_or l k 0) is ∙ get_or-take n (drop (n * i) bytes) k 0 h ∙ get_or-drop (n * i) bytes k 0 ∙ ap (λ m. get_or bytes m 0) e

pub word_is : (i : ℕ) (chunk bytes : List ℕ) → chunk ≡ take 4 (drop (4 * i) bytes) → from_le_bytes w32 chunk ≡ word_at bytes i
word_is i chunk bytes is =
    let at : (k j : ℕ) → k < 4 → 4 * i + k ≡ j → get_or chunk k 0 ≡ get_or bytes j 0 = byte_at 4 i chunk bytes is in
    omega (
      arith,
      at 0 (4 * i) (omega arith) (omega arith),
      at 1 (4 * i + 1) (omega arith) refl,
      at 2 (4 * i + 2) (omega arith) refl,
      at 3 (4 * i + 3) (omega arith) refl,
    )

pub long_is : (i : ℕ) (chunk bytes : List ℕ) → chunk ≡ take 8 (drop (8 * i) bytes) → from_le_bytes w64 chunk ≡ long_at bytes i
long_is i chunk bytes is =
    let at : (k j : ℕ) → k < 8 → 8 * i + k ≡ j → get_or chunk k 0 ≡ get_or bytes j 0 = byte_at 8 i chunk bytes is in
    omega (
      arith,
      at 0 (4 * (2 * i)) (omega arith) (omega arith),
      at 1 (4 * (2 * i) + 1) (omega arith) (omega arith),
      at 2 (4 * (2 * i) + 2) (omega arith) (omega arith),
      at 3 (4 * (2 * i) + 3) (omega arith) (omega arith),
      at 4 (4 * (2 * i + 1)) (omega arith) (omega arith),
      at 5 (4 * (2 * i + 1) + 1) (omega arith) (omega arith),
      at 6 (4 * (2 * i + 1) + 2) (omega arith) (omega arith),
      at 7 (4 * (2 * i + 1) + 3) (omega arith) (omega arith),
    )

-- The rows of a list, by their places.
use mathlib.Core.Path.{◌≡◌, refl, ap, ◌∙◌}
use mathlib.Core.List.{List, []}
use Prim.Native.Nat.{ℕ, zero, suc, ◌+◌, ◌*◌, ◌<◌}
use native.Mathlib.Nat.{mul-zero}
use native.Mathlib.Omega.{arith}
use lib.ListN.{get_or, take, drop}
use lib.Seq.{drop-drop}
use Rattle.std.specs.Simd.{first_chunks}

-- the chunk at a place
pub chunk_at : {A : Type 0} (k n : ℕ) (xs : List A) (i : ℕ) → i < n → get_or (first_chunks k n xs) i [] ≡ take k (drop (k * i) xs)
chunk_at k zero xs i h = absurd (omega arith)
chunk_at k (suc n) xs zero h = rw (mul-zero k) refl
chunk_at k (suc n) xs (suc i) h =
    let e : k + k * i ≡ k * suc i = omega arith in
    chunk_at k n (drop k xs) i (omega arith) ∙ ap (take k) (drop-drop (k * i) k xs ∙ ap (λ (j : ℕ). drop j xs) e)

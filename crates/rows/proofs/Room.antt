-- A row of a room, read and stored.
use mathlib.Core.Path.{◌≡◌, refl, sym, ap, ap₂, ◌∙◌}
use mathlib.Core.List.{List, [], ◌∷◌}
use Prim.Native.Nat.{ℕ, ◌<◌}
use lib.ListN.{length, get_or, get_or-map, set}
use Rattle.std.proofs.lemmas.List.{length-map, map-set, get_or-map as get_or-map-in}
use Rattle.std.specs.List as Slice
use Rattle.rules.specs.Bit.{xor}
use Rattle.rules.specs.Close.{swap}
use Rattle.parity.specs.declared.Parity.{Parity}
use Rattle.parity.specs.View.{val, none}
use Rattle.rows.specs.Rows.{rows_of}

module _ (xs : List Parity) where
  -- the rows are as many as the room's parities
  pub row_count : length (rows_of xs) ≡ length xs
  row_count = length-map xs val

  pub row_get : (i : ℕ) → get_or (rows_of xs) i 0 ≡ val (get_or xs i none)
  row_get i = get_or-map val xs i none

  pub row_put : (i : ℕ) (p : Parity) → rows_of (set xs i p) ≡ set (rows_of xs) i (val p)
  row_put i p = map-set val xs i p

  -- a sum with what row i holds, stored there
  pub row_sum : (i x : ℕ) (p : Parity) → val p ≡ xor (val (get_or xs i none)) x → rows_of (set xs i p) ≡ set (rows_of xs) i (xor (get_or (rows_of xs) i 0) x)
  row_sum i x p e = row_put i p ∙ ap (set (rows_of xs) i) (rw (row_get i) e)

-- the slice's `swap` exchanges the rows
pub row_swap : (xs : List Parity) (i j : ℕ) → i < length xs → j < length xs → rows_of (Slice.swap xs i j) ≡ swap i j (rows_of xs)
unfolding swap
row_swap [] i j h k = refl
row_swap (x ∷ xs) i j h k =
    let ys = x ∷ xs in
    map-set val (set ys i (get_or ys j x)) j (get_or ys i x)
    ∙ ap₂ (λ (m : List ℕ) (v : ℕ). set m j v)
    (map-set val ys i (get_or ys j x) ∙ ap (set (rows_of ys) i) (sym (get_or-map-in val ys j x 0 k)))
    (sym (get_or-map-in val ys i x 0 h))

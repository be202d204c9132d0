-- The paper's choice of a column: the split furthest from even. Document 01 says it by the larger side, as `Best` does.
use Rattle.std.specs.Prelude.{◌≡◌, true, ◌&&◌, cond, List, ℕ, zero, suc, ◌+◌, ◌-◌, ◌*◌, ◌^◌, ◌<◌, length}
use Rattle.rules.specs.Bit.{bit}
use Rattle.rules.specs.Fold.{Term}
use Rattle.rules.specs.Walk.{side, beats}
use Rattle.column.specs.declared.Kept.{Kept}

-- the distance between twice the ones and the size; a difference is never below 0, so one of the two is 0
abbrev pub distance : ℕ → ℕ → ℕ
distance ones size = (2 * ones - size) + (size - 2 * ones)

-- how far the split of a set by the column c is from even
unfoldable pub from_even : ℕ → List Term → ℕ
unfolding side
from_even c ts = distance (length (side true c ts)) (length ts)

-- among the columns below n: the candidate whose split is furthest from even, on a tie the highest, with its distance
unfoldable pub furthest : ℕ → ℕ → List Term → ℕ × ℕ
unfolding bit from_even
furthest zero cs ts = (zero, zero)
furthest (suc c) cs ts =
    let b = furthest c cs ts in
    let d = from_even c ts in
    cond (bit cs c && beats b.1 d) (c, d) b

-- a column with its distance, as `furthest` has them
abbrev pub pair_of : Kept → ℕ × ℕ
pair_of k = (k.column, k.distance)

-- r is the column furthest from even, over any number of columns that has room for the candidates
pub record Furthest (ts : List Term) (cands r : ℕ) : Type 0 where
  pub is : (n : ℕ) → cands < 2 ^ n → r ≡ (furthest n cands ts).0
  pub small : r < 128

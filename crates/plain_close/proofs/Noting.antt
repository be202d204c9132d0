-- Additions noted with no limit: what a column takes, and the map that they are.
use mathlib.Core.Path.{◌≡◌, refl, ap}
use mathlib.Core.Bool.{true}
use mathlib.Core.List.{List, []}
use mathlib.Core.Option.{none, some}
use Prim.Native.Nat.{ℕ, suc, ◌+◌, ◌*◌, ◌≤◌, ◌<◌}
use native.Mathlib.Nat.{mul-le-mul_right}
use native.Mathlib.Omega.{arith}
use lib.IntN.{ℤ}
use lib.ListN.{length}
use Rattle.parity.specs.declared.Parity.{Parity}
use Rattle.rules.specs.Close.{clear, diagonal, eq_rows, closing}
use Rattle.rules.specs.Synth.{emit}
use Rattle.rules.proofs.Counting.{size, column-size}
use Rattle.rules.proofs.Steps.{closing_same}
use Rattle.closing.specs.Additions.{held, wanted}
use Rattle.closing.specs.Emission.{reversed}
use Rattle.closing.proofs.Columns.{held-size}
use Rattle.writing.proofs.Following.{wrote_none}
use Rattle.plain_close.specs.Map.{Follows}

-- ---- a column

-- there is room for it: one addition for the diagonal, and one for each row
pub column-room : (n c k len : ℕ) → c < n → k ≤ c * n → 2 * (n * n + 1) ≤ len → 2 * (k + 1 + n) ≤ len
column-room n c k len l h f = let e : suc c * n ≤ n * n = mul-le-mul_right n l in omega arith

-- and it takes at most n
pub column-ends : (m m₁ m₂ : List Parity) (room room₁ room₂ : List ℕ) (n c k i j : ℕ) → c < n → diagonal n c (held m room k) ≡ some (held m₁ room₁ i)
    → held m₂ room₂ j ≡ clear c n 0 (held m₁ room₁ i) → 2 * k ≤ length room → 2 * j ≤ length room₂ → j ≤ k + n
column-ends m m₁ m₂ room room₁ room₂ n c k i j l d e f g =
    omega (arith, held-size m room k f, held-size m₂ room₂ j g, ap size e, column-size n c (held m room k) (held m₁ room₁ i) l d)

-- ---- the map

pub reversed-none : (rows : List ℕ) → wanted rows ≡ none → reversed rows ≡ none
reversed-none rows e = rw e refl

-- the rows are as wanted: nothing is written
pub follows_same : (from to names : List ℕ) (whole : List ℤ) (k : ℕ) → eq_rows from to ≡ true → Follows (closing from to) names whole k whole k
unfolding emit
follows_same from to names whole k e = record { steps = []; is = closing_same from to e; wrote = wrote_none whole k }

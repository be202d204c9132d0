-- What the doors take and answer: matrices by their words, and of a walk the number of its gates where it was made.
use Rattle.std.specs.Prelude.{◌≡◌, Bool, cond, List, [], ◌∷◌, ℕ, ◌+◌, ◌*◌, ◌-◌, ◌^◌, ℤ, length}
use Rattle.rules.specs.Budget.{Budget}
use Rattle.rules.specs.Fold.{Term}
use Rattle.rules.specs.Walk.{Step, free, node}
use Rattle.rules.specs.Left.{left}
use Rattle.budget.specs.View.{nothing_counted}
use Rattle.walk.specs.Place.{Synthesized}

-- the rows of a room of words, two to a row: the low word, then the high one
unfoldable pub rows_in : List ℕ → List ℕ
rows_in [] = []
rows_in (lo ∷ []) = []
rows_in (lo ∷ hi ∷ xs) = (hi * 2 ^ 64 + lo) ∷ rows_in xs

-- the steps of a walk of all these terms over n columns
abbrev pub whole : ℕ → List Term → List Step
whole n ts = left n (node (2 ^ n - 1) free ts ∷ [])

pub record Walks (two all : ℕ) (names : List ℕ) (ts : List Term) (rows rows' : List ℕ) (out out' : List ℤ) (r : ℕ) : Type 0 where
  pub budget : Budget
  pub within : Bool
  pub made : Synthesized names (whole (length names) ts) out (nothing_counted two all) rows out' budget rows' within
  pub told : r ≡ cond within budget.all (2 ^ 64 - 1)

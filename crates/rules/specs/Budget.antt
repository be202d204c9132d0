-- The budget: two counts and two ceilings. It stops a resynthesis early where it can no longer be kept, and decides nothing (`budget-idle`).
use Rattle.std.specs.Prelude.{Bool, true, false, ◌&&◌, cond, List, [], ◌∷◌, ℕ, zero, ◌+◌, length, leb}
use Rattle.rules.specs.Gate.{Gate}
use Rattle.rules.specs.Counts.{is_two, twos}

-- CNOT and CZ counted, gates counted, and the block's own numbers of each
pub record Budget : Type 0 where
  pub two : ℕ
  pub all : ℕ
  pub max_two : ℕ
  pub max_all : ℕ

-- both counts are within the ceilings
abbrev pub within : Budget → Bool
within b = leb b.two b.max_two && leb b.all b.max_all

-- one gate is counted
abbrev pub push : Gate → Budget → Budget
push g b = record { two = cond (is_two g.code) 1 0 + b.two; all = 1 + b.all; max_two = b.max_two; max_all = b.max_all }

-- the gates are counted one by one, for as long as both counts are within the ceilings
unfoldable pub spend : List Gate → Budget → Bool
spend [] b = true
spend (g ∷ gs) b = let rest = spend gs (push g b) in cond (within (push g b)) rest false

-- the budget of a block
abbrev pub budget_of : List Gate → Budget
budget_of old = record { two = zero; all = zero; max_two = twos old; max_all = length old }

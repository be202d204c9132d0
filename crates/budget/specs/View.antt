-- The code's budget as document 01's, and one gate counted by whether it is a CNOT or CZ.
use Rattle.std.specs.Prelude.{◌≡◌, Bool, true, false, cond, ℕ, zero, ◌+◌, ◌^◌, ◌<◌, Result, Ok, Err}
use Rattle.rules.specs.Budget as Rules
use Rattle.budget.specs.declared.Budget.{Budget}
use Rattle.budget.specs.declared.Spent.{Spent}

abbrev pub view : Budget → Rules.Budget
view b = record { two = b.two; all = b.all; max_two = b.maxtwo; max_all = b.maxall }

-- nothing is counted yet, under these ceilings
abbrev pub nothing_counted : ℕ → ℕ → Rules.Budget
nothing_counted two all = record { two = zero; all = zero; max_two = two; max_all = all }

-- the counts of a result, whichever it is
abbrev pub counts_after : Result Budget Spent → Rules.Budget
counts_after (Ok b) = view b
counts_after (Err s) = view s.0

-- it is not spent
abbrev pub made : Result Budget Spent → Bool
made (Ok b) = true
made (Err s) = false

-- one gate is counted; for a gate's own `pair` this is the rules' `push` (`counts-push`)
abbrev pub counts : Bool → Rules.Budget → Rules.Budget
counts pair b = record { two = cond pair 1 0 + b.two; all = 1 + b.all; max_two = b.max_two; max_all = b.max_all }

-- counts that have room for one more
pub record Low (b : Budget) : Type 0 where
  pub two : b.two < 2 ^ 63
  pub all : b.all < 2 ^ 63

-- what `push` makes of a budget, and answers: one gate more, and whether that is within the ceilings
pub record Push (pair : Bool) (b b' : Rules.Budget) (answer : Bool) : Type 0 where
  pub budget : b' ≡ counts pair b
  pub within : answer ≡ Rules.within (counts pair b)

-- Counting by `pair` is the rules' counting of a gate.
use mathlib.Core.Path.{◌≡◌, sym, ap}
use mathlib.Core.Bool.{Bool}
use Rattle.rules.specs.Gate.{Gate}
use Rattle.rules.specs.Counts.{is_two}
use Rattle.rules.specs.Budget as Rules
use Rattle.budget.specs.View.{counts}

pub counts-push : (g : Gate) (pair : Bool) (b : Rules.Budget) → is_two g.code ≡ pair → counts pair b ≡ Rules.push g b
counts-push g pair b e = ap (λ (p : Bool). counts p b) (sym e)

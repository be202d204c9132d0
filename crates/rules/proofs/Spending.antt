-- The budget decides nothing: what it stops would not have been kept.
use mathlib.Core.Path.{◌≡◌, refl, ap}
use mathlib.Core.Bool.{Bool, true, ◌&&◌, and-false}
use mathlib.Core.List.{List, [], ◌∷◌}
use Prim.Native.Nat.{◌+◌, ◌≤◌}
use native.Mathlib.Omega.{arith}
use lib.ListN.{length}
use borrow.Author.Tests.{le-leb}
use Rattle.rules.specs.Gate.{Gate}
use Rattle.rules.specs.Counts.{twos, cheaper}
use Rattle.rules.specs.Budget.{Budget, within, push, spend, budget_of}
use Rattle.rules.proofs.Bits.{split}
use Rattle.rules.proofs.Passing.{cheaper-is}

within-le : (b : Budget) → b.two ≤ b.max_two → b.all ≤ b.max_all → within b ≡ true
within-le b h k = rw (le-leb b.two b.max_two h, le-leb b.all b.max_all k)

-- if both totals fit, every gate is counted
pub spend-all : (gs : List Gate) (b : Budget) → twos gs + b.two ≤ b.max_two → length gs + b.all ≤ b.max_all → spend gs b ≡ true
unfolding spend twos
spend-all [] b h k = refl
spend-all (g ∷ gs) b h k =
    rw (within-le (push g b) (omega arith) (omega arith)) (spend-all gs (push g b) (omega arith) (omega arith))

-- so to test the budget beforehand changes no choice
pub budget-idle : (new old : List Gate) → (spend new (budget_of old) && cheaper new old) ≡ cheaper new old
budget-idle new old =
    split (cheaper new old)
    (λ e. let c = cheaper-is new old e in
    ap (λ (z : Bool). z && cheaper new old) (spend-all new (budget_of old) (omega (arith, c.1)) (omega (arith, c.0))))
    (λ e. rw e (and-false (spend new (budget_of old))))

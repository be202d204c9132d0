-- What a stack of the walk has left to make. A loop that makes the walk a visit at a time is proved against this.
use Rattle.std.specs.Prelude.{◌≡◌, Bool, List, [], ◌∷◌, ◌++◌, ℕ, zero, suc, ◌+◌, ◌*◌, ◌^◌, ◌≤◌, ◌<◌, length}
use Rattle.rules.specs.Bit.{bit}
use Rattle.rules.specs.Meaning.{when1}
use Rattle.rules.specs.Walk.{Step, cn, Aim, free, on, owes, Node, walk}

-- the CNOT that a node owes
abbrev pub pay : Aim → List Step
pay free = []
pay (on t) = []
pay (owes p t) = cn p t ∷ []

-- how many of the first n bits are set
unfoldable pub tally : ℕ → (ℕ → Bool) → ℕ
tally zero f = zero
tally (suc n) f = when1 (f n) 1 + tally n f

-- visits that a node and the nodes after its splits can take, at most
unfoldable pub weight : ℕ → List Node → ℕ
unfolding tally bit
weight n [] = zero
weight n (d ∷ st) = 3 * tally n (bit d.cands) * length d.set + 1 + length (pay d.aim) + weight n st

-- the steps that a stack has left to make; that many visits are enough (`walk-idle`)
unfoldable pub left : ℕ → List Node → List Step
unfolding walk weight
left n st = walk n (weight n st) st

-- each node's candidates, with the nodes from it down, are at most n + 1
unfoldable pub Stairs : ℕ → List Node → Type 0
unfolding tally bit
Stairs n [] = Unit {0}
Stairs n (d ∷ st) = ((d.cands < 2 ^ n) × (tally n (bit d.cands) + length st ≤ n)) × Stairs n st

-- the steps ss lead from a stack to another: they, and then what that has left, are what was left, and it is lighter
pub record Leads (n : ℕ) (st : List Node) (ss : List Step) (su : List Node) : Type 0 where
  pub whole : left n st ≡ ss ++ left n su
  pub stairs : Stairs n su
  pub lighter : weight n su < weight n st

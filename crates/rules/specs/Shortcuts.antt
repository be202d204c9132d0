-- What the code's shortcuts through the walk say of themselves: columns that no term has are dropped, a node of one term is run down at once.
use Rattle.std.specs.Prelude.{Bool, false, ◌||◌, cond, List, [], ◌∷◌, ◌++◌, ℕ, zero, suc}
use Rattle.rules.specs.Bit.{bit, xor}
use Rattle.rules.specs.Fold.{Term}
use Rattle.rules.specs.Walk.{Step, cn, on, turns, leaf}

-- some term has the column c
unfoldable pub any : ℕ → List Term → Bool
unfolding bit
any c [] = false
any c (t ∷ ts) = bit t.parity c || any c ts

-- the CNOTs to t from the columns of a mask below n, from the highest down
unfoldable pub downs : ℕ → ℕ → ℕ → List Step
unfolding bit
downs zero t mask = []
downs (suc n) t mask = let r = downs n t mask in cond (bit mask n) (cn n t ∷ r) r

-- and then the rotation of t
unfoldable pub run : ℕ → ℕ → ℕ → List Term → List Step
unfolding downs turns
run n t mask ts = downs n t mask ++ leaf (on t) ts

-- all these CNOTs at once: a waiting parity with bit t has the mask's columns flipped
unfoldable pub flipped : ℕ → ℕ → ℕ → ℕ
unfolding bit
flipped mask t v = cond (bit v t) (xor v mask) v

-- and so has every term of a set
unfoldable pub flip_terms : ℕ → ℕ → List Term → List Term
unfolding flipped
flip_terms mask t [] = []
flip_terms mask t (e ∷ es) = record { parity = flipped mask t e.parity; turn = e.turn } ∷ flip_terms mask t es

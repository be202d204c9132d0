-- How many CNOTs and how many rotations some steps are.
use Rattle.std.specs.Prelude.{List, [], ◌∷◌, ℕ, zero, suc}
use Rattle.rules.specs.Walk.{Step, cn, rot}

unfoldable pub cnots : List Step → ℕ
cnots [] = zero
cnots (cn p t ∷ ss) = suc (cnots ss)
cnots (rot q k ∷ ss) = cnots ss

unfoldable pub rots : List Step → ℕ
rots [] = zero
rots (cn p t ∷ ss) = rots ss
rots (rot q k ∷ ss) = suc (rots ss)

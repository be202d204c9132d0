-- The terms that enter the walk: those other than 0 stand first in the room, and the walk over them alone is document 01's.
use mathlib.Core.Path.{◌≡◌, sym, ap, ◌∙◌}
use mathlib.Core.List.{List, [], ◌∷◌}
use Prim.Native.Nat.{ℕ, ◌-◌, ◌*◌, ◌^◌, ◌≤◌}
use native.Mathlib.Omega.{arith}
use lib.ListN.{length, take, length-take}
use Rattle.rules.specs.Fold.{Term}
use Rattle.rules.specs.Walk.{free, nonzero, phase_walk, node}
use Rattle.rules.specs.Left.{left}
use Rattle.rules.proofs.Visiting.{left-first}
use Rattle.terms.specs.Terms.{terms_of, Begins}
use Rattle.terms.proofs.Room.{room_take}

module _ (n r : ℕ) (xs ys : List ℕ) (b : Begins (nonzero (take n (terms_of xs))) r n (terms_of xs) (terms_of ys)) where
  pub entering-few : r ≤ length (terms_of ys)
  entering-few = omega (arith, ap length b.front, b.many, length-take r (terms_of ys))

  pub entering-walk : (k : ℕ) → left k (node (2 ^ k - 1) free (terms_of (take (3 * r) ys)) ∷ []) ≡ phase_walk k (take n (terms_of xs))
  entering-walk k =
      ap (λ (ts : List Term). left k (node (2 ^ k - 1) free ts ∷ [])) (room_take r ys entering-few ∙ b.front) ∙ sym (left-first k (take n (terms_of xs)))

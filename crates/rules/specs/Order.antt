-- The same terms in another order.
use Rattle.std.specs.Prelude.{List, [], ◌∷◌, ℕ}
use Rattle.rules.specs.Fold.{Term}
use Rattle.rules.specs.Walk.{Aim, Node, node}

pub data Shuffled : List Term → List Term → Type 0 where
  same : {l : List Term} → Shuffled l l
  keep : {t : Term} {l m : List Term} → Shuffled l m → Shuffled (t ∷ l) (t ∷ m)
  swap : {t u : Term} {l : List Term} → Shuffled (t ∷ u ∷ l) (u ∷ t ∷ l)
  next : {l m k : List Term} → Shuffled l m → Shuffled m k → Shuffled l k

-- the same nodes, but for the order within each set
pub data Stacked : List Node → List Node → Type 0 where
  none : Stacked [] []
  more : {cs : ℕ} {a : Aim} {ts us : List Term} {st su : List Node} → Shuffled ts us → Stacked st su → Stacked (node cs a ts ∷ st) (node cs a us ∷ su)

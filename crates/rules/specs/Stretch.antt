-- Stretches: a list as its runs of fragment gates and the opaque gates between them.
use Rattle.std.specs.Prelude.{◌≡◌, cond, List, [], ◌∷◌, map}
use Rattle.rules.specs.Gate.{Gate}
use Rattle.rules.specs.Meaning.{op, opaque, Alike}

-- an opaque gate, and the stretch after it
pub record Later : Type 0 where
  pub gate : Gate
  pub stretch : List Gate

pub record Parts : Type 0 where
  pub first : List Gate
  pub rest : List Later

-- the list, cut at the gates outside the fragment
unfoldable pub parts : List Gate → Parts
unfolding op
parts [] = record { first = []; rest = [] }
parts (g ∷ gs) =
    let p = parts gs in
    cond (opaque (op g)) (record { first = []; rest = record { gate = g; stretch = p.first } ∷ p.rest }) (record { first = g ∷ p.first; rest = p.rest })

-- as many opaque gates on both sides, the same field for field and in order, and each stretch after one stands in R to its counterpart
abbrev pub Paired : (List Gate → List Gate → Type 0) → List Later → List Later → Type 0
Paired R [] [] = Unit {0}
Paired R [] (b ∷ bs) = ⊥
Paired R (a ∷ as') [] = ⊥
Paired R (a ∷ as') (b ∷ bs) = (a.gate ≡ b.gate) × R a.stretch b.stretch × Paired R as' bs

-- the opaque gates are the same, and each stretch of the new list stands in R to its counterpart in the old
pub record Stretchwise (R : List Gate → List Gate → Type 0) (new old : List Gate) : Type 0 where
  pub first : R (parts new).first (parts old).first
  pub rest : Paired R (parts new).rest (parts old).rest

-- the two stretches act alike
abbrev pub AlikeGates : List Gate → List Gate → Type 0
AlikeGates new old = Alike (map op new) (map op old)

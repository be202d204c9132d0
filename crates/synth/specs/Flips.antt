-- The x gates of a block's constants, by local index.
use Rattle.std.specs.Prelude.{Bool, cond, List, [], ◌∷◌, ℕ, zero, suc, get_or}
use Rattle.rules.specs.Gate.{Gate, gate1, code_x}
use Rattle.rules.specs.Bit.{bit}

-- an x, or nothing
abbrev pub flip_if : Bool → ℕ → List Gate
flip_if on q = cond on (gate1 code_x q ∷ []) []

-- an x on each of n local indices from i on whose constant is true, ascending
unfoldable pub flips_from : List ℕ → ℕ → ℕ → ℕ → List Gate
unfolding bit
flips_from names flips zero i = []
flips_from names flips (suc n) i = let rest = flips_from names flips n (suc i) in cond (bit flips i) (gate1 code_x (get_or names i 0) ∷ rest) rest

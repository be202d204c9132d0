-- The counts of all columns at once, a plane for each binary digit: plane k has the columns whose count has digit k.
use Rattle.std.specs.Prelude.{◌≡◌, Bool, true, ◌&&◌, cond, List, [], ◌∷◌, ℕ, ◌+◌, ◌*◌, ◌≤◌, ◌<◌, eqb}
use Rattle.rules.specs.Bit.{◌⊕◌, bit}

-- a parity's share in the count of column c
abbrev pub one : ℕ → ℕ → ℕ
one p c = cond (bit p c) 1 0

-- the count of column c, from its lowest digit on; where f is true every digit is exchanged
unfoldable pub tally : Bool → ℕ → List ℕ → ℕ
tally f c [] = 0
tally f c (p ∷ ps) = cond (f ⊕ bit p c) 1 0 + 2 * tally f c ps

-- r has the candidates whose count is the largest, with the digits exchanged on the columns of `flip`
pub record Sifted (cands flip : ℕ) (ps : List ℕ) (r : ℕ) : Type 0 where
  pub most : ℕ
  pub under : (j : ℕ) → bit cands j ≡ true → tally (bit flip j) j ps ≤ most
  pub is : (j : ℕ) → bit r j ≡ (bit cands j && eqb (tally (bit flip j) j ps) most)
  pub some : 0 < cands → 0 < r

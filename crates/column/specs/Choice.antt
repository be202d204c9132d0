-- What the choice of a column promises, of a set of terms and the candidates.
use Rattle.std.specs.Prelude.{◌≡◌, Bool, true, false, ◌&&◌, ◌||◌, List, ℕ, ◌<◌, ◌^◌, eqb, length}
use Rattle.rules.specs.Bit.{bit}
use Rattle.rules.specs.Fold.{Term}
use Rattle.rules.specs.Walk.{side, score, best}

-- r has the candidates on which all parities agree: those whose larger side is the whole set
pub record Agreed (ts : List Term) (cands r : ℕ) : Type 0 where
  pub fits : (i : ℕ) → bit r i ≡ true → (bit cands i ≡ true) × (score i ts ≡ length ts)
  pub others : (i : ℕ) → bit cands i ≡ true → bit r i ≡ false → score i ts < length ts

-- exactly one parity lacks the column, or exactly one has it
abbrev pub lone : ℕ → List Term → Bool
lone i ts = eqb (length (side false i ts)) 1 || eqb (length (side true i ts)) 1

-- r has the candidates on which all parities but one agree
pub record Nearly (ts : List Term) (cands r : ℕ) : Type 0 where
  pub is : (i : ℕ) → bit r i ≡ (bit cands i && lone i ts)

-- r is the best column, over any number of columns that has room for the candidates
pub record Best (ts : List Term) (cands r : ℕ) : Type 0 where
  pub is : (n : ℕ) → cands < 2 ^ n → r ≡ (best n cands ts).0
  pub small : r < 128

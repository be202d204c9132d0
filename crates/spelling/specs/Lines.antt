-- Reading line by line, with the line's number at hand.
use Rattle.std.specs.Prelude.{ℕ, suc, List}
use Rattle.text.specs.Reading.{Found, none, found}

-- what some lines come to: the number of the first that is malformed or missing; or a value, the next line's number, and what is left
pub data Lines (A : Type 0) : Type 0 where
  bad : ℕ → Lines A
  good : A → ℕ → List ℕ → Lines A

-- one line, whose number is k, by what its form finds; and the lines behind it
abbrev pub line : {A B : Type 0} → ℕ → Found A → (A → ℕ → List ℕ → Lines B) → Lines B
line k none next = bad k
line k (found v left) next = next v (suc k) left

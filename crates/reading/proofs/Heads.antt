-- The head's first line says four numbers or five.
use mathlib.Core.Path.{◌≡◌}
use mathlib.Core.Logic.{◌⊎◌, inl, inr}
use mathlib.Core.Bool.{◌||◌}
use mathlib.Core.List.{List}
use Prim.Native.Nat.{ℕ, suc, ◌+◌, ◌-◌}
use native.Mathlib.Omega.{arith}
use lib.Dec.{eqb}
use Rattle.text.specs.Reading.{found, count_line}
use Rattle.spelling.specs.Texts.{head_word}
use Rattle.spelling.specs.Reading.{head_line}
use Rattle.spelling.proofs.Spelling.{such-read, one_of}

head_count : (n : ℕ) (bs rest : List ℕ) → head_line bs ≡ found n rest → (n ≡ 4) ⊎ (n ≡ 5)
unfolding head_line
head_count n bs rest e = one_of 4 5 n (such-read (λ n. eqb n 4 || eqb n 5) (count_line head_word bs) n rest e).1

-- the number of the line behind the head's
pub ahead : (k n : ℕ) (bs rest : List ℕ) → head_line bs ≡ found n rest → k + 1 + n ≡ suc (suc (suc (suc (suc k)))) + (n - 4)
ahead k n bs rest e = go (head_count n bs rest e)
  where
    go : (n ≡ 4) ⊎ (n ≡ 5) → k + 1 + n ≡ suc (suc (suc (suc (suc k)))) + (n - 4)
    go (inl h) = omega arith
    go (inr h) = omega arith

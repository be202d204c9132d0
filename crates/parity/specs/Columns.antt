-- The lowest and the highest column of a parity, and the parity without its lowest.
use Rattle.std.specs.Prelude.{◌≡◌, true, false, ℕ, ◌-◌, ◌<◌}
use Rattle.std.specs.Int.Bits.{bit_and}
use Rattle.std.specs.Int.Count.{count_trailing_zeros, count_leading_zeros}
use Rattle.rules.specs.Bit.{bit}

-- n with its lowest column out; 0 stays 0
unfoldable pub clear_lowest : ℕ → ℕ
clear_lowest n = bit_and n (n - 1)

-- t is the lowest column of n
pub record Lowest (n t : ℕ) : Type 0 where
  pub set : bit n t ≡ true
  pub below : (j : ℕ) → j < t → bit n j ≡ false

-- t is the highest column of n
pub record Highest (n t : ℕ) : Type 0 where
  pub set : bit n t ≡ true
  pub above : (j : ℕ) → t < j → bit n j ≡ false

-- what a search for the lowest of 128 columns answers: 128 where there is none
pub record LowestIs (n r : ℕ) : Type 0 where
  pub exact : r ≡ count_trailing_zeros 128 n
  pub low : 0 < n → Lowest n r
  pub small : 0 < n → r < 128

-- what a search for the highest of 128 columns answers: 0 where there is none
pub record HighestIs (n r : ℕ) : Type 0 where
  pub exact : r ≡ 127 - count_leading_zeros 128 n
  pub high : 0 < n → Highest n r
  pub small : r < 128

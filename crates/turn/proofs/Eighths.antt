-- A signed number divided by 8, as the machine does it, and `turn8`.
use Rattle.std.proofs.Common.{ℕ, zero, suc, ◌/◌, ◌<◌, ◌≤◌, ℤ, pos, negsuc, neg_ℤ, div-le_self, arith}
use lib.Signed.{mag, quot_z}
use Rattle.rules.specs.Meaning.{turn8}

-- a quotient is no larger than what was divided
pub mag-quot : (z : ℤ) (d : ℕ) → mag (quot_z z (pos d)) ≤ mag z
mag-quot (pos n) d = div-le_self n d
mag-quot (negsuc n) d = go (suc n / d) (div-le_self (suc n) d)
  where
    go : (q : ℕ) → q ≤ suc n → mag (neg_ℤ (pos q)) ≤ n
    go zero h = omega arith
    go (suc q) h = omega arith

pub turn8-lt : (z : ℤ) → turn8 z < 8
turn8-lt (pos n) = omega arith
turn8-lt (negsuc n) = omega arith

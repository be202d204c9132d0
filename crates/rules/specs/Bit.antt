-- Bits, and parities as numbers: bit i of a parity is set when local index i is in it.
use Rattle.std.specs.Prelude.{Bool, true, false, not, ◌&&◌, ℕ, zero, suc, ◌/◌, ◌%◌, ◌^◌}
use Rattle.std.specs.Int.Bits.{bit_xor}

-- the sum of two bits
infixl 30 ◌⊕◌
abbrev pub ◌⊕◌ : Bool → Bool → Bool
false ⊕ b = b
true ⊕ b = not b

abbrev pub is_set : ℕ → Bool
is_set zero = false
is_set (suc m) = true

unfoldable pub bit : ℕ → ℕ → Bool
bit p i = is_set (p / 2 ^ i % 2)

-- the sum of two parities: the indices that are in one of them and not in both
unfoldable pub xor : ℕ → ℕ → ℕ
xor p q = bit_xor p q

-- the sum of the bits f 0 .. f (n - 1)
unfoldable pub sum : ℕ → (ℕ → Bool) → Bool
sum zero f = false
sum (suc n) f = f n ⊕ sum n f

-- the parity p of the values x, over n local indices
unfoldable pub dot : ℕ → ℕ → (ℕ → Bool) → Bool
unfolding sum bit
dot n p x = sum n (λ i. bit p i && x i)

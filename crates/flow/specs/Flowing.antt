-- Numbers as bytes, the lowest first, and what the functions keep: what waits within its rooms.
use Rattle.std.specs.Prelude.{◌≡◌, cond, List, ℕ, ◌+◌, ◌-◌, ◌*◌, ◌≤◌, ◌<◌, ltb, ℤ, pos, negsuc, length, get_or}
use Rattle.flow.specs.declared.Places.{Places}

-- the number of four bytes
abbrev pub joined : ℕ → ℕ → ℕ → ℕ → ℕ
joined a b c d = a + 256 * b + 65536 * c + 16777216 * d

-- number i of the bytes, 32 and 64 bits each
abbrev pub word_at : List ℕ → ℕ → ℕ
word_at bytes i = joined (get_or bytes (4 * i) 0) (get_or bytes (4 * i + 1) 0) (get_or bytes (4 * i + 2) 0) (get_or bytes (4 * i + 3) 0)

abbrev pub long_at : List ℕ → ℕ → ℕ
long_at bytes i = word_at bytes (2 * i) + 4294967296 * word_at bytes (2 * i + 1)

-- the signed number with the same 32 bits
abbrev pub signed : ℕ → ℤ
signed x = cond (ltb x 2147483648) (pos x) (negsuc (4294967295 - x))

-- the numbers of the bytes
abbrev pub Loaded : List ℕ → List ℤ → Type 0
Loaded bytes list = (i : ℕ) → i < length list → get_or list i (pos 0) ≡ signed (word_at bytes i)

-- the bytes that wait lie within an input of i bytes and an output of o bytes
pub record Held (p : Places) (i o : ℕ) : Type 0 where
  pub waits : p.at ≤ p.end
  pub ends : p.end ≤ i
  pub writes : p.used ≤ o

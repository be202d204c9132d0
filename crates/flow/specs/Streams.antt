-- What the streams carry, where it is known: the bytes that are still to be used and those that were put, however many of them wait in a room.
use Rattle.std.specs.Prelude.{ℕ, List, [], ◌∷◌, ◌++◌, ◌-◌, ◌/◌, ◌%◌, ◌<◌, length, take, slice_range, Option, ℤ, pos, negsuc}
use Rattle.std.specs.Io.KnownBytes.{Appends, prepend_known}
pub use Rattle.streams.specs.Waiting.{gone}

-- the bytes of the input from `at` to `end`, then those that the reader has left
abbrev pub coming : Option (List ℕ) → List ℕ → ℕ → ℕ → Option (List ℕ)
coming left input at end = prepend_known (slice_range input at end) left

-- the four bytes of a number, the lowest first
abbrev pub spelled : ℕ → List ℕ
spelled x = x % 256 ∷ x / 256 % 256 ∷ x / 65536 % 256 ∷ x / 16777216 ∷ []

-- the number with the same 32 bits
abbrev pub unsigned : ℤ → ℕ
unsigned (pos n) = n
unsigned (negsuc n) = 4294967295 - n

-- the bytes of each number's 32 bits
abbrev pub spelled_all : {A : Type 0} → (A → ℕ) → List A → List ℕ
spelled_all bits [] = []
spelled_all bits (x ∷ xs) = spelled (bits x) ++ spelled_all bits xs

-- the first `count` numbers were put behind what had gone, and no other; `held` is what the writer held before the write that failed
pub record PutSome {A : Type 0} (old : Option (List ℕ)) (bytes : List ℕ) (used : ℕ) (bits : A → ℕ) (numbers : List A) : Type 0 where
  pub count : ℕ
  pub held : Option (List ℕ)
  pub fewer : count < length numbers
  pub put : Appends old (gone held bytes used) (spelled_all bits (take count numbers))

-- A text is a list of bytes.
use Rattle.std.specs.Prelude.{Bool, ◌&&◌, List, [], ◌∷◌, ◌++◌, ℕ, ◌+◌, leb, length, get_or, take, drop}
use Prim.Native.Char.{code}
use Prim.Native.String.{String, [] as empty, ◌∷◌ as ◌then◌}

-- a word of the format. Its characters are plain, so that each is one byte
abbrev pub bytes : String → List ℕ
bytes empty = []
bytes (c then s) = code c ∷ bytes s

-- every line ends in LF
abbrev pub lf : ℕ
lf = code "\n"

-- one space between numbers
abbrev pub blank : ℕ
blank = code " "

-- a minus where needed, no plus
abbrev pub minus : ℕ
minus = code "-"

-- numbers are decimal
abbrev pub nought : ℕ
nought = code "0"

abbrev pub is_digit : ℕ → Bool
is_digit b = leb nought b && leb b (code "9")

-- the first byte. Where there is none it is 0, which no text of the format has
abbrev pub first : List ℕ → ℕ
first bs = get_or bs 0 0

-- a room with something written from a place on; what stands before and behind it is as it was
abbrev pub pasted : {A : Type 0} → List A → ℕ → List A → List A
pasted room at new = take at room ++ new ++ drop (at + length new) room

-- Rooms that are marked, and looked at afterwards.
use Rattle.std.specs.Prelude.{◌≡◌, Bool, true, ◌&&◌, cond, List, ℕ, zero, suc, ◌+◌, ◌-◌, ◌%◌, ◌<◌, ltb, ℤ, negsuc, length, get_or}

-- the mark of a place: -1, -2, .. in 32 signed bits, and as many below the largest number of 64 and of 32 bits; no mark is 0
abbrev pub out_mark : ℕ → ℤ
out_mark i = negsuc (i % 65536)

abbrev pub term_mark : ℕ → ℕ
term_mark i = 18446744073709551615 - i % 65536

abbrev pub step_mark : ℕ → ℕ
step_mark i = 4294967295 - i % 65536

-- every number of a room is its mark
abbrev pub Marked : {A : Type 0} → (ℕ → A) → A → List A → Type 0
Marked mark none room = (i : ℕ) → i < length room → get_or room i none ≡ mark i

-- what is due at a place: no mark below `to`, its mark from there on
abbrev pub due : {A : Type 0} → (ℕ → A) → A → ℕ → ℕ → A
due mark none to i = cond (ltb i to) none (mark i)

-- a test of n places from i on
unfoldable pub every : (ℕ → Bool) → ℕ → ℕ → Bool
every test zero i = true
every test (suc n) i = test i && every test n (suc i)

-- the room has what is due, from a place on
abbrev pub right : {A : Type 0} → (A → A → Bool) → (ℕ → A) → A → List A → ℕ → ℕ → Bool
right same mark none room from to = every (λ i. same (get_or room i none) (due mark none to i)) (length room - from) from

-- the sum of 1, 2 and 4 for the rooms that are right
abbrev pub sum_of : Bool → Bool → Bool → ℕ
sum_of out terms steps = cond out 1 0 + (cond terms 2 0 + cond steps 4 0)

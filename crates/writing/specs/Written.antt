-- Gates written one behind another in a room of their own. Nothing is compared: each is written, and how many stand there is known.
use Rattle.std.specs.Prelude.{◌≡◌, List, ◌++◌, ℕ, ◌+◌, ◌*◌, ◌≤◌, ℤ, length, take}
use Rattle.rules.specs.Limits.{width}
use Rattle.rules.specs.Gate.{Gate}
use Rattle.rules.specs.Numbers.{numbers_of}

-- the room begins with these gates, k of them
pub record Stands (whole : List ℤ) (k : ℕ) (gs : List Gate) : Type 0 where
  pub text : take (width * length gs) whole ≡ numbers_of gs
  pub count : k ≡ length gs

-- from a room with k gates to one with k': the new ones follow those that stood there
pub record Wrote (new : List Gate) (whole : List ℤ) (k : ℕ) (whole' : List ℤ) (k' : ℕ) : Type 0 where
  pub made : (gs : List Gate) → Stands whole k gs → Stands whole' k' (gs ++ new)
  pub count : k' ≡ k + length new
  pub size : length whole' ≡ length whole

-- there is room for n gates behind the first k
abbrev pub Fits : List ℤ → ℕ → ℕ → Type 0
Fits whole k n = width * (k + n) ≤ length whole

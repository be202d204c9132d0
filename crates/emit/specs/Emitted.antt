-- Gates appended at a block's own place in the output, counted by a budget that may be spent on the way.
use Rattle.std.specs.Prelude.{◌≡◌, Bool, true, false, List, ◌++◌, ◌*◌, ◌^◌, ◌≤◌, ◌<◌, ℤ, length, take}
use Rattle.rules.specs.Limits.{width}
use Rattle.rules.specs.Gate.{Gate}
use Rattle.rules.specs.Numbers.{numbers_of}
use Rattle.rules.specs.Counts.{twos}
use Rattle.rules.specs.Budget.{Budget}

-- the room begins with the gates, and the budget has counted them
pub record Holds (out : List ℤ) (b : Budget) (gs : List Gate) : Type 0 where
  pub text : take (width * length gs) out ≡ numbers_of gs
  pub two : b.two ≡ twos gs
  pub all : b.all ≡ length gs

-- the counts are within the ceilings, for which there is room
pub record Ready (out : List ℤ) (b : Budget) : Type 0 where
  pub two : b.two ≤ b.max_two
  pub all : b.all ≤ b.max_all
  pub room : width * b.max_all ≤ length out
  pub few : b.max_two < 2 ^ 32

-- the gates pass a ceiling, so that they can't be kept
pub data Passes (b : Budget) (gs : List Gate) : Type 0 where
  dear : b.max_two < twos gs → Passes b gs
  long : b.max_all < length gs → Passes b gs

-- from a room and a budget to those after: made, and the new gates follow those that stood there; or spent, and with them a ceiling is passed
pub record Emits (new : List Gate) (out : List ℤ) (b : Budget) (out' : List ℤ) (b' : Budget) (within : Bool) : Type 0 where
  pub made : within ≡ true → (gs : List Gate) → Holds out b gs → Holds out' b' (gs ++ new)
  pub spent : within ≡ false → (gs : List Gate) → Holds out b gs → Passes b (gs ++ new)
  pub ready : within ≡ true → Ready out' b'
  pub max_two : b'.max_two ≡ b.max_two
  pub max_all : b'.max_all ≡ b.max_all
  pub size : length out' ≡ length out

-- The answer of two lists as a caller in another language gets it: one number.
use Rattle.std.specs.Prelude.{◌≡◌, Result, Ok, Err, List, ℕ, ◌+◌, ◌*◌, ◌^◌, ◌<◌, ℤ}
use Rattle.acting.specs.Alike.{number_of}
use Rattle.alike.specs.Answering as Alike
use Rattle.alike.specs.declared.Blame.{Blame}
use Rattle.acting.specs.declared.Verdict.{Verdict}

-- 0 same, 1 linear map, 2 flips, 3 phase; else the refusal's list * 2^56 + its field * 2^48 + its number * 2^32 + its place
abbrev pub coded_pair : Alike.Answer → ℕ
coded_pair (Alike.refusal which r) = which * 2 ^ 56 + r.field * 2 ^ 48 + r.number * 2 ^ 32 + r.place
coded_pair (Alike.says v) = number_of v

-- the place fits 32 bits
unfoldable pub Blamed : Result Verdict Blame → Type 0
Blamed (Err b) = b.refusal.place < 2 ^ 32
Blamed (Ok v) = Unit {0}

-- the answer is one that `alike` gives, by its number
pub record ExportsAlike (first second : List ℤ) (w r : ℕ) : Type 0 where
  pub answer : Result Verdict Blame
  pub answers : Alike.Answers first second w answer
  -- wrong: the list left out; number and field exchanged
  pub number : r ≡ coded_pair (Alike.told answer)

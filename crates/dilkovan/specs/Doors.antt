-- Answers as a caller in another language gets them: one number, and the counts in a room of eight; of a text, one number and the length.
use Rattle.std.specs.Prelude.{◌≡◌, cond, Result, Ok, Err, List, [], ◌∷◌, ℕ, ◌+◌, ◌*◌, ◌^◌, ◌<◌, ℤ}
use Rattle.rules.specs.Pass as Paper
use Rattle.cnot_min.specs.Minimizing.{told, Minimizes}
use Rattle.cnot_min.specs.declared.Counts.{Counts}
use Rattle.gate.specs.declared.Refusal.{Refusal}
use Rattle.saying.specs.Answer as Text
use Rattle.saying.specs.declared.Said.{Said}

-- 0 where it is done; else the refusal's field * 2^48 + its number * 2^32 + its place
abbrev pub coded : Paper.Answer → ℕ
coded (Paper.refusal r) = r.field * 2 ^ 48 + r.number * 2 ^ 32 + r.place
coded (Paper.done c) = 0

-- the eight counts, in document 01's order
abbrev pub listed : Paper.Counts → List ℕ
listed c = c.gates_in ∷ c.gates_out ∷ c.twos_in ∷ c.twos_out ∷ c.t_in ∷ c.t_out ∷ c.blocks ∷ c.replaced ∷ []

-- a refusal writes nothing
abbrev pub stored : Paper.Answer → List ℕ → List ℕ
stored (Paper.refusal r) room = room
stored (Paper.done c) room = listed c

-- the answer is one that `cnot_min_with` gives: its number, its counts, and the three rooms as it leaves them
pub record Exports (l : List ℤ) (wires bits qcap tcap : ℕ) (out : List ℤ) (terms steps counts : List ℕ) (r : ℕ) (out' : List ℤ) (terms' steps' counts' : List ℕ) : Type 0 where
  pub answer : Result Counts Refusal
  pub minimizes : Minimizes l wires bits qcap tcap out terms steps answer out' terms' steps'
  pub number : r ≡ coded (told answer)
  pub counts-are : counts' ≡ stored (told answer) counts

-- the place fits 32 bits
unfoldable pub Placed : Result Counts Refusal → Type 0
Placed (Err r) = r.place < 2 ^ 32
Placed (Ok c) = Unit {0}

-- what is said of a text, the room before, how much was printed, and the room after
abbrev pub Promises : Type 1
Promises = List ℕ → List ℕ → Said → List ℕ → Type 0

-- the answer to a text, by a program's definition and promise: 0, or 1 for a refusal; the room begins with its bytes, as many as `size` says, and the
-- rest is untouched
pub record ExportsText (answer : List ℕ → Text.Answer) (Says : Promises) (text room : List ℕ) (r : ℕ) (room' : List ℕ) (size : ℕ) : Type 0 where
  -- wrong: a refusal told as an answer
  pub number : r ≡ cond (answer text).refused 1 0
  -- all that the program says. Wrong: another length; a byte written behind the answer
  pub says : Says text room (record { length = size; refused = (answer text).refused }) room'

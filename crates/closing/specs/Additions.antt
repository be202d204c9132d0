-- Row additions in a step room, two numbers to an entry: the row added, then the row changed.
use Rattle.std.specs.Prelude.{◌≡◌, List, [], ◌∷◌, ℕ, zero, ◌+◌, ◌*◌, ◌≤◌, ◌<◌, length, set, take, drop, Option, Some, None}
use Rattle.std.proofs.Math.Option as Maybe
use Rattle.parity.specs.declared.Parity.{Parity}
use Rattle.rules.specs.Walk.{Step, cn}
use Rattle.rules.specs.Close as Paper
use Rattle.rows.specs.Rows.{rows_of}

-- the additions of a room, each a CNOT from the row added to the row changed
unfoldable pub steps_of : List ℕ → List Step
steps_of [] = []
steps_of (from ∷ []) = []
steps_of (from ∷ to ∷ xs) = cn from to ∷ steps_of xs

-- the rows of m, and the first k additions of the room
unfoldable pub held : List Parity → List ℕ → ℕ → Paper.Adds
held m room k = record { rows = rows_of m; adds = take k (steps_of room) }

-- the additions that take some rows to the identity
abbrev pub wanted : List ℕ → Maybe.Option Paper.Adds
wanted rows = Paper.reduce_from (length rows) (length rows) zero (record { rows = rows; adds = [] })

-- one addition is written as entry k, and nothing after it
pub record Noted (k from to : ℕ) (before after : List ℕ) : Type 0 where
  pub listed : steps_of after ≡ set (steps_of before) k (cn from to)
  pub beyond : (j : ℕ) → 2 * k + 1 < j → drop j after ≡ drop j before

-- and made: the rows and the additions become what the rules' note makes of them
pub record Added (k from to : ℕ) (m : List Parity) (room : List ℕ) (m' : List Parity) (room' : List ℕ) : Type 0 where
  pub is : held m' room' (k + 1) ≡ Paper.note from to (held m room k)
  pub beyond : (j : ℕ) → 2 * k + 1 < j → drop j room' ≡ drop j room

-- the additions can't be made, or are more than the limit
abbrev pub Over : ℕ → Maybe.Option Paper.Adds → Type 0
Over limit Maybe.none = Unit {0}
Over limit (Maybe.some d) = limit < length d.adds

-- the diagonal bit is there after j additions, within the limit
abbrev pub Filled : ℕ → Option ℕ → Maybe.Option Paper.Adds → List Parity → List ℕ → Type 0
Filled limit (Some j) o m room = (o ≡ Maybe.some (held m room j)) × (j ≤ limit)
Filled limit None o m room = Over limit o

-- what filling a column's diagonal answers and leaves, after k additions
pub record Given (limit k column : ℕ) (r : Option ℕ) (m m' : List Parity) (room room' : List ℕ) : Type 0 where
  pub answer : Filled limit r (Paper.diagonal (length (rows_of m)) column (held m room k)) m' room'
  pub beyond : drop (2 * (limit + 1)) room' ≡ drop (2 * (limit + 1)) room

-- k additions are all that are wanted, and the room begins with them
pub record Made (limit k : ℕ) (o : Maybe.Option Paper.Adds) (room : List ℕ) : Type 0 where
  pub end : Paper.Adds
  pub whole : o ≡ Maybe.some end
  pub count : length end.adds ≡ k
  pub few : k ≤ limit
  pub listed : take k (steps_of room) ≡ end.adds

abbrev pub Answers : ℕ → Option ℕ → Maybe.Option Paper.Adds → List ℕ → Type 0
Answers limit (Some k) o room = Made limit k o room
Answers limit None o room = Over limit o

-- what a reduction answers, and leaves in its step room: `rows` are taken to the identity, and nothing is written past one entry more than the limit
pub record Reduced (limit : ℕ) (r : Option ℕ) (rows before after : List ℕ) : Type 0 where
  pub answer : Answers limit r (wanted rows) after
  pub beyond : drop (2 * (limit + 1)) after ≡ drop (2 * (limit + 1)) before

-- What the programs that are replayed keep.
use Rattle.std.specs.Prelude.{List, ℕ, ◌≤◌, length}
use Rattle.std.specs.Fn.{Once}
use denote.Ref.{Bor, MutBor}
use Rattle.saying.specs.declared.Said.{Said}

-- whatever text f is called with, what it prints lies in its room
abbrev pub Prints : {F O : Type 0} → Once F (Bor (List ℕ) × (MutBor O × Unit {0})) (Said × (MutBor O × Unit {0})) → F → (O → List ℕ) → Type 0
Prints {F} {O} g f bytes = (text : Bor (List ℕ)) (room room' : MutBor O) (said : Said) → g.post f (text, (room, tt)) (said, (room', tt)) → (said.length ≤ length (bytes room.now)) × (said.length ≤ length (bytes room'.now))

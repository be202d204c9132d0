-- From what was printed to what is said of the room; and for callers, that it lies in the room.
use mathlib.Core.Path.{◌≡◌, refl, sym, ap, ◌∙◌}
use mathlib.Core.Bool.{Bool}
use mathlib.Core.List.{List}
use Prim.Native.Nat.{ℕ, ◌≤◌}
use native.Mathlib.Nat.{zero-add}
use native.Mathlib.Omega.{arith}
use lib.ListN.{length, take, drop, length-append}
use lib.Seq.{take_at}
use Rattle.text.specs.Clauses.{Prints}
use Rattle.saying.specs.Answer.{Answer}
use Rattle.saying.specs.Clauses.{Says}
use Rattle.saying.specs.declared.Said.{Said}

pub says-printed : (refused : Bool) (most : ℕ) (new room room' : List ℕ) (n : ℕ) → most ≤ length room → Prints most new room 0 room' n
    → Says (record { refused = refused; text = new }) room (record { length = n; refused = refused }) room'
says-printed refused most new room room' n h p = record {
  text = p.writes.text ∙ rw zero-add;
  size = p.writes.behind ∙ rw zero-add;
  fits = omega (arith, p.writes.behind, p.short);
  refused = refl;
}

-- what a caller sees of it: as many bytes as are returned
pub says-shown : (a : Answer) (room : List ℕ) (r : Said) (room' : List ℕ) → Says a room r room' → take r.length room' ≡ a.text
says-shown a room r room' s = rw s.text (take_at a.text (drop (length a.text) room) r.length (sym s.size))

pub says-fits : (a : Answer) (room : List ℕ) (r : Said) (room' : List ℕ) → Says a room r room' → r.length ≤ length room'
says-fits a room r room' s = omega (arith, s.size, ap length s.text, length-append a.text (drop (length a.text) room))

-- What the check of a list in exact rooms comes to.
use mathlib.Core.Path.{◌≡◌, refl, ap}
use mathlib.Core.List.{List}
use Prim.Native.Nat.{ℕ, ◌*◌, ◌/◌, ◌≤◌, ◌<◌}
use native.Mathlib.Omega.{arith}
use lib.IntN.{ℤ}
use lib.ListN.{length}
use Rattle.rules.specs.Limits.{width, max_gates, max_wires, max_bits, term_width, step_width, term_entries, step_entries}
use Rattle.rules.specs.Refusal.{accepted, fault_at, verdict}
use Rattle.rules.proofs.Accepting.{Accepted, accepted-is, is-accepted, place_of, verdict-place}
use Rattle.spelling.specs.Texts.{Head}
use Rattle.saying.specs.Answer.{exact}

module _ (h : Head) (ns : List ℤ) where
  abbrev terms : ℕ
  terms = term_width * term_entries (length ns / width)

  abbrev steps : ℕ
  steps = step_width * step_entries (length ns / width)

  pub exact-is : exact h ns ≡ verdict ns h.wires h.bits (length ns) terms steps
  unfolding exact
  exact-is = refl

  -- refused at one of its gates
  pub exact-place : place_of (exact h ns) ≤ length ns / width
  exact-place = omega (arith, ap place_of exact-is, verdict-place ns h.wires h.bits (length ns) terms steps)

  pub exact-fits : exact h ns ≡ accepted → Accepted ns h.wires h.bits (length ns) terms steps
  unfolding exact
  exact-fits e = accepted-is ns h.wires h.bits (length ns) terms steps e

  -- the rooms are never too short
  pub right-exact : width * (length ns / width) ≡ length ns → length ns / width ≤ max_gates → h.wires ≤ max_wires → h.bits ≤ max_bits
      → ((i : ℕ) → i < length ns / width → (fault_at ns h.wires h.bits i).number ≡ 0) → exact h ns ≡ accepted
  unfolding exact
  right-exact whole few wires bits each =
      is-accepted ns h.wires h.bits (length ns) terms steps
      (record { even = omega arith; few = few; wires = wires; bits = bits; room = omega arith; term-room = omega arith; step_room = omega arith; each = each })

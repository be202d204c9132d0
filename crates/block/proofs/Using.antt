-- What callers of the crate cite, beside `op-read` of `Codes` and `empty-Holds` of `Entering`.
--     holds_same, holds-sound    the block that state and rooms stand for; they are in step
--     wired-read                 an accepted gate, as it was read, has its wires in the table
use mathlib.Core.Path.{◌≡◌, refl, ap₂}
use mathlib.Core.List.{List}
use Prim.Native.Nat.{ℕ}
use lib.ListN.{length}
use Rattle.rules.specs.Gate as Codes
use Rattle.rules.specs.Fold.{Block}
use Rattle.rules.proofs.Accepting.{Fit}
use Rattle.parity.specs.declared.Parity.{Parity}
use Rattle.gate.specs.Reading.{Reads}
use Rattle.gate.specs.declared.Gate.{Gate}
use Rattle.block.specs.View.{block_at, Holds, InStep}
use Rattle.block.specs.Steps.{Wired}
use Rattle.block.specs.declared.Block as State
use Rattle.block.proofs.Entering.{rowed-is}

module _ {p : Block} {b : State.Block} {table room : List ℕ} (h : Holds p b table room) where
  pub holds_same : block_at b room ≡ p
  holds_same = ap₂ (λ rs ts. record { rows = rs; terms = ts }) h.rows_are.same h.terms-are.same

  pub holds-sound : InStep b table room
  holds-sound = record { rows_are = rowed-is h.rows_are; terms-are = record { few = h.terms-are.few; same = refl } }

pub wired-read : (w bits : ℕ) (p : Codes.Gate) (g : Gate) (table : List ℕ) → Fit w bits p.code p.first p.second p.third p.turn → Reads p g → length table ≡ w → Wired g table
wired-read w bits p g table f r e = record {
  first-in = rw (e, r.first) f.first-in;
  second-in = λ t. rw (e, r.second) (f.second-in (rw r.code at t));
  apart = λ t. rw (r.first, r.second) (f.first-second (rw r.code at t));
}

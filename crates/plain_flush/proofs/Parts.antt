-- The parts of the rooms that a block of the plain engine needs, and room for all of its resynthesis.
use mathlib.Core.Path.{◌≡◌, ap}
use mathlib.Core.List.{List}
use Prim.Native.Nat.{ℕ, ◌+◌, ◌*◌, ◌≤◌}
use native.Mathlib.Nat.{mul-le-mul_right}
use native.Mathlib.Omega.{arith}
use lib.IntN.{ℤ}
use lib.ListN.{length, take}
use Rattle.rules.specs.Limits.{width, term_width, step_width, max_gates, plain_gates, plain_columns, whole_gates}
use Rattle.rules.specs.Numbers.{gates_of}
use Rattle.rules.specs.Fold.{Block}
use Rattle.rules.specs.Synth.{block_of}
use Rattle.rules.proofs.Ceiling.{walk-fits, terms-few}
use Rattle.parity.specs.declared.Parity.{Parity}
use Rattle.walk.specs.declared.Slot.{Slot}
use Rattle.block.specs.declared.Block as State
use Rattle.block.specs.View.{names_of, terms_at}
use Rattle.flush.specs.Choice as First
use Rattle.flush.specs.Choice.{Flushable}
use Rattle.flush.proofs.Cutting as Cutting
use Rattle.plain_flush.specs.Keeping.{additions, Fitted, Lent}

-- whatever stack and matrices the engine has
module _ (run place : List ℤ) (b : State.Block) (table room steps : List ℕ) (whole : List ℤ) (f : Flushable run b table room)
    (many : length (gates_of run) ≤ plain_gates) (narrow : b.wires ≤ plain_columns) (fits : length place ≡ length run)
    (noted : additions ≤ length steps) (long : width * whole_gates ≤ length whole) where
  -- what the first engine asks of a run and of a step room
  pub few-gates : length (gates_of run) ≤ max_gates
  few-gates = omega (arith, many)

  pub steps-long : step_width * (length (gates_of run) + 1) ≤ length steps
  steps-long = omega (arith, many, noted)

  pub holding : Cutting.Holding run place b table room steps f few-gates fits steps-long
  holding = Cutting.holding run place b table room steps f few-gates fits steps-long

  square : b.wires * b.wires ≤ plain_columns * plain_columns
  square = let e : b.wires * b.wires ≤ plain_columns * b.wires = mul-le-mul_right b.wires narrow in omega (arith, narrow)

  -- a stack and matrices that are enough for this block
  pub fitted-by : (nodes : List Slot) (held right : List Parity) → b.wires + 1 ≤ length nodes → b.wires ≤ length held → b.wires ≤ length right
      → Fitted run place b (take (term_width * b.terms) room) (take (b.wires + 1) nodes)
      (take b.wires held) (take b.wires right) steps whole
  fitted-by nodes held right ln lh lr =
      let p = Cutting.fitted-by run place b table room steps f few-gates fits steps-long nodes held right ln lh lr in
      let few : length (terms_at b (take (term_width * b.terms) room)) ≡ length (block_of (gates_of run)).terms = ap (λ (x : Block). length x.terms) p.same in
      record {
        fits = fits;
        same = p.same;
        lent = record {
          rooms = record {
            walkable = p.rooms.walkable;
            wide = p.rooms.wide;
            below = p.rooms.below;
            right = p.rooms.right;
            long = omega (arith, square, noted);
          };
          long = omega (arith, square, narrow, long, walk-fits b.wires (names_of b) (terms_at b (take (term_width * b.terms) room)) narrow (omega (arith, few, terms-few (gates_of run) many)));
        };
      }

module _ (run place : List ℤ) (b : State.Block) (table room : List ℕ) (nodes : List Slot) (held right : List Parity) (steps : List ℕ) (whole : List ℤ)
    (f : Flushable run b table room) (l : Lent run place b nodes held right steps whole) where
  pub first : First.Lent run place nodes held right steps
  first = record { many = omega (arith, l.many); fits = l.fits; work = l.work; long = omega (arith, l.many, l.noted) }

  -- each room has the part that the block needs
  pub enough : Cutting.Enough run place b table room nodes held right steps f first
  enough = Cutting.enough run place b table room nodes held right steps f first

  pub fitted : Fitted run place b (take (term_width * b.terms) room) (take (b.wires + 1) nodes)
      (take b.wires held) (take b.wires right) steps whole
  fitted = fitted-by run place b table room steps whole f l.many l.narrow l.fits l.noted l.long nodes held right enough.nodes-in enough.held_in enough.right-in

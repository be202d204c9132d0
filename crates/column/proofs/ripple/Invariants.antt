-- the counts so far, with the carry at its plane, are what is to come.
use mathlib.Core.Path.{◌≡◌}
use Prim.Native.Nat.{ℕ, ◌+◌, ◌*◌, ◌^◌}
use mathlib.Core.Bool.{false}
use Rattle.parity.specs.View.{val}
use Rattle.rows.specs.Rows.{rows_of}
use Rattle.column.specs.Planes.{one, tally}
use Rattle.column.proofs.ripple.Given as goal

abbrev pub invariant-loop-k : goal.invariant-loop-k
invariant-loop-k l = (c : ℕ) → tally false c (rows_of l.planes) + 2 ^ l.k * one (val l.carry) c ≡ tally false c (rows_of l.initial.planes) + 2 ^ l.from * one (val l.initial.carry) c

-- `origin::write_origins` meets its contract: the lines so far, and those left.
use Prim.Native.Nat.{◌-◌, ◌*◌, ◌/◌}
use lib.ListN.{length, drop}
use Rattle.rules.specs.Limits.{width}
use Rattle.text.proofs.Begun.{Begun}
use Rattle.origin.specs.Clauses.{rows_text, origin_size}
use Rattle.origin.proofs.write_origins.Given as goal

abbrev pub invariant-loop-row : goal.invariant-loop-row
invariant-loop-row l =
    let n = length l.numbers / width in
    Begun (origin_size * l.row-index) (rows_text l.source (n - l.row-index) (drop (width * l.row-index) l.numbers)) (rows_text l.source n l.numbers) l.initial.out l.at l.out l.next

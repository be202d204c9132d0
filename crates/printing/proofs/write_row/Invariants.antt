-- `printing::write_row` meets its contract: the numbers so far, and those left.
use Prim.Native.Nat.{◌*◌}
use lib.ListN.{drop}
use Rattle.text.specs.Clauses.{number_size}
use Rattle.text.proofs.Begun.{Begun}
use Rattle.spelling.specs.Texts.{row_text}
use Rattle.printing.proofs.write_row.Given as goal

abbrev pub invariant-loop-k : goal.invariant-loop-k
invariant-loop-k l = Begun (number_size * l.k) (row_text (drop l.k l.row)) (row_text l.row) l.initial.out l.at l.out l.next

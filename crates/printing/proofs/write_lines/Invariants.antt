-- `printing::write_lines` meets its contract: the lines so far, and those left.
use Prim.Native.Nat.{◌*◌}
use lib.ListN.{drop}
use Rattle.spelling.specs.Texts.{lines_text}
use Rattle.text.specs.Clauses.{line_size}
use Rattle.text.proofs.Begun.{Begun}
use Rattle.printing.proofs.write_lines.Given as goal

abbrev pub invariant-loop-value : goal.invariant-loop-value
invariant-loop-value l = Begun (line_size * l.value-index) (lines_text (drop l.value-index l.values)) (lines_text l.values) l.initial.out l.at l.out l.next

-- `text::write_all_spaced` meets its contract: the numbers so far, and those left.
use Rattle.std.proofs.Common.{◌*◌, drop}
use Rattle.text.specs.Printing.{all_spaced}
use Rattle.text.specs.Clauses.{line_size}
use Rattle.text.proofs.Begun.{Begun}
use Rattle.text.proofs.write_all_spaced.Given as goal

abbrev pub invariant-loop-n : goal.invariant-loop-n
invariant-loop-n l = Begun (line_size * l.n-index) (all_spaced (drop l.n-index l.numbers)) (all_spaced l.numbers) l.initial.out l.at l.out l.next

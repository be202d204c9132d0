-- `printing::write_rows` meets its contract: the lines so far, and those left.
use Prim.Native.Nat.{◌-◌, ◌*◌, ◌/◌}
use lib.ListN.{length, drop}
use Rattle.rules.specs.Limits.{width}
use Rattle.text.specs.Clauses.{number_size}
use Rattle.text.proofs.Begun.{Begun}
use Rattle.spelling.specs.Texts.{rows_text}
use Rattle.spelling.specs.Forms.{form_of}
use Rattle.printing.proofs.write_rows.Given as goal

abbrev pub invariant-loop-row : goal.invariant-loop-row
invariant-loop-row l =
    let n = length l.numbers / width in
    Begun (number_size * width * l.row-index) (rows_text (form_of l.fn.form) (n - l.row-index) (drop (width * l.row-index) l.numbers)) (rows_text (form_of l.fn.form) n l.numbers) l.initial.out l.at l.out l.next

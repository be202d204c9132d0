-- `reading::read_rows` meets its contract: the lines that are left come to what all of them do.
use Rattle.std.proofs.Common.{◌≡◌, ◌+◌, ◌-◌, ◌*◌}
use Rattle.rules.specs.Limits.{width}
use Rattle.text.specs.Bytes.{pasted}
use Rattle.spelling.specs.Forms.{form_of}
use Rattle.spelling.specs.Reading.{rows}
use Rattle.reading.proofs.read_rows.Given as goal

abbrev pub invariant-loop-i : goal.invariant-loop-i
invariant-loop-i l = record {
  behind : (rows (form_of l.form) (l.n - l.i) (l.line + l.i) l.rest).behind ≡ (rows (form_of l.form) l.n l.line l.text).behind;
  numbers : pasted l.numbers (width * l.i) (rows (form_of l.form) (l.n - l.i) (l.line + l.i) l.rest).numbers ≡ pasted l.initial.numbers 0 (rows (form_of l.form) l.n l.line l.text).numbers;
}

-- `reading::read_row` meets its contract: the numbers that are left of the line come to what all of it does.
use Rattle.std.proofs.Common.{◌≡◌, ◌-◌}
use Rattle.text.specs.Bytes.{pasted}
use Rattle.spelling.specs.Reading.{row}
use Rattle.reading.proofs.read_row.Given as goal

abbrev pub invariant-loop-k : goal.invariant-loop-k
invariant-loop-k l = record {
  behind : (row (l.n - l.k) l.rest).behind ≡ (row l.n l.text).behind;
  numbers : pasted l.numbers l.k (row (l.n - l.k) l.rest).numbers ≡ pasted l.initial.numbers 0 (row l.n l.text).numbers;
}

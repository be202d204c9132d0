-- `text::write_natural` meets its contract: the last digits stand, and the others are left.
use Rattle.std.proofs.Common.{◌≡◌, ◌-◌, ◌≤◌, take, drop}
use Rattle.text.specs.Bytes.{pasted}
use Rattle.text.specs.Printing.{decimal}
use Rattle.text.specs.Reading.{worth}
use Rattle.text.proofs.write_natural.Given as goal

abbrev pub invariant-loop-i : goal.invariant-loop-i
invariant-loop-i l = record {
  above : l.at ≤ l.i;
  left : l.left ≡ worth 0 (take (l.i - l.at) (decimal l.n));
  stand : l.out ≡ pasted l.initial.out l.i (drop (l.i - l.at) (decimal l.n));
}

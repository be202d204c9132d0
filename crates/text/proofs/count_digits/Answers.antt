-- `text::count_digits` meets its contract.
use Rattle.text.proofs.Decimals.{decimal_size}
use Rattle.text.proofs.count_digits.Goals as goal

pub returns : goal.returns
returns c = decimal_size c.ilog10.result c.args.n (rw c.max.ensures at c.ilog10.ensures.power_le) (rw c.max.ensures at c.ilog10.ensures.next_power_gt)

-- `text::write_natural` meets its contract: the last digits stand, and the others are left.
use Rattle.std.proofs.Common.{◌≡◌, [], suc, ◌+◌, ◌-◌, ◌<◌, length, drop, sym, ◌∙◌, arith}
use lib.ListN.{drop_of_length-le}
use Rattle.std.proofs.lemmas.List.{take_all}
use Rattle.text.specs.Printing.{decimal}
use Rattle.text.proofs.Decimals.{digital-decimal, worth-decimal, last_digit}
use Rattle.text.proofs.Pasting.{pasted-none, last_before}
use Rattle.text.proofs.write_natural.Goals as goal

pub loop-i-init : goal.loop-i-init
loop-i-init c =
    let ds = decimal c.args.n in
    let size : c.args.at + c.count_digits.result - c.args.at ≡ length ds = omega (arith, c.count_digits.ensures) in
    let nothing : drop (length ds) ds ≡ [] = drop_of_length-le ds (omega arith) in
    record {
      above = omega arith;
      left = rw (size, take_all (length ds) ds (omega arith)) (sym (worth-decimal c.args.n));
      stand = rw (size, nothing) (sym (pasted-none c.args.out.now (c.args.at + c.count_digits.result)));
    }

pub loop-i-preserved : goal.loop-i-preserved
loop-i-preserved c =
    let p = c.loop-i in
    let ds = decimal c.args.n in
    let m = p.i - 1 - c.args.at in
    let more : p.i - c.args.at ≡ suc m = omega (arith, c.loop-i-test.true) in
    let short : m < length ds = omega (arith, c.loop-i-test.true, c.count_digits.ensures, p.auto.i) in
    let t = last_digit ds m p.left (digital-decimal c.args.n) short (rw more at p.invariant.left) in
    record {
      above = omega (arith, c.loop-i-test.true);
      left = t.others;
      stand = rw p.invariant.stand (last_before c.args.out.now ds c.args.at p.i m c.digit.result (omega (arith, c.loop-i-test.true)) short (omega (arith, c.requires)) (c.digit.ensures ∙ t.last));
    }

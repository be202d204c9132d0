-- `reading::read_row` meets its contract: the numbers that are left of the line come to what all of it does.
use Rattle.std.proofs.Common.{length, sym, ap, ◌∙◌, arith}
use mir.Syntax.{w32}
use mir.ValLaws.{to_z-of_z}
use Rattle.text.proofs.Pasting.{pasted-none}
use Rattle.spelling.specs.Reading.{Row, row}
use Rattle.reading.proofs.Gates.{row-stop, row-end, row-once, pasted-first}
use Rattle.reading.proofs.read_row.Goals as goal

pub returns-in_err-value : goal.returns-in_err-value
returns-in_err-value c =
    let n = length c.args.numbers.now in
    let e = row-stop n c.loop-k.k c.loop-k.rest.now c.loop-k-test.true (rw c.end_of.ensures at c.in_err-value.ensures) in
    rw c.from_residual.ensures
    (record {
      exact = sym c.loop-k.invariant.behind ∙ ap (λ (r : Row). r.behind) e;
      numbers = sym (pasted-none c.loop-k.numbers c.loop-k.k) ∙ rw e at c.loop-k.invariant.numbers ∙ pasted-first c.args.numbers.now (row n c.args.text.now).numbers;
    })

pub loop-k-preserved : goal.loop-k-preserved
loop-k-preserved c =
    let v = c.in_ok-value in
    let t = row-once c.loop-k.numbers (length c.args.numbers.now) c.loop-k.k c.loop-k.rest.now v.value v.next.now c.loop-k-test.true (omega arith) (rw c.end_of.ensures at v.ensures) in
    rw (to_z-of_z w32 v.value (record { sfits = omega arith })) (record { behind = t.0 ∙ c.loop-k.invariant.behind; numbers = t.1 ∙ c.loop-k.invariant.numbers })

pub returns : goal.returns
returns c =
    let n = length c.args.numbers.now in
    let e = row-end n c.loop-k.k c.loop-k.rest.now c.loop-k-test.false in
    record {
      exact = sym c.loop-k.invariant.behind ∙ ap (λ (r : Row). r.behind) e;
      numbers = sym (pasted-none c.loop-k.numbers c.loop-k.k) ∙ rw e at c.loop-k.invariant.numbers ∙ pasted-first c.args.numbers.now (row n c.args.text.now).numbers;
    }

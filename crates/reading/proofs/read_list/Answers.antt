-- `reading::read_list` meets its contract.
use Rattle.std.proofs.lemmas.Result.{err_from_is_err_and}
use Rattle.reading.specs.declared.Wrong.TheVariants.{Line}
use Rattle.reading.proofs.Gates.{err_or}
use Rattle.reading.proofs.Texts.{bad-head, bad-count, too_many, all_read, not_all}
use Rattle.reading.proofs.read_list.Goals as goal

pub returns-in_err-head : goal.returns-in_err-head
returns-in_err-head c =
    let is = err_from_is_err_and c.from_residual.result c.from_residual.ensures.1 in
    rw (is.1, is.2) (bad-head c.args.text.now c.args.line c.args.most c.args.numbers.now c.in_err-head.field-0.0 (rw c.in_err-head.was at c.read_head.ensures.lines))

pub returns-in_err-count : goal.returns-in_err-count
returns-in_err-count c =
    let h = c.in_ok-head in
    let is = err_from_is_err_and c.from_residual-in_err-count.result c.from_residual-in_err-count.ensures.1 in
    let line = err_or c.read_count.result (Line h.line) c.in_err-count.field-0.0 c.in_err-count.ensures.ok_part c.in_err-count.ensures.value in
    rw (is.1, is.2, line)
    (bad-count c.args.text.now c.args.line c.args.most c.args.numbers.now h.head h.line h.rest.now (rw h.was at c.read_head.ensures.lines) (rw c.in_err-count.ensures.ok_part at c.read_count.ensures))

pub returns-then-most-count : goal.returns-then-most-count
returns-then-most-count c =
    let h = c.in_ok-head in
    let n = c.in_ok-count in
    too_many c.args.text.now c.args.line c.args.most c.args.numbers.now h.head h.line h.rest.now (rw h.was at c.read_head.ensures.lines) n.count n.rest.now (rw n.ensures.ok_part at c.read_count.ensures) c.if-most-count.true

pub returns-in_err-last : goal.returns-in_err-last
returns-in_err-last c =
    let h = c.in_ok-head in
    let n = c.in_ok-count in
    let is = err_from_is_err_and c.from_residual-in_err-last.result c.from_residual-in_err-last.ensures.1 in
    rw (is.1, is.2)
    (not_all c.args.text.now c.args.line c.args.most c.args.numbers.now h.head h.line h.rest.now (rw h.was at c.read_head.ensures.lines) n.count n.rest.now (rw n.ensures.ok_part at c.read_count.ensures) c.if-most-count.false c.read_rows.new.numbers
    c.read_rows.ensures.numbers c.in_err-last.field-0.0 (rw c.in_err-last.was at c.read_rows.ensures.lines))

pub returns : goal.returns
returns c =
    let h = c.in_ok-head in
    let n = c.in_ok-count in
    let l = c.in_ok-last in
    all_read c.args.text.now c.args.line c.args.most c.args.numbers.now h.head h.line h.rest.now (rw h.was at c.read_head.ensures.lines) n.count n.rest.now (rw n.ensures.ok_part at c.read_count.ensures) c.if-most-count.false c.read_rows.new.numbers
    c.read_rows.ensures.numbers l.last l.end (rw l.was at c.read_rows.ensures.lines)

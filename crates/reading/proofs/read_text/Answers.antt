-- `reading::read_text` meets its contract: a list from the first byte on, and nothing behind it.
use Rattle.std.proofs.Common.{sym, ◌∙◌}
use Rattle.std.proofs.lemmas.Result.{err_from_is_err_and}
use Rattle.reading.proofs.Texts.{text-wrong, text-whole, text-surplus}
use Rattle.reading.proofs.read_text.Goals as goal

pub returns-in_err-list : goal.returns-in_err-list
returns-in_err-list c =
    let is = err_from_is_err_and c.from_residual.result c.from_residual.ensures.1 in
    rw (is.1, is.2) (text-wrong c.args.text.now c.args.most c.args.numbers.now c.read_list.new.numbers c.in_err-list.field-0.0 (rw c.in_err-list.was at c.read_list.ensures))

pub returns-then-is_empty : goal.returns-then-is_empty
returns-then-is_empty c =
    text-whole c.args.text.now c.args.most c.args.numbers.now c.read_list.new.numbers c.in_ok-list.list (rw c.in_ok-list.was at c.read_list.ensures) (sym c.is_empty.ensures ∙ c.if-is_empty.true)

pub returns-else-is_empty : goal.returns-else-is_empty
returns-else-is_empty c =
    text-surplus c.args.text.now c.args.most c.args.numbers.now c.read_list.new.numbers c.in_ok-list.list (rw c.in_ok-list.was at c.read_list.ensures) (sym c.is_empty.ensures ∙ c.if-is_empty.false)

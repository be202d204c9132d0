-- `saying::take` meets its contract: too long, not read, or read.
use native.Mathlib.Omega.{arith}
use Rattle.std.proofs.lemmas.Result.{err_from_is_err_and}
use Rattle.saying.proofs.Taking.{long, declined, held}
use Rattle.saying.proofs.take.Goals as goal

pub returns-then-text-gt-LIST_BYTES : goal.returns-then-text-gt-LIST_BYTES
returns-then-text-gt-LIST_BYTES c = long _ c.if-text-gt-LIST_BYTES.true

pub returns-in_err-read_text : goal.returns-in_err-read_text
returns-in_err-read_text c =
    let p = err_from_is_err_and c.from_residual.result c.from_residual.ensures.1 in rw (p.1, p.2) (declined _ c.read_text.new.numbers _ (omega arith) c.in_err-read_text.ensures.answer)

pub returns : goal.returns
returns c = held _ _ _ _ (omega arith) c.in_ok-read_text.ensures

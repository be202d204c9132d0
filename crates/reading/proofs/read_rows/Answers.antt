-- `reading::read_rows` meets its contract: the lines that are left come to what all of them do.
use Rattle.std.proofs.Common.{◌≡◌, ◌+◌, ◌*◌, sym, ap, ◌∙◌, arith}
use Rattle.std.proofs.lemmas.Result.{err_from_is_err_and}
use Rattle.rules.specs.Limits.{width}
use Rattle.text.proofs.Pasting.{pasted-none}
use Rattle.spelling.specs.Forms.{form_of}
use Rattle.spelling.specs.Reading.{Rows, rows, gate_row}
use Rattle.reading.specs.declared.Wrong.TheVariants.{Line}
use Rattle.reading.proofs.Gates.{put-back, err_or, gate-sized, rows-stop, rows_end, rows-once, pasted-first}
use Rattle.reading.proofs.read_rows.Goals as goal

pub returns-in_err-rest : goal.returns-in_err-rest
returns-in_err-rest c =
    let f = form_of c.args.form in
    let bs = c.loop-i.rest.now in
    let r = rw c.in_err-rest.ensures.ok_part at c.read_gate.ensures in
    let put = put-back c.loop-i.numbers c.read_gate.new.gate (gate_row f bs).numbers c.loop-i.i (gate-sized f bs).most r.numbers in
    let e = rows-stop f c.args.n c.loop-i.i (c.args.line + c.loop-i.i) bs c.loop-i-test.true r.exact in
    let is = err_from_is_err_and c.from_residual.result c.from_residual.ensures.1 in
    let line = err_or c.read_gate.result (Line (c.args.line + c.loop-i.i)) c.in_err-rest.field-0.0 c.in_err-rest.ensures.ok_part c.in_err-rest.ensures.value in
    rw (is.1, is.2, line)
    (record {
      lines = sym c.loop-i.invariant.behind ∙ ap (λ (r : Rows). r.behind) e;
      numbers = put ∙ rw e at c.loop-i.invariant.numbers ∙ pasted-first c.args.numbers.now (rows f c.args.n c.args.line c.args.text.now).numbers;
    })

pub loop-i-preserved : goal.loop-i-preserved
loop-i-preserved c =
    let f = form_of c.args.form in
    let bs = c.loop-i.rest.now in
    let r = rw c.in_ok-rest.ensures.ok_part at c.read_gate.ensures in
    let put = put-back c.loop-i.numbers c.read_gate.new.gate (gate_row f bs).numbers c.loop-i.i (gate-sized f bs).most r.numbers in
    let t = rows-once f c.loop-i.numbers _ c.args.n c.loop-i.i c.args.line bs tt c.in_ok-rest.rest.now c.loop-i-test.true (omega (arith, c.requires.n_in_bounds, c.loop-i.auto.numbers)) r.exact put in
    record { behind = t.0 ∙ c.loop-i.invariant.behind; numbers = t.1 ∙ c.loop-i.invariant.numbers }

pub returns : goal.returns
returns c =
    let f = form_of c.args.form in
    let e = rows_end f c.args.n c.loop-i.i (c.args.line + c.loop-i.i) c.loop-i.rest.now c.loop-i-test.false in
    let all : c.args.line + c.args.n ≡ c.args.line + c.loop-i.i = omega arith in
    record {
      lines = rw all (sym c.loop-i.invariant.behind ∙ ap (λ (r : Rows). r.behind) e);
      numbers = sym (pasted-none c.loop-i.numbers (width * c.loop-i.i)) ∙ rw e at c.loop-i.invariant.numbers ∙ pasted-first c.args.numbers.now (rows f c.args.n c.args.line c.args.text.now).numbers;
    }

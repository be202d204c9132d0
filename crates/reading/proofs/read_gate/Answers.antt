-- `reading::read_gate` meets its contract: the numbers that its line shows, and 0 where one isn't shown.
use Rattle.std.proofs.Common.{◌≤◌, length-take-le, length, take, refl, arith}
use Rattle.spelling.specs.Texts.{per_gate}
use Rattle.spelling.specs.Forms.{form_of}
use Rattle.spelling.specs.Reading.{row}
use Rattle.spelling.proofs.Forms.{per-gate-le}
use Rattle.reading.specs.Clauses.{ReadsRow}
use Rattle.reading.proofs.Gates.{gate-no, gate-all}
use Rattle.reading.proofs.read_gate.Goals as goal
use Rattle.reading.proofs.read_gate.Goals.{After-read_row}

-- the line's numbers, by the form
module _ (c : After-read_row) where
  six : per_gate (form_of c.args.form) ≤ length c.args.gate.now
  six = omega (arith, per-gate-le (form_of c.args.form), c.requires)

  shown : ReadsRow c.read_row.result (row (per_gate (form_of c.args.form)) c.args.text.now) (take (per_gate (form_of c.args.form)) c.args.gate.now) c.read_row.new.numbers
  shown = rw (c.per_gate-shown.ensures, length-take-le (per_gate (form_of c.args.form)) c.args.gate.now six) at c.read_row.ensures

pub returns-in_err-rest : goal.returns-in_err-rest
returns-in_err-rest c =
    let r = rw c.in_err-rest.was at (shown (goal.at.returns-in_err-rest c).After-read_row) in
    rw c.per_gate-shown.ensures
    (gate-no c.from_residual.result (form_of c.args.form) c.args.text.now c.args.gate.now c.read_row.new.numbers c.from_residual.ensures r.exact r.numbers)

pub returns : goal.returns
returns c =
    let r = rw c.in_ok-rest.was at (shown (goal.at.returns c).After-read_row) in
    rw c.per_gate-shown.ensures
    (gate-all (form_of c.args.form) c.args.text.now c.in_ok-rest.rest c.args.gate.now c.read_row.new.numbers _ c.fill.new.self c.requires r.exact r.numbers refl
    (rw c.per_gate-shown.ensures at (c.fill.ensures.after (λ y e. e))))

-- `printing::write_head` meets its contract: a section of its numbers, four or five of them.
use mathlib.Core.Path.{◌≡◌}
use mathlib.Core.List.{[], ◌∷◌}
use native.Mathlib.Omega.{arith}
use lib.ListN.{take}
use Rattle.spelling.specs.Texts.{head_numbers, head_text}
use Rattle.spelling.specs.Forms.{form_of}
use Rattle.spelling.specs.Heads.{head_of}
use Rattle.printing.proofs.Rows.{head-taken, fifth-few}
use Rattle.printing.proofs.write_head.Goals as goal
use Rattle.printing.proofs.write_head.Goals.{After-values-1}

-- the numbers that are printed
values : (c : After-values-1) → take c.head_numbers-n.result (c.args.head.wires ∷ c.args.head.bits ∷ c.args.head.qubits ∷ c.args.head.terms ∷ c.per_gate-shown.result ∷ [])
    ≡ head_numbers (head_of c.args.head)
values c =
    let h = c.args.head in
    rw (c.head_numbers-n.ensures, c.per_gate-shown.ensures) (head-taken (form_of h.form) h.wires h.bits h.qubits h.terms)

pub returns : goal.returns
unfolding head_text
returns c =
    let p = rw (values (goal.at.returns c).After-values-1) at c.write_section.ensures in
    record { writes = p.writes; short = omega (arith, p.short, fifth-few (form_of c.args.head.form)) }

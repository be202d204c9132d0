-- `origin::write_origin` meets its contract.
use mathlib.Core.Path.{◌≡◌}
use native.Mathlib.Omega.{arith}
use borrow.Author.Rules.{rules}
use lib.IntN.{pos}
use lib.ListN.{get_or}
use Rattle.rules.specs.Numbers.{nat_of}
use Rattle.qasm.specs.Clauses.{statement_size}
use Rattle.origin.specs.Origins.{line_note}
use Rattle.origin.specs.Clauses.{row_text, note_size}
use Rattle.origin.proofs.Noting.{noted, line-some, lines-some}
use Rattle.origin.proofs.write_origin.Goals as goal

pub returns-in-Copied : goal.returns-in-Copied
unfolding row_text line_note
returns-in-Copied c =
    let own : c.nat.result ≡ nat_of (get_or c.args.row.now 5 (pos 0)) = search rules in
    let p = rw (c.last_place-end.ensures, own) at c.write_named.ensures in
    rw c.in-Copied.is (noted statement_size note_size _ _ _ c.args.at _ _ _ _ (line-some (nat_of (get_or c.args.row.now 5 (pos 0)))) c.requires c.write_gate-next.ensures (record { writes = p.writes; short = omega (arith, p.short) }))

pub returns-in-Again : goal.returns-in-Again
unfolding row_text
returns-in-Again c =
    rw c.in-Again.is (noted statement_size note_size _ _ _ c.args.at _ _ _ _ (lines-some c.in-Again.first c.in-Again.last) c.requires c.write_gate-next.ensures (rw c.last_place-end.ensures at c.write_lines.ensures))

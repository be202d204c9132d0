-- `compare::compare_in` meets its contract: the rows, the constants, the turns.
use Rattle.std.proofs.Common.{◌≡◌, ◌∙◌, Bool, true, false, not, eqb, ℕ, sym, ap, length}
use Rattle.parity.specs.View.{val}
use Rattle.rows.specs.Rows.{rows_of}
use Rattle.acting.specs.Table.{begin, table_of, apart, quiet}
use Rattle.compare.specs.View.{table_at, ops_of}
use Rattle.compare.proofs.Telling.{rows-length}
use Rattle.compare.proofs.Saying.{say-map, say-flips, say-alike, say-phase}
use Rattle.compare.proofs.compare_in.Goals as goal
use Rattle.compare.proofs.compare_in.Goals.{After-run-g, After-ne, After-quiet}

second : (c : After-run-g) → table_at c.run-g.result c.run-g.new.rows ≡ table_of (ops_of c.args.vs.now) (begin (length (rows_of c.args.a.now)))
second c = c.run-g.ensures.table ∙ ap (λ (z : ℕ). table_of (ops_of c.args.vs.now) (begin z)) (rows-length c.args.a.now c.args.b.now c.requires.same)

third : (c : After-quiet) → quiet (length (rows_of c.args.a.now)) (apart (length (rows_of c.args.a.now)) (ops_of c.args.us.now) (ops_of c.args.vs.now)) ≡ c.quiet.result
third c = sym (c.quiet.ensures ∙ ap (λ (z : ℕ). quiet z (apart z (ops_of c.args.us.now) (ops_of c.args.vs.now))) (rows-length c.args.a.now c.run-f.new.rows c.run-f.auto.rows))

-- whether the constants are equal, as one number each
negated : (b r : Bool) → r ≡ not b → b ≡ not r
negated true r e = rw e
negated false r e = rw e

equal : (c : After-ne) → eqb (val c.run-f.result) (val c.run-g.result) ≡ not c.ne.result
equal c = negated _ c.ne.result c.ne.ensures

pub returns-then-not-equal : goal.returns-then-not-equal
returns-then-not-equal c =
    say-map (length (rows_of c.args.a.now)) c.args.us.now c.args.vs.now c.requires.fine c.requires.fine_2 (rows_of c.run-f.new.rows) (rows_of c.run-g.new.rows) (val c.run-f.result) (val c.run-g.result)
    c.run-f.ensures.table (second (goal.at.returns-then-not-equal c).After-run-g) (sym c.equal.ensures ∙ c.if-not-equal.true)

pub returns-then-ne : goal.returns-then-ne
returns-then-ne c =
    say-flips (length (rows_of c.args.a.now)) c.args.us.now c.args.vs.now c.requires.fine c.requires.fine_2 (rows_of c.run-f.new.rows) (rows_of c.run-g.new.rows) (val c.run-f.result) (val c.run-g.result)
    c.run-f.ensures.table (second (goal.at.returns-then-ne c).After-run-g) (sym c.equal.ensures ∙ c.if-not-equal.false) (equal (goal.at.returns-then-ne c).After-ne ∙ ap not c.if-ne.true)

pub returns-then-quiet : goal.returns-then-quiet
returns-then-quiet c =
    say-alike (length (rows_of c.args.a.now)) c.args.us.now c.args.vs.now c.requires.fine c.requires.fine_2 (rows_of c.run-f.new.rows) (rows_of c.run-g.new.rows) (val c.run-f.result) (val c.run-g.result)
    c.run-f.ensures.table (second (goal.at.returns-then-quiet c).After-run-g) (sym c.equal.ensures ∙ c.if-not-equal.false) (equal (goal.at.returns-then-quiet c).After-ne ∙ ap not c.if-ne.false) (third (goal.at.returns-then-quiet c).After-quiet ∙ c.if-quiet.true)

pub returns-else-quiet : goal.returns-else-quiet
returns-else-quiet c =
    say-phase (length (rows_of c.args.a.now)) c.args.us.now c.args.vs.now c.requires.fine c.requires.fine_2 (rows_of c.run-f.new.rows) (rows_of c.run-g.new.rows) (val c.run-f.result) (val c.run-g.result)
    c.run-f.ensures.table (second (goal.at.returns-else-quiet c).After-run-g) (sym c.equal.ensures ∙ c.if-not-equal.false) (equal (goal.at.returns-else-quiet c).After-ne ∙ ap not c.if-ne.false) (third (goal.at.returns-else-quiet c).After-quiet ∙ c.if-quiet.false)

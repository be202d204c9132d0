-- `closing::reduce` meets its contract.
use Rattle.std.proofs.Common.{◌≡◌, ◌+◌, ◌-◌, ◌*◌, ◌<◌, ◌≤◌, length, get_or, refl, ap, ◌∙◌, arith}
use mir.Val.{bool_byte}
use Rattle.rules.specs.Close.{clear, diagonal, reduce_from}
use Rattle.rules.proofs.Flags.{byte_le}
use Rattle.rows.specs.Rows.{rows_of, other_has}
use Rattle.rows.proofs.Room.{row_count, row_get}
use Rattle.rows.proofs.Rounds.{pivot-stays}
use Rattle.closing.specs.Additions.{held, wanted, Over}
use Rattle.closing.proofs.Entries.{row-held}
use Rattle.closing.proofs.Columns.{clear_next, clear-end, column-filled, start, lost-diagonal, lost-row, made}
use Rattle.closing.proofs.reduce.Goals as goal
use Rattle.closing.proofs.reduce.Goals.{After-note, In_ok-k}

-- the bit is the definition's test
tested : (c : After-note) → let l = c.loop-r in c.other-bit.result ≡ other_has c.loop-column.column l.r (get_or (rows_of l.m) l.r 0)
tested c = c.other-bit.ensures ∙ rw (row_get c.loop-r.m c.loop-r.r) refl

-- the turn is one row's
turned : (c : After-note) → let col = c.loop-column.column in let d = c.diagonal.new in let l = c.loop-r in let n = length (rows_of d.m) in
    clear col n 0 (held d.m d.steps c.in_ok-k.k)
    ≡ clear col (n - (l.r + 1)) (l.r + 1) (held c.add_kept.new.m c.note.new.steps (l.k + bool_byte c.other-bit.result))
unfolding held
turned c =
    let l = c.loop-r in
    let col = c.loop-column.column in
    let h : l.r < length (rows_of c.diagonal.new.m) = omega (arith, row_count c.diagonal.new.m) in
    l.invariant.left
    ∙ clear_next _ col l.r (held l.m l.steps l.k) _ c.other-bit.result h (tested c)
    (row-held col l.r l.k _ c.other-bit.result l.m _ l.steps _ c.note.ensures (omega arith) l.invariant.pivot c.add_kept.ensures)

pub loop-column-init : goal.loop-column-init
loop-column-init c = record { few = omega arith; beyond = refl; left = start c.args.m.now c.args.steps.now }

pub returns-in_err-k : goal.returns-in_err-k
returns-in_err-k c =
    let l = c.loop-column in
    let n = length (rows_of c.args.m.now) in
    let s : length (rows_of l.m) ≡ n = omega (arith, row_count l.m, row_count c.args.m.now) in
    let d = c.in_err-k.ensures in
    let t : Over c.args.limit (diagonal n l.column (held l.m l.steps l.k)) = rw s at d.answer in
    rw c.from_residual.ensures (record {
      answer = lost-diagonal _ _ _ _ _ l.invariant.left (omega (arith, row_count c.args.m.now)) t;
      beyond = d.beyond ∙ l.invariant.beyond;
    })

-- the column's diagonal is filled
filled : (c : In_ok-k) → let col = c.loop-column.column in let d = c.diagonal.new in let n = length (rows_of c.args.m.now) in
    wanted (rows_of c.args.m.now) ≡ reduce_from n (n - (col + 1)) (col + 1) (clear col (length (rows_of d.m)) 0 (held d.m d.steps c.in_ok-k.k))
filled c =
    let l = c.loop-column in
    let d = c.diagonal.new in
    let e = row_count c.args.m.now in
    column-filled _ _ l.column l.k _ l.m d.m l.steps d.steps l.invariant.left (omega (arith, e)) (omega (arith, e, row_count l.m)) (omega (arith, e, row_count d.m)) c.in_ok-k.ensures.answer.0

pub returns-then-k-limit : goal.returns-then-k-limit
returns-then-k-limit c =
    let l = c.loop-r in
    let w = c.note in
    let a = (goal.at.returns-then-k-limit c).After-note in
    record {
      answer = lost-row c.add_kept.new.m w.new.steps (l.k + bool_byte c.other-bit.result) (omega (arith, byte_le c.other-bit.result)) _ _ _ _ _ _ _ _ _ (filled (goal.at.returns-then-k-limit c).In_ok-k) (turned a) c.if-k-limit.true;
      beyond = w.ensures.beyond (2 * (c.args.limit + 1)) (omega arith) ∙ l.invariant.beyond ∙ c.in_ok-k.ensures.beyond ∙ c.loop-column.invariant.beyond;
    }

pub loop-r-preserved : goal.loop-r-preserved
loop-r-preserved c =
    let l = c.loop-r in
    let a = (goal.at.loop-r-preserved c).After-note in
    record {
      few = c.if-k-limit.false;
      beyond = c.note.ensures.beyond (2 * (c.args.limit + 1)) (omega arith) ∙ l.invariant.beyond;
      pivot = rw c.add_kept.ensures (pivot-stays _ c.loop-column.column l.r _ _ (rows_of l.m) (tested a) ∙ l.invariant.pivot);
      left = turned a;
    }

pub loop-column-preserved : goal.loop-column-preserved
loop-column-preserved c =
    let i = c.loop-r.invariant in
    let d = c.diagonal.new in
    let e : length (rows_of d.m) ≤ c.loop-r.r = omega (arith, row_count d.m) in
    record {
      few = i.few;
      beyond = i.beyond ∙ c.in_ok-k.ensures.beyond ∙ c.loop-column.invariant.beyond;
      left = filled (goal.at.loop-column-preserved c).In_ok-k ∙ ap (reduce_from _ _ _) (i.left ∙ clear-end _ _ _ _ e);
    }

pub returns-after-loop-column : goal.returns-after-loop-column
returns-after-loop-column c =
    let l = c.loop-column in
    record { answer = made l.m l.steps l.k (omega arith) _ _ _ _ l.invariant.left (omega (arith, row_count c.args.m.now)) l.invariant.few; beyond = l.invariant.beyond }

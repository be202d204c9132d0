-- `plain_close::reduce` meets its contract.
use Rattle.std.proofs.Common.{◌≡◌, ℕ, ◌+◌, ◌*◌, ◌≤◌, ◌<◌, length, sym, ap, ◌∙◌, subst, arith}
use Rattle.std.proofs.Math.Option.{some, none}
use Rattle.rules.specs.Close.{clear, diagonal, reduce_from}
use Rattle.rows.specs.Rows.{rows_of}
use Rattle.rows.proofs.Room.{row_count}
use Rattle.closing.specs.Additions.{held}
use Rattle.closing.proofs.Columns.{column-filled, reduce-stuck, start, made}
use Rattle.plain_close.proofs.Noting.{column-room, column-ends}
use Rattle.plain_close.proofs.reduce.Goals as goal
use Rattle.plain_close.proofs.reduce.Goals.{In-loop-column}

-- a column is left, of as many rows as there were, and room for it
more : (c : In-loop-column)
    → let l = c.loop-column in let n = length (rows_of c.args.m.now) in (l.column < n) × (length (rows_of l.m) ≡ n) × (2 * (l.k + 1 + n) ≤ length l.steps)
more c =
    let l = c.loop-column in
    let e = row_count c.args.m.now in
    let g : l.column < length (rows_of c.args.m.now) = omega (arith, e) in
    (g, omega (arith, e, row_count l.m), column-room _ l.column l.k (length l.steps) g l.invariant.few (omega (arith, c.requires.1)))

pub loop-column-init : goal.loop-column-init
loop-column-init c = record { few = omega arith; left = start c.args.m.now c.args.steps.now }

pub returns-in_err-filled : goal.returns-in_err-filled
returns-in_err-filled c =
    let l = c.loop-column in
    let h = more (goal.at.returns-in_err-filled c).In-loop-column in
    let t : diagonal (length (rows_of c.args.m.now)) l.column (held l.m l.steps l.k) ≡ none = rw h.1 at c.in_err-filled.ensures in
    rw c.from_residual.ensures (l.invariant.left ∙ reduce-stuck _ l.column _ h.0 t)

pub loop-column-preserved : goal.loop-column-preserved
loop-column-preserved c =
    let l = c.loop-column in
    let d = c.diagonal.new in
    let t = c.clear_column-k in
    let h = more (goal.at.loop-column-preserved c).In-loop-column in
    let n = length (rows_of c.args.m.now) in
    let s : length (rows_of d.m) ≡ n = omega (arith, row_count d.m, row_count c.args.m.now) in
    let r = c.in_ok-filled.ensures in
    let e : held t.new.m t.new.steps t.result ≡ clear l.column n 0 (held d.m d.steps c.in_ok-filled.filled) = rw s at t.ensures.0 in
    let f : diagonal n l.column (held l.m l.steps l.k) ≡ some (held d.m d.steps c.in_ok-filled.filled) = rw h.1 at r.0 in
    let few : t.result ≤ l.k + n = column-ends l.m d.m t.new.m l.steps d.steps t.new.steps n l.column l.k c.in_ok-filled.filled _ h.0 f e (omega (arith, h.2)) (omega (arith, h.2, t.ensures.1, r.1, s)) in
    record {
      few = omega (arith, few, l.invariant.few);
      left = column-filled _ n l.column l.k _ l.m d.m l.steps d.steps l.invariant.left h.0 h.1 s r.0 ∙ ap (reduce_from n _ _) (sym t.ensures.0);
    }

pub returns : goal.returns
returns c =
    let l = c.loop-column in
    let n = length (rows_of c.args.m.now) in
    let f = row_count c.args.m.now in
    let e : l.column ≡ n = omega (arith, f) in
    let few : l.k ≤ n * n = subst (λ (x : ℕ). l.k ≤ x * n) e l.invariant.few in
    made l.m l.steps l.k (omega (arith, c.requires.1)) _ _ _ _ l.invariant.left (omega (arith, f)) few

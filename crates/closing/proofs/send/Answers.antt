-- `closing::send` meets its contract.
use Rattle.std.proofs.Common.{◌≡◌, ◌*◌, length, refl, sym, ◌∙◌, arith}
use Prim.Native.Nat.{min}
use Rattle.budget.specs.View.{view}
use Rattle.rows.specs.Rows.{rows_of}
use Rattle.rows.proofs.Room.{row_count}
use Rattle.closing.specs.Emission.{left_of}
use Rattle.closing.proofs.Sending.{over-square, made-sent, sends-lost, sends-made}
use Rattle.closing.proofs.send.Goals as goal
use Rattle.closing.proofs.send.Goals.{After-limit_of-limit}

-- the limit: what the budget has left, and no more than the rows squared
limited : (c : After-limit_of-limit) → let s = c.args in c.limit_of-limit.result ≡ min (left_of (view s.b)) (length (rows_of s.m.now) * length (rows_of s.m.now))
limited c = c.limit_of-limit.ensures ∙ rw (row_count c.args.m.now, c.left_of.ensures) refl

pub returns-in_default : goal.returns-in_default
returns-in_default c =
    let s = c.args in
    let p = c.requires.sendable in
    sends-lost p.from p.to (rows_of s.m.now) p.square p.closes _ _ _ (over-square (left_of (view s.b)) (rows_of s.m.now) (rw (limited (goal.at.returns-in_default c).After-limit_of-limit) at c.in_default.ensures.answer))

pub emit_steps-requires : goal.emit_steps-requires
emit_steps-requires c =
    let p = c.requires.sendable in
    let m = c.in-Some.ensures.answer in
    record { ready = c.requires.ready; sent = made-sent p.from p.to (rows_of c.args.m.now) p.square p.closes _ _ _ _ m (omega (arith, p.steps, m.few, limited (goal.at.emit_steps-requires c).After-limit_of-limit)) (p.named ∙ sym p.sized) p.wired }

pub returns : goal.returns
returns c = let p = c.requires.sendable in sends-made p.from p.to (rows_of c.args.m.now) p.square p.closes _ _ _ _ _ _ _ _ _ c.in-Some.ensures.answer c.emit_steps.ensures

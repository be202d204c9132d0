use mathlib.Core.Path.{sym, ◌∙◌}
use native.Mathlib.Nat.{pos_of_ne-zero}
use borrow.Author.Tests.{eqb-true, eqb-false}
use Rattle.parity.specs.View.{val}
use Rattle.column.proofs.Marking.{agreed-best, nearly-best}
use Rattle.column.proofs.best_column.Goals as goal

pub returns-then-not-is_zero : goal.returns-then-not-is_zero
returns-then-not-is_zero c =
    let s = c.survey-s in
    let some = pos_of_ne-zero (eqb-false (val s.result.whole) 0 (sym c.is_zero.ensures ∙ c.if-not-is_zero.true)) in
    agreed-best _ _ _ _ s.ensures.0 (c.highest.ensures.high some) c.highest.ensures.small

pub returns-then-not-is_zero-2 : goal.returns-then-not-is_zero-2
returns-then-not-is_zero-2 c =
    let s = c.survey-s in
    let none = eqb-true (val s.result.whole) 0 (sym c.is_zero.ensures ∙ c.if-not-is_zero.false) in
    let some = pos_of_ne-zero (eqb-false (val s.result.near) 0 (sym c.is_zero-2.ensures ∙ c.if-not-is_zero-2.true)) in
    nearly-best _ _ _ _ _ s.ensures.0 none s.ensures.1 (c.highest-then-not-is_zero-2.ensures.high some) c.highest-then-not-is_zero-2.ensures.small

-- `pair::tell` meets its contract, case by case.
use mathlib.Core.Path.{◌≡◌, ap}
use Rattle.saying.specs.Answer.{answered}
use Rattle.acting.specs.Answer.{verdict_of}
use Rattle.acting.specs.declared.Verdict.{Verdict}
use Rattle.pair.specs.Answer.{verdict_text}

line_of : (v x : Verdict) → v ≡ x → answered (verdict_text (verdict_of v)) ≡ answered (verdict_text (verdict_of x))
line_of v x e = ap (λ (y : Verdict). answered (verdict_text (verdict_of y))) e

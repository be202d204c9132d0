-- What is printed for an accepted list, by what the pass leaves in its room.
use mathlib.Core.Path.{◌≡◌, sym, ap, ap₂, ◌∙◌}
use mathlib.Core.List.{List}
use Prim.Native.Nat.{◌*◌}
use lib.IntN.{ℤ}
use lib.ListN.{take}
use Rattle.rules.specs.Limits.{width}
use Rattle.rules.specs.Pass as Pass
use Rattle.cnot_min.specs.Minimizing.{counted}
use Rattle.cnot_min.specs.declared.Counts.{Counts}
use Rattle.spelling.specs.Texts.{Head, result_text}
use Rattle.saying.specs.Answer.{answered, judged, Judge, judged_by}
use Rattle.fitting.specs.Clauses.{Made, Written}
use Rattle.list.specs.Answer.{count_numbers, shortened}

pub printed : (h : Head) (l : List ℤ) (c : Counts) (room' : List ℤ) → Made h l c room'
    → shortened h l ≡ answered (result_text h (take (width * c.gatesout) room') (count_numbers (counted c)))
unfolding shortened
printed h l c room' m = ap₂ (λ (ns : List ℤ) (k : Pass.Counts). answered (result_text h ns (count_numbers k))) (sym m.numbers) (sym m.counts)

pub shown : (judge : Judge) (h : Head) (l : List ℤ) (c : Counts) (room' : List ℤ) → Written judge h l c room'
    → judged_by judge shortened h l ≡ answered (result_text h (take (width * c.gatesout) room') (count_numbers (counted c)))
shown judge h l c room' w = ap (judged (shortened h l)) w.is ∙ printed h l c room' w.made

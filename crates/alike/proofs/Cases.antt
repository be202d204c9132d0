-- Pairs of lists with their answers, by the definition.
use mathlib.Core.Path.{◌≡◌, refl}
use mathlib.Core.List.{List, [], ◌∷◌, map}
use Prim.Native.Nat.{ℕ, suc}
use lib.IntN.{ℤ, pos, negsuc}
use Rattle.rules.specs.Limits.{max_wires}
use Rattle.acting.specs.Alike.{alike, map_differs, flips_differ, phase_differs, verdict}
use Rattle.alike.specs.Answering.{Answer, refusal, says, answer}

pub record Case : Type 0 where
  pub wires : ℕ
  pub first : List ℤ
  pub second : List ℤ
  pub answer : Answer

abbrev case : ℕ → List ℤ → List ℤ → Answer → Case
case w us vs a = record { wires = w; first = us; second = vs; answer = a }

-- list, number, place, field
abbrev refuses : ℕ → ℕ → ℕ → ℕ → Answer
refuses list number place field = refusal list (record { number = number; place = place; field = field })

abbrev pub cases : List Case
cases =
    -- a measure's bit is out of range before its code is outside the fragment
    case 1 (pos 27 ∷ pos 0 ∷ pos 0 ∷ pos 0 ∷ pos 0 ∷ pos 0 ∷ []) ([]) (refuses 1 14 0 2)
    -- the wires as given; 17 straight after 3; the first list first
    ∷ case 129 ([]) ([]) (refuses 1 17 0 0)
    ∷ case (suc max_wires) ([]) ([]) (refuses 1 3 0 0)
    ∷ case 129 (pos 0 ∷ []) ([]) (refuses 1 1 0 0)
    ∷ case 129 ([]) (pos 0 ∷ []) (refuses 1 17 0 0)
    ∷ case 1 (pos 99 ∷ pos 0 ∷ pos 0 ∷ pos 0 ∷ pos 0 ∷ pos 0 ∷ []) (pos 0 ∷ []) (refuses 1 6 0 0)
    ∷ case 1 ([]) (pos 0 ∷ []) (refuses 2 1 0 0)
    ∷ case 2 (pos 1 ∷ pos 0 ∷ pos 0 ∷ pos 0 ∷ pos 0 ∷ pos 0 ∷ []) (pos 1 ∷ pos 0 ∷ pos 0 ∷ pos 0 ∷ pos 0 ∷ pos 0 ∷ pos 17 ∷ pos 0 ∷ pos 1 ∷ pos 0 ∷ pos 0 ∷ pos 0 ∷ []) (refuses 2 16 1 0)
    -- 16 after 9, and 18 after 16
    ∷ case 2 (pos 17 ∷ pos 0 ∷ pos 1 ∷ pos 0 ∷ pos 0 ∷ pos 0 ∷ []) ([]) (refuses 1 16 0 0)
    ∷ case 2 (pos 17 ∷ pos 0 ∷ pos 2 ∷ pos 0 ∷ pos 0 ∷ pos 0 ∷ []) ([]) (refuses 1 8 0 2)
    ∷ case 2 (pos 17 ∷ pos 1 ∷ pos 1 ∷ pos 0 ∷ pos 0 ∷ pos 0 ∷ []) ([]) (refuses 1 9 0 0)
    ∷ case 2 (pos 17 ∷ pos 0 ∷ pos 1 ∷ pos 0 ∷ pos 0 ∷ negsuc 0 ∷ []) ([]) (refuses 1 16 0 0)
    ∷ case 2 (pos 1 ∷ pos 0 ∷ pos 0 ∷ pos 0 ∷ pos 0 ∷ negsuc 0 ∷ []) ([]) (refuses 1 18 0 0)
    -- the first that differs
    ∷ case 2 (pos 1 ∷ pos 0 ∷ pos 0 ∷ pos 0 ∷ pos 0 ∷ pos 0 ∷ pos 8 ∷ pos 0 ∷ pos 1 ∷ pos 0 ∷ pos 0 ∷ pos 0 ∷ []) (pos 2 ∷ pos 0 ∷ pos 0 ∷ pos 0 ∷ pos 0 ∷ pos 0 ∷ []) (says map_differs)
    ∷ case 1 (pos 1 ∷ pos 0 ∷ pos 0 ∷ pos 0 ∷ pos 0 ∷ pos 0 ∷ []) (pos 2 ∷ pos 0 ∷ pos 0 ∷ pos 0 ∷ pos 0 ∷ pos 0 ∷ []) (says flips_differ)
    ∷ case 1 (pos 4 ∷ pos 0 ∷ pos 0 ∷ pos 0 ∷ pos 0 ∷ pos 0 ∷ []) (pos 2 ∷ pos 0 ∷ pos 0 ∷ pos 0 ∷ pos 0 ∷ pos 0 ∷ []) (says phase_differs)
    -- any constant; cz01 cz01, whose terms are not the empty list's; no wires; other lines
    ∷ case 1 (pos 1 ∷ pos 0 ∷ pos 0 ∷ pos 0 ∷ pos 0 ∷ pos 0 ∷ pos 2 ∷ pos 0 ∷ pos 0 ∷ pos 0 ∷ pos 0 ∷ pos 0 ∷ pos 1 ∷ pos 0 ∷ pos 0 ∷ pos 0 ∷ pos 0 ∷ pos 0 ∷ pos 2 ∷ pos 0 ∷ pos 0 ∷ pos 0 ∷ pos 0 ∷ pos 0 ∷ []) ([]) (says alike)
    ∷ case 2 (pos 9 ∷ pos 0 ∷ pos 1 ∷ pos 0 ∷ pos 0 ∷ pos 0 ∷ pos 9 ∷ pos 0 ∷ pos 1 ∷ pos 0 ∷ pos 0 ∷ pos 0 ∷ []) ([]) (says alike)
    ∷ case 0 ([]) ([]) (says alike)
    ∷ case 1 (pos 2 ∷ pos 0 ∷ pos 0 ∷ pos 0 ∷ pos 0 ∷ pos 1 ∷ []) (pos 2 ∷ pos 0 ∷ pos 0 ∷ pos 0 ∷ pos 0 ∷ pos 2 ∷ []) (says alike)
    ∷ []

pub worked : map (λ (c : Case). answer c.first c.second c.wires) cases ≡ map (λ (c : Case). c.answer) cases
unfolding answer verdict
worked = refl

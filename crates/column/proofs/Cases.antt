-- Worked sets: what the paper's sentence chooses of them, by computing: one table, one statement.
use mathlib.Core.Path.{◌≡◌, refl}
use mathlib.Core.List.{List, [], ◌∷◌, map}
use Prim.Native.Nat.{ℕ}
use Rattle.rules.specs.Fold.{Term}
use Rattle.column.specs.Distance.{furthest}

-- parities, candidates, and the column with its distance
record Case : Type 0 where
  parities : List ℕ
  cands : ℕ
  answer : ℕ × ℕ

abbrev cases : List Case
cases =
    -- three parities: none has column 0, two have column 1. A signed distance takes column 1
    record { parities = 2 ∷ 4 ∷ 6 ∷ []; cands = 3; answer = (0, 3) }
    -- all have column 0, one has column 1. The size without doubling takes column 1
    ∷ record { parities = 1 ∷ 3 ∷ 5 ∷ []; cands = 3; answer = (0, 3) }
    -- both columns split evenly: the highest, though its distance is 0
    ∷ record { parities = 1 ∷ 2 ∷ []; cands = 3; answer = (1, 0) }
    -- no parity; no candidate
    ∷ record { parities = []; cands = 5; answer = (2, 0) }
    ∷ record { parities = 1 ∷ 2 ∷ []; cands = 0; answer = (0, 0) }
    ∷ []

abbrev term_of : ℕ → Term
term_of p = record { parity = p; turn = 1 }

worked : map (λ (c : Case). furthest 4 c.cands (map term_of c.parities)) cases ≡ map (λ (c : Case). c.answer) cases
unfolding furthest
worked = refl

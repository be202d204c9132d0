-- A part of a list's numbers that is whole gates, for callers: `exact-part` says that it is exact, `gates-part` which gates it has.
use mathlib.Core.Path.{◌≡◌, refl, sym, ap, ◌∙◌}
use mathlib.Core.List.{List, [], ◌∷◌, ◌++◌}
use Prim.Native.Nat.{ℕ, zero, suc, ◌+◌, ◌*◌}
use native.Mathlib.Omega.{arith}
use lib.IntN.{ℤ}
use lib.ListN.{length, take, drop}
use lib.Seq.{take-nil, drop-nil, take-append-add, drop-append-add}
use Rattle.rules.specs.Limits.{width}
use Rattle.rules.specs.Gate.{Gate}
use Rattle.rules.specs.Numbers.{numbers, gates_of, numbers_of}
use Rattle.rules.proofs.Reading.{read-written}
use Rattle.flush.specs.Choice.{Exact}

numbers-take : (k : ℕ) (gs : List Gate) → take (width * k) (numbers_of gs) ≡ numbers_of (take k gs)
unfolding numbers_of
numbers-take zero gs = refl
numbers-take (suc k) [] = take-nil (width * suc k)
numbers-take (suc k) (g ∷ gs) =
    let e : width * suc k ≡ length (numbers g) + width * k = omega arith in
    ap (λ (n : ℕ). take n (numbers g ++ numbers_of gs)) e ∙ take-append-add (numbers g) (numbers_of gs) (width * k) ∙ ap (λ (l : List ℤ). numbers g ++ l) (numbers-take k gs)

numbers-drop : (k : ℕ) (gs : List Gate) → drop (width * k) (numbers_of gs) ≡ numbers_of (drop k gs)
unfolding numbers_of
numbers-drop zero gs = refl
numbers-drop (suc k) [] = drop-nil (width * suc k)
numbers-drop (suc k) (g ∷ gs) =
    let e : width * suc k ≡ length (numbers g) + width * k = omega arith in
    ap (λ (n : ℕ). drop n (numbers g ++ numbers_of gs)) e ∙ drop-append-add (numbers g) (numbers_of gs) (width * k) ∙ numbers-drop k gs

-- k gates from place i on, of a list that is exact
module _ (l : List ℤ) (x : Exact l) (i k : ℕ) where
  part-is : take (width * k) (drop (width * i) l) ≡ numbers_of (take k (drop i (gates_of l)))
  part-is =
      ap (λ (m : List ℤ). take (width * k) (drop (width * i) m)) (sym x)
      ∙ ap (take (width * k)) (numbers-drop i (gates_of l)) ∙ numbers-take k (drop i (gates_of l))

  pub gates-part : gates_of (take (width * k) (drop (width * i) l)) ≡ take k (drop i (gates_of l))
  gates-part = ap gates_of part-is ∙ read-written (take k (drop i (gates_of l)))

  pub exact-part : Exact (take (width * k) (drop (width * i) l))
  exact-part = ap numbers_of gates-part ∙ sym part-is

-- A parity's table, for `pick`: none of its columns, and all of them.
use mathlib.Core.Path.{◌≡◌}
use mathlib.Core.Bool.{Bool, true, false, cond}
use mathlib.Core.List.{List, [], ◌∷◌, map}
use Prim.Native.Nat.{ℕ}
use Rattle.parity.specs.declared.Parity.{Parity}
use Rattle.parity.specs.View.{val, picked}

pub record Table (p : ℕ) (t : List Parity) : Type 0 where
  pub none : picked t 0 ≡ 0
  pub all : picked t 1 ≡ p

pub table-made : {p : ℕ} (t : List Parity) → map val t ≡ 0 ∷ p ∷ [] → Table p t
table-made [] e = cc
table-made (x ∷ []) e = cc
table-made (x ∷ y ∷ []) e = record { none = cc; all = cc }
table-made (x ∷ y ∷ z ∷ xs) e = cc

pub table-picks : {p : ℕ} {t : List Parity} (keep : Bool) (digit : ℕ) → digit ≡ cond keep 1 0 → Table p t → picked t digit ≡ cond keep p 0
table-picks true digit e h = rw e h.all
table-picks false digit e h = rw e h.none

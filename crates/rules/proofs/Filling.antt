-- A list stored into number by number, whatever the type of a number.
use mathlib.Core.Path.{◌≡◌, ◌∙◌}
use mathlib.Core.List.{List}
use Prim.Native.Nat.{ℕ, ◌+◌, ◌<◌}
use native.Mathlib.Omega.{arith}
use lib.ListN.{length, get_or, set}
use lib.Seq.{get_or-set_same, get_or-set_other}
use Rattle.rules.proofs.Bits.{same}

module _ {A : Type 0} (due : ℕ → A) (none : A) where
  -- the first k numbers are what is due at their places
  abbrev pub Upto : List A → ℕ → Type 0
  Upto room k = (i : ℕ) → i < k → get_or room i none ≡ due i

  pub upto_next : (room : List A) (k : ℕ) (a : A) → k < length room → a ≡ due k → Upto room k → Upto (set room k a) (k + 1)
  upto_next room k a h e u i hi =
      same i k
      (λ q t. rw q (get_or-set_same room k a none h ∙ e))
      (λ q t. get_or-set_other room k i a none q ∙ u i (omega arith))

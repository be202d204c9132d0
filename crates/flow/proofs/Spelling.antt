-- Numbers spelled one behind the other.
use Rattle.std.proofs.Common.{◌≡◌, ℕ, zero, suc, ◌+◌, ◌<◌, List, [], ◌∷◌, ◌++◌, length, take, get_or, sym, ap, ◌∙◌, append_assoc, append-nil, add-one, arith}
use Rattle.std.specs.Int.{w32, to_le_bytes}
use Rattle.flow.specs.Streams.{spelled, spelled_all}

four : {a b c d a' b' c' d' : ℕ} → a ≡ a' → b ≡ b' → c ≡ c' → d ≡ d' → (a ∷ b ∷ c ∷ d ∷ []) ≡ (a' ∷ b' ∷ c' ∷ d' ∷ [])
four p q r s = λ i. p i ∷ q i ∷ r i ∷ s i ∷ []

pub spelled_is : (x : ℕ) → x < 4294967296 → to_le_bytes w32 x ≡ spelled x
spelled_is x h = four (omega arith) (omega arith) (omega arith) (omega arith)

module _ {A : Type 0} (bits : A → ℕ) (none : A) where
  next-suc : (xs : List A) (i : ℕ) → i < length xs → spelled_all bits (take (suc i) xs) ≡ spelled_all bits (take i xs) ++ spelled (bits (get_or xs i none))
  next-suc [] i h = absurd (omega arith)
  next-suc (x ∷ xs) zero h = append-nil (spelled (bits x))
  next-suc (x ∷ xs) (suc i) h = ap (λ l. spelled (bits x) ++ l) (next-suc xs i (omega arith)) ∙ sym (append_assoc (spelled (bits x)) (spelled_all bits (take i xs)) (spelled (bits (get_or xs i none))))

  pub spelled_next : (xs : List A) (i : ℕ) → i < length xs → spelled_all bits (take (i + 1) xs) ≡ spelled_all bits (take i xs) ++ spelled (bits (get_or xs i none))
  spelled_next xs i h = rw (add-one i) (next-suc xs i h)

-- The sum of a set's turns, front to back.
use mathlib.Core.Path.{◌≡◌, sym, ap, ◌∙◌}
use mathlib.Core.List.{List, [], ◌∷◌}
use Prim.Native.Nat.{ℕ, ◌+◌, ◌%◌, ◌≤◌, ◌<◌}
use native.Mathlib.Numerals.{add-one}
use native.Mathlib.Omega.{arith}
use lib.ListN.{length, get_or, drop, drop_of_length-le}
use lib.Seq.{drop-cons}
use Rattle.rules.specs.Fold.{Term}
use Rattle.rules.specs.Walk.{turns}
use Rattle.terms.specs.Terms.{no_term}

module _ (ts : List Term) where
  pub turns_next : (sum new i : ℕ) (e : Term) → (sum + turns (drop i ts)) % 8 ≡ turns ts % 8 → i < length ts → e ≡ get_or ts i no_term → new ≡ (sum + e.turn) % 8
      → (new + turns (drop (i + 1) ts)) % 8 ≡ turns ts % 8
  unfolding turns
  turns_next sum new i e h l r f =
      let d : drop i ts ≡ e ∷ drop (i + 1) ts = rw (r, add-one) (drop-cons ts i no_term l) in
      let g : (sum + (e.turn + turns (drop (i + 1) ts))) % 8 ≡ turns ts % 8 = ap (λ (us : List Term). (sum + turns us) % 8) (sym d) ∙ h in
      more sum e.turn (turns (drop (i + 1) ts)) new f ∙ g
    where
      more : (s k u n : ℕ) → n ≡ (s + k) % 8 → (n + u) % 8 ≡ (s + (k + u)) % 8
      more s k u n q = omega arith

  pub turns-end : (sum i : ℕ) → (sum + turns (drop i ts)) % 8 ≡ turns ts % 8 → sum < 8 → length ts ≤ i → sum ≡ turns ts % 8
  unfolding turns
  turns-end sum i h s l =
      let g : (sum + turns []) % 8 ≡ turns ts % 8 = ap (λ (us : List Term). (sum + turns us) % 8) (sym (drop_of_length-le ts l)) ∙ h in
      omega arith

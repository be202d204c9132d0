-- Steps made one after the other: emitted, with the rows that follow.
--     made_then     steps, and then more
--     made-stop     steps on which the budget was spent
--     Partly        the steps of a whole up to some place: a loop's invariant, from `partly-first` by `partly-next` to `partly-end`
use mathlib.Core.Path.{◌≡◌, refl, sym, ap, ◌∙◌, subst}
use mathlib.Core.Bool.{Bool, true, false, false≢true}
use mathlib.Core.List.{List, [], ◌∷◌, ◌++◌, append_assoc, append-nil}
use Prim.Native.Nat.{ℕ}
use lib.IntN.{ℤ}
use Rattle.rules.specs.Gate.{Gate}
use Rattle.rules.specs.Budget.{Budget}
use Rattle.rules.specs.Walk.{Step, cn, rot, held}
use Rattle.rules.specs.Synth.{emit}
use Rattle.rules.proofs.Bits.{split}
use Rattle.rules.proofs.Steps.{emit-append}
use Rattle.emit.specs.Emitted.{Ready, Emits}
use Rattle.emit.proofs.Appending.{emits_none, emits_then, emits-stop}
use Rattle.walk.specs.Place.{Synthesized}

pub held-append : (us vs : List Step) (m : List ℕ) → held (us ++ vs) m ≡ held vs (held us m)
unfolding held
held-append [] vs m = refl
held-append (cn p t ∷ us) vs m = held-append us vs (held (cn p t ∷ []) m)
held-append (rot q k ∷ us) vs m = held-append us vs m

module _ (names : List ℕ) where
  pub made_none : (o : List ℤ) (b : Budget) (m : List ℕ) → Ready o b → Synthesized names [] o b m o b m true
  unfolding emit held
  made_none o b m r = record { emits = emits_none o b r; rows = λ _. refl }

  pub made_then : {us vs : List Step} {o o₁ o₂ : List ℤ} {b b₁ b₂ : Budget} {m m₁ m₂ : List ℕ} {w : Bool}
      → Synthesized names us o b m o₁ b₁ m₁ true → Synthesized names vs o₁ b₁ m₁ o₂ b₂ m₂ w → Synthesized names (us ++ vs) o b m o₂ b₂ m₂ w
  made_then {us} {vs} {o} {o₁} {o₂} {b} {b₁} {b₂} {m} {m₁} {m₂} {w} h k =
      record {
        emits = subst (λ (gs : List Gate). Emits gs o b o₂ b₂ w) (sym (emit-append names us vs)) (emits_then h.emits k.emits);
        rows = λ e. k.rows e ∙ ap (held vs) (h.rows refl) ∙ sym (held-append us vs m);
      }

  -- spent, whatever would have followed
  pub made-stop : {us : List Step} (vs : List Step) {o o₁ : List ℤ} {b b₁ : Budget} {m m₁ : List ℕ}
      → Synthesized names us o b m o₁ b₁ m₁ false → Synthesized names (us ++ vs) o b m o₁ b₁ m₁ false
  made-stop {us} vs {o} {o₁} {b} {b₁} {m} {m₁} h =
      record {
        emits = subst (λ (gs : List Gate). Emits gs o b o₁ b₁ false) (sym (emit-append names us vs)) (emits-stop (emit names us) (emit names vs) o o₁ b b₁ h.emits);
        rows = λ e. absurd (false≢true e);
      }

-- of the steps of a whole, all but the rest are made
pub record Partly (names : List ℕ) (whole rest : List Step) (o : List ℤ) (b : Budget) (m : List ℕ) (o' : List ℤ) (b' : Budget) (m' : List ℕ) (within : Bool) : Type 0 where
  pub done : List Step
  pub steps : whole ≡ done ++ rest
  pub made : Synthesized names done o b m o' b' m' within

module _ (names : List ℕ) (whole : List Step) (o : List ℤ) (b : Budget) (m : List ℕ) where
  pub partly-first : Ready o b → Partly names whole whole o b m o b m true
  partly-first r = record { done = []; steps = refl; made = made_none names o b m r }

  module _ (rest : List Step) (o₁ : List ℤ) (b₁ : Budget) (m₁ : List ℕ) (w : Bool) (h : Partly names whole rest o b m o₁ b₁ m₁ w) where
    pub partly-next : w ≡ true → (ss more : List Step) → rest ≡ ss ++ more → (o₂ : List ℤ) (b₂ : Budget) (m₂ : List ℕ) (v : Bool)
        → Synthesized names ss o₁ b₁ m₁ o₂ b₂ m₂ v → Partly names whole more o b m o₂ b₂ m₂ v
    partly-next t ss more e o₂ b₂ m₂ v k =
        record {
          done = h.done ++ ss;
          steps = h.steps ∙ ap (λ (x : List Step). h.done ++ x) e ∙ sym (append_assoc h.done ss more);
          made = made_then names (subst (Synthesized names h.done o b m o₁ b₁ m₁) t h.made) k;
        }

    pub partly-end : (w ≡ true → rest ≡ []) → Synthesized names whole o b m o₁ b₁ m₁ w
    partly-end none =
        split w
        (λ e. subst (λ (ss : List Step). Synthesized names ss o b m o₁ b₁ m₁ w) (sym (h.steps ∙ ap (λ (x : List Step). h.done ++ x) (none e) ∙ append-nil h.done)) h.made)
        (λ e. subst (λ (ss : List Step). Synthesized names ss o b m o₁ b₁ m₁ w) (sym h.steps)
        (subst (Synthesized names (h.done ++ rest) o b m o₁ b₁ m₁) (sym e) (made-stop names rest (subst (Synthesized names h.done o b m o₁ b₁ m₁) e h.made))))

-- Emissions, one after the other.
use mathlib.Core.Path.{◌≡◌, refl, sym, ap, ◌∙◌, subst}
use mathlib.Core.Bool.{Bool, true, false, cond, false≢true, true≢false}
use mathlib.Core.List.{List, [], ◌∷◌, ◌++◌, append_assoc, append-nil}
use Prim.Native.Nat.{ℕ, ◌+◌, ◌*◌, ◌≤◌}
use native.Mathlib.Omega.{arith}
use lib.IntN.{ℤ}
use lib.ListN.{length, take, length-append}
use lib.Dec.{leb}
use borrow.Author.Tests.{leb-true, leb-false}
use Rattle.rules.specs.Limits.{width}
use Rattle.rules.specs.Gate.{Gate}
use Rattle.rules.specs.Counts.{is_two, twos}
use Rattle.rules.specs.Budget.{Budget, within, push}
use Rattle.rules.proofs.Bits.{split, and_left, and_right}
use Rattle.rules.proofs.Passing.{twos-append}
use Rattle.gate.specs.Writing.{placed}
use Rattle.gate.proofs.Placing.{length-placed, next-placed}
use Rattle.budget.specs.View.{Push}
use Rattle.budget.proofs.Counting.{counts-push}
use Rattle.emit.specs.Emitted.{Holds, Ready, Passes, dear, long, Emits}

-- counts only grow
pub passes-more : (b : Budget) (gs new : List Gate) → Passes b gs → Passes b (gs ++ new)
passes-more b gs new (dear h) = dear (omega (arith, twos-append gs new))
passes-more b gs new (long h) = long (omega (arith, length-append gs new))

passes-by : (b b' : Budget) (gs : List Gate) → b'.max_two ≡ b.max_two → b'.max_all ≡ b.max_all → Passes b' gs → Passes b gs
passes-by b b' gs e f (dear h) = dear (omega arith)
passes-by b b' gs e f (long h) = long (omega arith)

-- nothing emitted
pub emits_none : (out : List ℤ) (b : Budget) → Ready out b → Emits [] out b out b true
emits_none out b r =
    record {
      made = λ e gs h. subst (Holds out b) (sym (append-nil gs)) h;
      spent = λ e. absurd (true≢false e);
      ready = λ e. r;
      max_two = refl;
      max_all = refl;
      size = refl;
    }

module _ {us vs : List Gate} {o o₁ o₂ : List ℤ} {b b₁ b₂ : Budget} {w : Bool} where
  -- made, and then more
  pub emits_then : Emits us o b o₁ b₁ true → Emits vs o₁ b₁ o₂ b₂ w → Emits (us ++ vs) o b o₂ b₂ w
  emits_then h k =
      record {
        made = λ e gs a. subst (Holds o₂ b₂) (append_assoc gs us vs) (k.made e (gs ++ us) (h.made refl gs a));
        spent = λ e gs a. passes-by b b₁ (gs ++ (us ++ vs)) h.max_two h.max_all (subst (Passes b₁) (append_assoc gs us vs) (k.spent e (gs ++ us) (h.made refl gs a)));
        ready = k.ready;
        max_two = k.max_two ∙ h.max_two;
        max_all = k.max_all ∙ h.max_all;
        size = k.size ∙ h.size;
      }

-- spent, whatever would have followed
pub emits-stop : (us vs : List Gate) (o o₁ : List ℤ) (b b₁ : Budget) → Emits us o b o₁ b₁ false → Emits (us ++ vs) o b o₁ b₁ false
emits-stop us vs o o₁ b b₁ h =
    record {
      made = λ e. absurd (false≢true e);
      spent = λ e gs a. subst (Passes b) (append_assoc gs us vs) (passes-more b (gs ++ us) vs (h.spent refl gs a));
      ready = λ e. absurd (false≢true e);
      max_two = h.max_two;
      max_all = h.max_all;
      size = h.size;
    }

-- ---- one gate

snoc : (gs : List Gate) (g : Gate) → length (gs ++ (g ∷ [])) ≡ length gs + 1
snoc gs g = length-append gs (g ∷ [])

two-snoc : (gs : List Gate) (g : Gate) → twos (gs ++ (g ∷ [])) ≡ cond (is_two g.code) 1 0 + twos gs
unfolding twos
two-snoc gs g = omega (arith, twos-append gs (g ∷ []))

module _ (out : List ℤ) (b : Budget) (g : Gate) (r : Ready out b) where
  -- there is room for it
  pub place-fits : within (push g b) ≡ true → width * b.all + width ≤ length out
  place-fits e =
      let short = leb-true (push g b).all b.max_all (and_right (leb (push g b).two b.max_two) (leb (push g b).all b.max_all) e) in
      omega (arith, r.room)

  -- within both ceilings: written at the place of its number
  pub emits-gate : within (push g b) ≡ true → Emits (g ∷ []) out b (placed out b.all g) (push g b) true
  emits-gate e =
      let few = leb-true (push g b).two b.max_two (and_left (leb (push g b).two b.max_two) (leb (push g b).all b.max_all) e) in
      let short = leb-true (push g b).all b.max_all (and_right (leb (push g b).two b.max_two) (leb (push g b).all b.max_all) e) in
      let fits = place-fits e in
      record {
        made = λ _ gs h. record {
          text = ap (λ (k : ℕ). take (width * k) (placed out b.all g)) (snoc gs g ∙ ap (λ (k : ℕ). k + 1) (sym h.all))
              ∙ next-placed out b.all g fits gs (ap (λ (k : ℕ). take (width * k) out) h.all ∙ h.text);
          two = ap (λ (k : ℕ). cond (is_two g.code) 1 0 + k) h.two ∙ sym (two-snoc gs g);
          all = omega (arith, snoc gs g, h.all);
        };
        spent = λ q. absurd (true≢false q);
        ready = λ _. record { two = few; all = short; room = omega (arith, length-placed out b.all g fits, r.room); few = r.few };
        max_two = refl;
        max_all = refl;
        size = length-placed out b.all g fits;
      }

  -- past one of them: nothing is written
  pub emits-past : within (push g b) ≡ false → Emits (g ∷ []) out b out (push g b) false
  emits-past e =
      record {
        made = λ q. absurd (false≢true q);
        spent = λ _ gs h. past gs h;
        ready = λ q. absurd (false≢true q);
        max_two = refl;
        max_all = refl;
        size = refl;
      }
    where
      past : (gs : List Gate) → Holds out b gs → Passes b (gs ++ (g ∷ []))
      past gs h =
          split (leb (push g b).two b.max_two)
          (λ f. long (omega (arith, leb-false (push g b).all b.max_all (rw f at e), snoc gs g, h.all)))
          (λ f. dear (omega (arith, leb-false (push g b).two b.max_two f, two-snoc gs g, h.two)))

  module _ {pair : Bool} {b' : Budget} (e : is_two g.code ≡ pair) where
    -- counted by whether it is a CNOT or CZ, and within: it is written
    pub emits-counted : Push pair b b' true → Emits (g ∷ []) out b (placed out b.all g) b' true
    emits-counted p =
        let c = counts-push g pair b e in
        rw (p.budget, c) (emits-gate (sym (p.within ∙ ap within c)))

    -- and past a ceiling: nothing is
    pub emits-spent : Push pair b b' false → Emits (g ∷ []) out b out b' false
    emits-spent p =
        let c = counts-push g pair b e in
        rw (p.budget, c) (emits-past (sym (p.within ∙ ap within c)))

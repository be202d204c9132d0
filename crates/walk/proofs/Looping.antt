-- The walk as a loop: what was made so far, and what the stack has left, are the whole walk.
use mathlib.Core.Path.{◌≡◌, refl, sym, ap, ap₂, ◌∙◌, subst}
use mathlib.Core.Bool.{Bool, true}
use mathlib.Core.List.{List, [], ◌∷◌, ◌++◌}
use Prim.Native.Nat.{ℕ, suc, ◌+◌, ◌-◌, ◌^◌, ◌≤◌, ◌<◌}
use native.Mathlib.Omega.{arith}
use lib.IntN.{ℤ}
use lib.ListN.{length, get_or, set, take, length-set}
use lib.Seq.{take-length, get_or-set_same}
use Rattle.rules.specs.Fold.{Term}
use Rattle.rules.specs.Budget.{Budget}
use Rattle.rules.specs.Walk.{Step, free, Node, node}
use Rattle.rules.specs.Left.{weight, left, Stairs}
use Rattle.rules.specs.Order.{Stacked, none, more}
use Rattle.rules.proofs.Depth.{stairs-first}
use Rattle.rules.proofs.Visiting.{left-none, weight-stacked, left-stacked}
use Rattle.parity.specs.declared.Parity.{Parity}
use Rattle.parity.specs.View.{val}
use Rattle.emit.specs.Emitted.{Ready}
use Rattle.walk.specs.declared.Slot.{Slot}
use Rattle.walk.specs.Stack.{no_slot, stack_of, Laid, first}
use Rattle.walk.specs.Place.{Wires, Place, stack, Standing, Stepped, Synthesized}
use Rattle.walk.proofs.Stacks.{stack_at, sound-at}
use Rattle.walk.proofs.Making.{Partly, partly-first, partly-next, partly-end}
use Rattle.walk.proofs.Steps.{place}

-- ---- stacks whose sets are in another order

stacked-length : {st su : List Node} → Stacked st su → length st ≡ length su
stacked-length none = refl
stacked-length (more h k) = ap suc (stacked-length k)

pub stairs-stacked : (n : ℕ) {st su : List Node} → Stacked st su → Stairs n su → Stairs n st
unfolding Stairs
stairs-stacked n none s = tt
stairs-stacked n (more h k) s = ((s.0.0, omega (arith, s.0.1, stacked-length k)), stairs-stacked n k s.1)

-- ---- the loop

-- of the whole walk, all but what the stack has left is made; the walk goes on unless the budget is spent
pub record Walked (names : List ℕ) (whole : List Step) (p₀ p : Place) (within : Bool) : Type 0 where
  pub part : Partly names whole (left (length names) (stack p)) p₀.out p₀.budget p₀.rows p.out p.budget p.rows within
  pub standing : within ≡ true → Standing names p

pub walk_first : (names : List ℕ) (p : Place) → Standing names p → Walked names (left (length names) (stack p)) p p true
walk_first names p h = record { part = partly-first names _ p.out p.budget p.rows h.ready; standing = λ _. h }

-- a turn from the same place
pub stepped-from : (names : List ℕ) (p p' q : Place) (v : Bool) → p' ≡ p → Stepped names p' q v → Stepped names p q v
stepped-from names p p' q v e s = subst (λ (r : Place). Stepped names r q v) e s

module _ (names : List ℕ) (whole : List Step) (p₀ p : Place) (w : Bool) (h : Walked names whole p₀ p w) (t : w ≡ true) where
  pub walk-standing : Standing names p
  walk-standing = h.standing t

  module _ (q : Place) (v : Bool) (s : Stepped names p q v) where
    pub walk-lighter : weight (length names) (stack q) < weight (length names) (stack p)
    walk-lighter = omega (arith, weight-stacked (length names) s.stack, s.leads.lighter)

    pub walk-next : length names + 1 ≤ length q.slots → length q.rows ≡ length names → Walked names whole p₀ q v
    walk-next wide many =
        record {
          part = partly-next names whole p₀.out p₀.budget p₀.rows _ p.out p.budget p.rows w h.part t s.steps (left (length names) (stack q))
              (s.leads.whole ∙ ap (λ (x : List Step). s.steps ++ x) (sym (left-stacked (length names) s.stack))) q.out q.budget q.rows v s.made;
          standing = λ e. record {
            wires = (h.standing t).wires;
            sound = s.sound;
            stairs = stairs-stacked (length names) s.stack s.leads.stairs;
            fits = s.fits;
            wide = wide;
            many = many;
            ready = s.made.emits.ready e;
          };
        }

-- ---- the loop's end: no node waits, or the budget is spent

no-nodes : (p : Place) → p.depth ≡ 0 → stack p ≡ []
unfolding stack_of
no-nodes p e = rw e

pub walk_end : (names : List ℕ) (whole : List Step) (p₀ p : Place) (w : Bool) → Walked names whole p₀ p w → (w ≡ true → p.depth ≡ 0)
    → Synthesized names whole p₀.out p₀.budget p₀.rows p.out p.budget p.rows w
walk_end names whole p₀ p w h e =
    partly-end names whole p₀.out p₀.budget p₀.rows _ p.out p.budget p.rows w h.part
    (λ f. ap (left (length names)) (no-nodes p (e f)) ∙ left-none (length names))

-- ---- its beginning: one node, which has all columns and all terms

module _ (names : List ℕ) (n : ℕ) (k : length names ≡ n) (ss old : List Slot) (c : Parity) (e : ss ≡ set old 0 (first c)) (wide : length names + 1 ≤ length old) (v : val c ≡ 2 ^ n - 1)
    (ts : List Term) (end : ℕ) (f : end ≡ length ts) where
  pub first_slot : first c ≡ get_or ss 0 no_slot
  first_slot = sym (ap (λ (l : List Slot). get_or l 0 no_slot) e ∙ get_or-set_same old 0 (first c) no_slot (omega arith))

  pub first-stack : stack_of ss 1 ts end ≡ node (2 ^ n - 1) free ts ∷ []
  unfolding stack_of
  first-stack =
      stack_at ss 1 ts end 0 refl (first c) first_slot
      ∙ ap₂ (λ (x : ℕ) (us : List Term). node x free us ∷ []) v (ap (λ (j : ℕ). take j ts) f ∙ take-length ts)

  pub first-left : left (length names) (stack_of ss 1 ts end) ≡ left n (node (2 ^ n - 1) free ts ∷ [])
  first-left = ap₂ left k first-stack

  pub first-standing : (m : List ℕ) (out : List ℤ) (b : Budget) → Wires names → length m ≡ n → Ready out b → Standing names (place ss ts m out 1 end b)
  unfolding Laid
  first-standing m out b w many r =
      record {
        wires = w;
        sound = sound-at (length names) ss 1 end 0 refl (first c) first_slot (omega arith) (record { target = λ t q. cc; owed = λ p t q. cc; apart = λ t q. cc; differ = λ p t q. cc }) tt;
        stairs = subst (Stairs (length names)) (sym first-stack) (subst (λ (j : ℕ). Stairs j (node (2 ^ n - 1) free ts ∷ [])) (sym k) (stairs-first n ts));
        fits = omega arith;
        wide = rw e (simp length-set wide);
        many = many ∙ sym k;
        ready = r;
      }

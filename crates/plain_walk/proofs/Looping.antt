-- The walk as a loop: what was made so far, and what the stack has left, are the whole walk.
use mathlib.Core.Path.{◌≡◌, refl, sym, ap, ◌∙◌, subst}
use mathlib.Core.List.{List, [], ◌∷◌, ◌++◌, append_assoc, append-nil}
use Prim.Native.Nat.{ℕ, ◌+◌, ◌-◌, ◌^◌, ◌≤◌, ◌<◌}
use native.Mathlib.Omega.{arith}
use lib.IntN.{ℤ}
use lib.ListN.{length, set, length-set}
use Rattle.rules.specs.Fold.{Term}
use Rattle.rules.specs.Gate.{Gate}
use Rattle.rules.specs.Walk.{Step, free, Node, held, node}
use Rattle.rules.specs.Synth.{emit}
use Rattle.rules.specs.Left.{weight, left, Stairs}
use Rattle.rules.proofs.Steps.{emit-append}
use Rattle.rules.proofs.Depth.{stairs-first}
use Rattle.rules.proofs.Visiting.{left-none, weight-stacked, left-stacked}
use Rattle.parity.specs.declared.Parity.{Parity}
use Rattle.parity.specs.View.{val}
use Rattle.writing.specs.Written.{Wrote, Fits}
use Rattle.writing.proofs.Following.{wrote_none, wrote_then, fits-rest}
use Rattle.walk.specs.declared.Slot.{Slot}
use Rattle.walk.specs.Stack.{stack_of, Laid, first}
use Rattle.walk.specs.Place.{Wires}
use Rattle.walk.proofs.Making.{held-append}
use Rattle.walk.proofs.Stacks.{sound-at}
use Rattle.walk.proofs.Looping.{stairs-stacked, first_slot, first-stack}
use Rattle.plain_walk.specs.Place.{Place, stack, Roomy, Standing, Walks, Stepped}
use Rattle.plain_walk.proofs.Visits.{place}

-- of the whole walk, all but what the stack has left is made
pub record Walked (names : List ℕ) (all : List Step) (p₀ p : Place) : Type 0 where
  pub done : List Step
  pub steps : all ≡ done ++ left (length names) (stack p)
  pub walks : Walks names done p₀.whole p₀.made p₀.rows p.whole p.made p.rows
  pub standing : Standing names p

pub walk_first : (names : List ℕ) (p : Place) → Standing names p → Walked names (left (length names) (stack p)) p p
unfolding emit held
walk_first names p h = record { done = []; steps = refl; walks = record { wrote = wrote_none p.whole p.made; rows = refl }; standing = h }

module _ (names : List ℕ) (all : List Step) (p₀ p : Place) (h : Walked names all p₀ p) (q : Place) (s : Stepped names p q) where
  -- what was left is the visit's steps, and what then is left
  rest-is : left (length names) (stack p) ≡ s.steps ++ left (length names) (stack q)
  rest-is = s.leads.whole ∙ ap (λ (x : List Step). s.steps ++ x) (sym (left-stacked (length names) s.stack))

  pub walk-lighter : weight (length names) (stack q) < weight (length names) (stack p)
  walk-lighter = omega (arith, weight-stacked (length names) s.stack, s.leads.lighter)

  pub walk-next : length names + 1 ≤ length q.slots → length q.rows ≡ length names → Walked names all p₀ q
  walk-next wide many =
      let more : List Step = left (length names) (stack q) in
      record {
        done = h.done ++ s.steps;
        steps = h.steps ∙ ap (λ (x : List Step). h.done ++ x) rest-is ∙ sym (append_assoc h.done s.steps more);
        walks = record {
          wrote = subst (λ (gs : List Gate). Wrote gs p₀.whole p₀.made q.whole q.made) (sym (emit-append names h.done s.steps))
              (wrote_then h.walks.wrote s.walks.wrote);
          rows = s.walks.rows ∙ ap (held s.steps) h.walks.rows ∙ sym (held-append h.done s.steps p₀.rows);
        };
        standing = record {
          wires = h.standing.wires;
          sound = s.sound;
          stairs = stairs-stacked (length names) s.stack s.leads.stairs;
          fits = s.fits;
          wide = wide;
          many = many;
          room = fits-rest (emit names s.steps) (emit names more) p.whole q.whole p.made q.made s.walks.wrote
              (subst (λ (gs : List Gate). Fits p.whole p.made (length gs)) (ap (emit names) rest-is ∙ emit-append names s.steps more) h.standing.room);
        };
      }

-- the end: no node waits
pub walk_end : (names : List ℕ) (all : List Step) (p₀ p : Place) → Walked names all p₀ p → p.depth ≡ 0
    → Walks names all p₀.whole p₀.made p₀.rows p.whole p.made p.rows
unfolding stack_of
walk_end names all p₀ p h e =
    let empty : stack p ≡ [] = rw e in
    let done : all ≡ h.done =
    h.steps ∙ ap (λ (st : List Node). h.done ++ left (length names) st) empty ∙ ap (λ (ss : List Step). h.done ++ ss) (left-none (length names)) ∙ append-nil h.done in
    subst (λ (ss : List Step). Walks names ss p₀.whole p₀.made p₀.rows p.whole p.made p.rows) (sym done) h.walks

-- the beginning: one node, which has all columns and all terms
module _ (names : List ℕ) (n : ℕ) (k : length names ≡ n) (ss old : List Slot) (c : Parity) (e : ss ≡ set old 0 (first c)) (wide : length names + 1 ≤ length old) (v : val c ≡ 2 ^ n - 1)
    (ts : List Term) (end : ℕ) (f : end ≡ length ts) where
  pub first-standing : (m : List ℕ) (whole : List ℤ) (made : ℕ) → Wires names → length m ≡ n → Roomy names (left n (node (2 ^ n - 1) free ts ∷ [])) whole made
      → Standing names (place ss ts m whole 1 end made)
  unfolding Laid
  first-standing m whole made w many r =
      let is : stack_of ss 1 ts end ≡ node (2 ^ n - 1) free ts ∷ [] = first-stack names n k ss old c e wide v ts end f in
      record {
        wires = w;
        sound = sound-at (length names) ss 1 end 0 refl (first c) (first_slot names n k ss old c e wide v ts end f) (omega arith)
            (record { target = λ t q. cc; owed = λ p t q. cc; apart = λ t q. cc; differ = λ p t q. cc }) tt;
        stairs = subst (Stairs (length names)) (sym is) (subst (λ (j : ℕ). Stairs j (node (2 ^ n - 1) free ts ∷ [])) (sym k) (stairs-first n ts));
        fits = omega arith;
        wide = rw e (simp length-set wide);
        many = many ∙ sym k;
        room = subst (λ (st : List Node). Roomy names (left (length names) st) whole made) (sym is)
            (subst (λ (j : ℕ). Roomy names (left j (node (2 ^ n - 1) free ts ∷ [])) whole made) (sym k) r);
      }

-- The terms after a fold, from what the functions on local indices leave.
--     folds-one     after one
--     turn-turns    after that of a rotation, by what was read of its wire
--     cz-turns      after the three of cz
use mathlib.Core.Path.{◌≡◌, refl, ap, ap₂, sym, ◌∙◌}
use mathlib.Core.Bool.{Bool, true, false, not, beq}
use mathlib.Core.List.{List, [], ◌∷◌}
use Prim.Native.Nat.{ℕ, ◌*◌, ◌≤◌}
use native.Mathlib.Omega.{arith}
use lib.ListN.{length, take, length-take}
use lib.Seq.{length-take-le}
use lib.Dec.{eqb}
use Rattle.rules.specs.Limits.{term_width}
use Rattle.rules.specs.Bit.{◌⊕◌, xor}
use Rattle.rules.specs.Fold.{Term, add_term, signed}
use Rattle.rules.proofs.Bits.{split}
use Rattle.rules.proofs.Bounds.{length-add_term}
use Rattle.terms.specs.Terms.{terms_of, Adds}
use Rattle.block.specs.View.{terms_at, Folded}
use Rattle.block.specs.Steps.{Turns, TurnsOne, cz_terms}
use Rattle.block.specs.declared.Block as State
use Rattle.block.proofs.Parts.{behind_more}

pub terms-length : {ts : List Term} {b : State.Block} {room : List ℕ} → Folded ts b room → length ts ≡ b.terms
unfolding terms_at
terms-length {ts} {b} {room} h = ap length (sym h.same) ∙ length-take-le b.terms (terms_of room) h.few

-- a fold never makes fewer
fold-grows : (p k : ℕ) (ts : List Term) → length ts ≤ length (add_term p k ts)
unfolding add_term
fold-grows p k [] = omega arith
fold-grows p k (t ∷ ts) = split (eqb t.parity p) (λ e. rw e (omega arith)) (λ e. rw e (omega (arith, fold-grows p k ts)))

module _ (p k : ℕ) (b r : State.Block) (room room' heads' : List ℕ) (few : b.terms ≤ length (terms_of room))
    (a : Adds (add_term p k (take b.terms (terms_of room))) r.terms room room' heads') where
  pub folds-one : r.wires ≡ b.wires → r.flips ≡ b.flips → r.names ≡ b.names → r.rows ≡ b.rows → TurnsOne (add_term p k (terms_at b room)) b r room room' heads'
  unfolding terms_at
  folds-one w f m q =
      let e = a.begins in
      let s = length-take r.terms (terms_of room') in
      let t = ap length e.front ∙ e.many in
      let n = length-take-le b.terms (terms_of room) few in
      let ts : List Term = take b.terms (terms_of room) in
      record {
        turns = record { wires = w; flips = f; names = m; rows = q; folded = record { few = omega (arith, s, t); same = e.front }; grows = omega (arith, e.many, fold-grows p k ts); rest = a.rest; indexed = a.indexed };
        more = omega (arith, e.many, length-add_term p k ts);
      }

-- the fold of a rotation, by what was read of its wire
pub turn-turns : (p v : ℕ) (s t : Bool) (k : ℕ) (ts : List Term) (b r : State.Block) (room room' heads' : List ℕ) → p ≡ v → s ≡ t
    → Turns (add_term p (signed s k) ts) b r room room' heads' → Turns (add_term v (signed t k) ts) b r room room' heads'
turn-turns p v s t k ts b r room room' heads' e f h = rw (e, f) at h

-- the constants differ, as the code tests it
pub differ-is : (s t : Bool) → not (beq s t) ≡ (s ⊕ t)
differ-is true true = refl
differ-is true false = refl
differ-is false true = refl
differ-is false false = refl

-- the three folds of cz
pub cz-turns : (x y z : ℕ) (s t u : Bool) (b one two r : State.Block) (room room1 room2 room3 heads1 heads2 heads3 : List ℕ)
    → TurnsOne (add_term x (signed s 2) (terms_at b room)) b one room room1 heads1 → TurnsOne (add_term y (signed t 2) (terms_at one room1)) one two room1 room2 heads2
    → TurnsOne (add_term z (signed u 6) (terms_at two room2)) two r room2 room3 heads3 → z ≡ xor x y → u ≡ (s ⊕ t) → Turns (cz_terms x s y t (terms_at b room)) b r room room3 heads3
cz-turns x y z s t u b one two r room room1 room2 room3 heads1 heads2 heads3 first second third v w =
    let e = first.turns in
    let f = second.turns in
    let g = third.turns in
    let m : add_term z (signed u 6) (terms_at two room2) ≡ cz_terms x s y t (terms_at b room) =
    ap₂ (λ (a : ℕ) (o : Bool). add_term a (signed o 6) (terms_at two room2)) v w
    ∙ ap (add_term (xor x y) (signed (s ⊕ t) 6)) (f.folded.same ∙ ap (add_term y (signed t 2)) e.folded.same) in
    let end : ℕ = term_width * r.terms in
    record {
      wires = g.wires ∙ f.wires ∙ e.wires;
      flips = g.flips ∙ f.flips ∙ e.flips;
      names = g.names ∙ f.names ∙ e.names;
      rows = g.rows ∙ f.rows ∙ e.rows;
      folded = record { few = g.folded.few; same = g.folded.same ∙ m };
      grows = omega (arith, e.grows, f.grows, g.grows);
      rest =
          g.rest ∙ behind_more (term_width * two.terms) end room2 room1 (omega (arith, g.grows)) f.rest
          ∙ behind_more (term_width * one.terms) end room1 room (omega (arith, f.grows, g.grows)) e.rest;
      indexed = g.indexed;
    }

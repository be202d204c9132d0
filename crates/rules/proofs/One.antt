-- A leaf's set holds one term: the turns of a leaf are that term's, and the original's rule, which emits only at a single term, makes the same steps.
use mathlib.Core.Path.{◌≡◌, refl, sym, ap, ap₂, ◌∙◌, subst}
use mathlib.Core.Logic.{◌≢◌, ◌⊎◌, inl, inr}
use mathlib.Core.Bool.{Bool, true, false, not, ◌&&◌, cond, false≢true, true≢false}
use mathlib.Core.List.{List, [], ◌∷◌, ◌++◌}
use Prim.Native.Nat.{ℕ, zero, suc, ◌+◌, ◌^◌, ◌≤◌, ◌<◌}
use native.Mathlib.Omega.{arith}
use lib.Dec.{eqb}
use lib.Pow.{pow-lt}
use borrow.Author.Tests.{ne_eqb}
use Rattle.rules.specs.Bit.{◌⊕◌, bit, xor}
use Rattle.rules.specs.Fold.{Term}
use Rattle.rules.specs.Walk.{Step, cn, rot, Aim, free, on, owes, side, best, crossed, cross_terms, turns, leaf, aim_with, is_none, Settled}
use Rattle.rules.specs.Left.{pay, tally}
use Rattle.rules.proofs.Bits.{xor_lt, split, same, none-set, bit-zero, ⊕-false}
use Rattle.rules.proofs.Masks.{mask, bit-rest, bit-crossed}
use Rattle.rules.proofs.Walking.{cross_all, paid, if_any, tree, tally-none, tally-rest, best-ok, Within, All, all_cross, settled-paid, ctl, Fit, fit-paid, fit-without, fit-with, all-side, rest-other, tree-ok}

-- the rule of the original
abbrev pub leaf_one : Aim → List Term → List Step
leaf_one free ts = []
leaf_one (on t) [] = []
leaf_one (on t) (e ∷ []) = rot t e.turn ∷ []
leaf_one (on t) (e ∷ f ∷ es) = []
leaf_one (owes p t) ts = []

unfoldable pub tree_one : ℕ → ℕ → ℕ → Aim → List Term → List Step
unfolding best side cross_all
tree_one n zero cs a ts = if_any ts (pay a ++ leaf_one (paid a) ts)
tree_one n (suc k) cs a ts =
    let c = (best n cs ts).0 in
    let rest = xor cs (2 ^ c) in
    let z = tree_one n k rest (paid a) (side false c ts) in
    let o = tree_one n k rest (aim_with (paid a) c) (cross_all z (side true c ts)) in
    if_any ts (pay a ++ cond (is_none cs) (leaf_one (paid a) ts) (z ++ o))

-- two parities differ in a candidate
pub record Differ (cs v u : ℕ) : Type 0 where
  pub col : ℕ
  pub cand : bit cs col ≡ true
  pub apart : bit v col ≡ not (bit u col)

unfoldable pub DifferAll : ℕ → ℕ → List Term → Type 0
DifferAll cs v [] = Unit {0}
DifferAll cs v (e ∷ es) = Differ cs v e.parity × DifferAll cs v es

unfoldable pub Distinct : ℕ → List Term → Type 0
unfolding DifferAll
Distinct cs [] = Unit {0}
Distinct cs (e ∷ es) = DifferAll cs e.parity es × Distinct cs es

not-self : (b : Bool) → b ≡ not b → ⊥
not-self true e = true≢false e
not-self false e = false≢true e

differ-rest : (cs c v u : ℕ) (b : Bool) → bit v c ≡ b → bit u c ≡ b → Differ cs v u → Differ (xor cs (2 ^ c)) v u
differ-rest cs c v u b ev eu d =
    record {
      col = d.col;
      cand = bit-rest cs c d.col ∙ ap₂ ◌⊕◌ d.cand (ne_eqb d.col c (λ q. not-self b (sym ev ∙ ap (bit v) (sym q) ∙ d.apart ∙ ap (λ (z : ℕ). not (bit u z)) q ∙ ap not eu)));
      apart = d.apart;
    }

⊕-same : (a b : Bool) → (a ⊕ b) ≡ false → b ≡ a
⊕-same true true h = refl
⊕-same true false h = sym h
⊕-same false b h = h

differ-side : (cs c v : ℕ) (b : Bool) (ts : List Term) → bit v c ≡ b → DifferAll cs v ts → DifferAll (xor cs (2 ^ c)) v (side b c ts)
unfolding DifferAll side
differ-side cs c v b [] e h = tt
differ-side cs c v b (t ∷ ts) e h =
    split (b ⊕ bit t.parity c)
    (λ f. rw f (differ-side cs c v b ts e h.1))
    (λ f. rw f (differ-rest cs c v t.parity b e (⊕-same b (bit t.parity c) f) h.0, differ-side cs c v b ts e h.1))

distinct-side : (cs c : ℕ) (b : Bool) (ts : List Term) → Distinct cs ts → Distinct (xor cs (2 ^ c)) (side b c ts)
unfolding Distinct side
distinct-side cs c b [] h = tt
distinct-side cs c b (t ∷ ts) h =
    split (b ⊕ bit t.parity c)
    (λ f. rw f (distinct-side cs c b ts h.1))
    (λ f. rw f (differ-side cs c t.parity b ts (⊕-same b (bit t.parity c) f) h.0, distinct-side cs c b ts h.1))

-- a CNOT keeps two parities apart, if its target is a candidate or a bit that both have
not-⊕ : (a b : Bool) → (not a ⊕ b) ≡ not (a ⊕ b)
not-⊕ true true = refl
not-⊕ true false = refl
not-⊕ false true = refl
not-⊕ false false = refl

neither : (a b : Bool) → ((a ⊕ b) ≡ false → ⊥) → a ≡ not b
neither true true h = absurd (h refl)
neither true false h = refl
neither false true h = refl
neither false false h = absurd (h refl)

differ-cross : (cs p t v u : ℕ) → p ≢ t → (bit cs t ≡ true) ⊎ (bit v t ≡ bit u t) → Differ cs v u → Differ cs (crossed p t v) (crossed p t u)
differ-cross cs p t v u ne w d =
    split (bit v t ⊕ bit u t) (λ e. differs e w) (λ e. equal (sym (⊕-same (bit v t) (bit u t) e)))
  where
    equal : bit v t ≡ bit u t → Differ cs (crossed p t v) (crossed p t u)
    equal e = record {
      col = d.col;
      cand = d.cand;
      apart = bit-crossed p t v d.col ∙ ap₂ (λ (a b : Bool). a ⊕ (eqb d.col p && b)) d.apart e
          ∙ not-⊕ (bit u d.col) (eqb d.col p && bit u t) ∙ ap not (sym (bit-crossed p t u d.col));
    }

    still : (z : ℕ) → bit (crossed p t z) t ≡ bit z t
    still z = bit-crossed p t z t ∙ ap (λ (b : Bool). bit z t ⊕ (b && bit z t)) (ne_eqb t p (λ q. ne (sym q))) ∙ ⊕-false (bit z t)

    differs : (bit v t ⊕ bit u t) ≡ true → (bit cs t ≡ true) ⊎ (bit v t ≡ bit u t) → Differ cs (crossed p t v) (crossed p t u)
    differs e (inl c) = record {
      col = t;
      cand = c;
      apart = still v ∙ neither (bit v t) (bit u t) (λ f. true≢false (sym e ∙ f)) ∙ ap not (sym (still u));
    }
    differs e (inr q) = equal q

-- what the target of a step may be: a candidate, or a bit that all have
abbrev Target : ℕ → ℕ → List Term → Type 0
Target cs t ts = (bit cs t ≡ true) ⊎ All true t ts

differ-cross_all : (cs p t v : ℕ) (ts : List Term) → p ≢ t → (bit cs t ≡ true) ⊎ ((bit v t ≡ true) × All true t ts) → DifferAll cs v ts → DifferAll cs (crossed p t v) (cross_terms p t ts)
unfolding DifferAll cross_terms All
differ-cross_all cs p t v [] ne w h = tt
differ-cross_all cs p t v (e ∷ es) ne (inl c) h = (differ-cross cs p t v e.parity ne (inl c) h.0, differ-cross_all cs p t v es ne (inl c) h.1)
differ-cross_all cs p t v (e ∷ es) ne (inr (b, k)) h =
    (differ-cross cs p t v e.parity ne (inr (b ∙ sym k.0)) h.0, differ-cross_all cs p t v es ne (inr (b, k.1)) h.1)

distinct-cross : (cs p t : ℕ) (ts : List Term) → p ≢ t → Target cs t ts → Distinct cs ts → Distinct cs (cross_terms p t ts)
unfolding Distinct cross_terms All
distinct-cross cs p t [] ne w h = tt
distinct-cross cs p t (e ∷ es) ne (inl c) h = (differ-cross_all cs p t e.parity es ne (inl c) h.0, distinct-cross cs p t es ne (inl c) h.1)
distinct-cross cs p t (e ∷ es) ne (inr k) h = (differ-cross_all cs p t e.parity es ne (inr k) h.0, distinct-cross cs p t es ne (inr k.1) h.1)

-- along the steps of a node that has the aim a, whose target all parities have
abbrev Aimed : Aim → List Term → Type 0
Aimed free ts = Unit {0}
Aimed (on t) ts = All true t ts
Aimed (owes p t) ts = ⊥

aimed-target : (n cs : ℕ) (a : Aim) (t : ℕ) (ts : List Term) → Aimed a ts → mask cs a t ≡ true → Target cs t ts
aimed-target n cs free t ts h m = inl m
aimed-target n cs (on s) t ts h m = same t s (λ e f. inr (subst (λ (z : ℕ). All true z ts) (sym e) h)) (λ e f. inl (rw f at m))
aimed-target n cs (owes p s) t ts h m = absurd h

-- the target is no candidate
abbrev Off : ℕ → Aim → Type 0
Off cs free = Unit {0}
Off cs (on t) = bit cs t ≡ false
Off cs (owes p t) = ⊥

aimed-cross : (cs : ℕ) (a : Aim) (p t : ℕ) (ts : List Term) → ctl cs a p ≡ true → Off cs a → Aimed a ts → Aimed a (cross_terms p t ts)
aimed-cross cs free p t ts c f h = tt
aimed-cross cs (on s) p t ts c f h = all_cross true s p t ts (λ q. true≢false (sym c ∙ ap (bit cs) q ∙ f)) h
aimed-cross cs (owes q s) p t ts c f h = absurd h

distinct-steps : (n cs : ℕ) (a : Aim) (ss : List Step) (ts : List Term) → Within n (ctl cs a) (mask cs a) ss → Off cs a → Aimed a ts → Distinct cs ts
    → Distinct cs (cross_all ss ts)
unfolding Within cross_all
distinct-steps n cs a [] ts w f h d = d
distinct-steps n cs a (cn p t ∷ ss) ts w f h d =
    distinct-steps n cs a ss (cross_terms p t ts) w.1 f (aimed-cross cs a p t ts w.0.3 f h) (distinct-cross cs p t ts w.0.2 (aimed-target n cs a t ts h w.0.4) d)
distinct-steps n cs a (rot q k ∷ ss) ts w f h d = distinct-steps n cs a ss ts w.1 f h d

-- ---- so a leaf has one term

leaf-one : (a : Aim) (e : Term) (es : List Term) → Distinct zero (e ∷ es) → leaf_one a (e ∷ es) ≡ leaf a (e ∷ es)
unfolding turns Distinct DifferAll
leaf-one free e es d = refl
leaf-one (on t) e [] d = ap (λ (z : ℕ). rot t z ∷ []) (plus e.turn)
  where
    plus : (z : ℕ) → z ≡ z + zero
    plus z = omega arith
leaf-one (on t) e (f ∷ es) d = absurd (true≢false (sym d.0.0.cand ∙ bit-zero d.0.0.col))
leaf-one (owes p t) e es d = refl

fit-off : (n cs c : ℕ) (a : Aim) (ts : List Term) → Settled a → bit cs c ≡ true → Fit n cs a ts → Off (xor cs (2 ^ c)) a × Aimed a (side true c ts)
fit-off n cs c free ts s e h = (tt, tt)
fit-off n cs c (on t) ts s e h = (rest-other cs c t e h.1, all-side true true t c ts h.2)
fit-off n cs c (owes p t) ts s e h = absurd s

is_zero : (m : ℕ) → is_none m ≡ true → m ≡ zero
is_zero zero e = refl
is_zero (suc m) e = absurd (false≢true e)

pub tree-one : (n k cs : ℕ) (a : Aim) (ts : List Term) → cs < 2 ^ n → tally n (bit cs) ≤ k → Fit n cs a ts → Distinct cs ts → tree_one n k cs a ts ≡ tree n k cs a ts
unfolding tree_one tree
tree-one n zero cs a [] l t h d = refl
tree-one n zero cs a (e ∷ es) l t h d =
    let none : cs ≡ zero = none-set n cs l (tally-none n (bit cs) t) in
    ap (λ (s : List Step). pay a ++ s) (leaf-one (paid a) e es (subst (λ (z : ℕ). Distinct z (e ∷ es)) none d))
tree-one n (suc k) cs a [] l t h d = refl
tree-one n (suc k) cs a (e ∷ es) l t h d =
    let ts : List Term = e ∷ es in
    let c : ℕ = (best n cs ts).0 in
    let rest : ℕ = xor cs (2 ^ c) in
    let z : List Step = tree n k rest (paid a) (side false c ts) in
    let z₁ : List Step = tree_one n k rest (paid a) (side false c ts) in
    let o₁ : List Step → List Step = λ s. tree_one n k rest (aim_with (paid a) c) (cross_all s (side true c ts)) in
    ap (λ (s : List Step). pay a ++ s)
    (split (is_none cs)
    (λ q. rw q (leaf-one (paid a) e es (subst (λ (m : ℕ). Distinct m ts) (is_zero cs q) d)))
    (λ q. let b = best-ok n cs ts l q in
    let l' : rest < 2 ^ n = xor_lt n cs (2 ^ c) l (pow-lt b.0) in
    let t' : tally n (bit rest) ≤ k = omega (arith, tally-rest n cs c b.0 b.1) in
    let f = fit-paid n cs a ts h in
    let fz = fit-without n cs c (paid a) ts (settled-paid a) b.1 f in
    let wz = (tree-ok n k rest (paid a) (side false c ts) l' t' fz).within in
    let off = fit-off n cs c (paid a) ts (settled-paid a) b.1 f in
    let hz : z₁ ≡ z = tree-one n k rest (paid a) (side false c ts) l' t' fz (distinct-side cs c false ts d) in
    let ho = tree-one n k rest (aim_with (paid a) c) (cross_all z (side true c ts)) l' t'
    (fit-with n cs c (paid a) ts z (settled-paid a) b.0 b.1 f wz)
    (distinct-steps n rest (paid a) z (side true c ts) wz off.0 off.1 (distinct-side cs c true ts d)) in
    rw q (ap (λ (s : List Step). s ++ o₁ s) hz ∙ ap (λ (s : List Step). z ++ s) ho)))

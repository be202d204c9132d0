-- The order of a node's set never shows in the walk, nor that of a block's terms in what is emitted.
use mathlib.Core.Path.{◌≡◌, refl, sym, ap, ap₂, ◌∙◌, subst}
use mathlib.Core.Bool.{Bool, true, false, ◌&&◌, cond}
use mathlib.Core.List.{List, [], ◌∷◌, ◌++◌}
use Prim.Native.Nat.{ℕ, zero, suc, ◌+◌, ◌-◌, ◌%◌, ◌^◌, max}
use native.Mathlib.Omega.{arith}
use lib.ListN.{length}
use lib.Dec.{leb}
use Rattle.rules.specs.Bit.{◌⊕◌, bit, xor}
use Rattle.rules.specs.Fold.{Row, Term}
use Rattle.rules.specs.Walk.{Step, cn, rot, Aim, free, on, owes, side, score, best, cross_terms, turns, leaf, aim_with, is_none, nonzero, phase_walk, Node, Visit, cross_nodes, open_node, visit, walk, node}
use Rattle.rules.specs.Order.{Shuffled, same, keep, swap, next, Stacked, none, more}
use Rattle.rules.specs.Left.{pay}
use Rattle.rules.specs.Synth.{synth}
use Rattle.rules.proofs.Bits.{split}
use Rattle.rules.proofs.Walking.{cross_all, paid, if_any, tree}
use Rattle.rules.proofs.Machine.{phase-walk}

pub shuffled-length : {l m : List Term} → Shuffled l m → length l ≡ length m
shuffled-length same = refl
shuffled-length (keep h) = ap suc (shuffled-length h)
shuffled-length swap = refl
shuffled-length (next h k) = shuffled-length h ∙ shuffled-length k

shuffled-turns : {l m : List Term} → Shuffled l m → turns l ≡ turns m
unfolding turns
shuffled-turns same = refl
shuffled-turns (keep {t = t} h) = ap (λ (z : ℕ). t.turn + z) (shuffled-turns h)
shuffled-turns (swap {t = t} {u = u} {l = l}) = go t.turn u.turn (turns l)
  where
    go : (a b c : ℕ) → a + (b + c) ≡ b + (a + c)
    go a b c = omega arith
shuffled-turns (next h k) = shuffled-turns h ∙ shuffled-turns k

pub shuffled-side : (b : Bool) (c : ℕ) {l m : List Term} → Shuffled l m → Shuffled (side b c l) (side b c m)
unfolding side
shuffled-side b c same = same
shuffled-side b c (keep {t = t} h) =
    split (b ⊕ bit t.parity c) (λ e. rw e (shuffled-side b c h)) (λ e. rw e (keep (shuffled-side b c h)))
shuffled-side b c (swap {t = t} {u = u}) =
    split (b ⊕ bit t.parity c)
    (λ e. split (b ⊕ bit u.parity c) (λ f. rw (e, f) same) (λ f. rw (e, f) same))
    (λ e. split (b ⊕ bit u.parity c) (λ f. rw (e, f) same) (λ f. rw (e, f) swap))
shuffled-side b c (next h k) = next (shuffled-side b c h) (shuffled-side b c k)

shuffled-cross : (p t : ℕ) {l m : List Term} → Shuffled l m → Shuffled (cross_terms p t l) (cross_terms p t m)
unfolding cross_terms
shuffled-cross p t same = same
shuffled-cross p t (keep h) = keep (shuffled-cross p t h)
shuffled-cross p t swap = swap
shuffled-cross p t (next h k) = next (shuffled-cross p t h) (shuffled-cross p t k)

pub shuffled-cross_all : (ss : List Step) {l m : List Term} → Shuffled l m → Shuffled (cross_all ss l) (cross_all ss m)
unfolding cross_all
shuffled-cross_all [] h = h
shuffled-cross_all (cn p t ∷ ss) h = shuffled-cross_all ss (shuffled-cross p t h)
shuffled-cross_all (rot q k ∷ ss) h = shuffled-cross_all ss h

shuffled-score : (c : ℕ) {l m : List Term} → Shuffled l m → score c l ≡ score c m
unfolding score
shuffled-score c h = ap₂ max (shuffled-length (shuffled-side true c h)) (shuffled-length (shuffled-side false c h))

pub shuffled-best : (n cs : ℕ) {l m : List Term} → Shuffled l m → best n cs l ≡ best n cs m
unfolding best
shuffled-best zero cs h = refl
shuffled-best (suc c) cs h =
    ap₂ (λ (b : ℕ × ℕ) (s : ℕ). cond (bit cs c && leb b.1 s) (c, s) b) (shuffled-best c cs h) (shuffled-score c h)

-- two sets of one size are both empty, or both not
shuffled-any : (l m : List Term) (s : List Step) → length l ≡ length m → if_any l s ≡ if_any m s
shuffled-any [] [] s e = refl
shuffled-any [] (u ∷ m) s e = absurd (none e)
  where
    none : 0 ≡ suc (length m) → ⊥
    none q = omega arith
shuffled-any (t ∷ l) [] s e = absurd (none e)
  where
    none : suc (length l) ≡ 0 → ⊥
    none q = omega arith
shuffled-any (t ∷ l) (u ∷ m) s e = refl

shuffled-leaf : (a : Aim) {l m : List Term} → Shuffled l m → leaf a l ≡ leaf a m
shuffled-leaf free h = refl
shuffled-leaf (on t) h = ap (λ (z : ℕ). rot t z ∷ []) (shuffled-turns h)
shuffled-leaf (owes p t) h = refl

pub shuffled-tree : (n k cs : ℕ) (a : Aim) {l m : List Term} → Shuffled l m → tree n k cs a l ≡ tree n k cs a m
unfolding tree
shuffled-tree n zero cs a {l} {m} h =
    shuffled-any l m (pay a ++ leaf (paid a) l) (shuffled-length h) ∙ ap (λ (s : List Step). if_any m (pay a ++ s)) (shuffled-leaf (paid a) h)
shuffled-tree n (suc k) cs a {l} {m} h =
    let c : ℕ = (best n cs l).0 in
    let c' : ℕ = (best n cs m).0 in
    let same-c : c ≡ c' = ap (λ (b : ℕ × ℕ). b.0) (shuffled-best n cs h) in
    let zs : ℕ → List Term → List Step = λ d ts. tree n k (xor cs (2 ^ d)) (paid a) (side false d ts) in
    let os : ℕ → List Step → List Term → List Step = λ d z ts. tree n k (xor cs (2 ^ d)) (aim_with (paid a) d) (cross_all z (side true d ts)) in
    let z-eq : zs c l ≡ zs c m = shuffled-tree n k (xor cs (2 ^ c)) (paid a) (shuffled-side false c h) in
    let o-eq : os c (zs c l) l ≡ os c (zs c l) m = shuffled-tree n k (xor cs (2 ^ c)) (aim_with (paid a) c) (shuffled-cross_all (zs c l) (shuffled-side true c h)) in
    shuffled-any l m (pay a ++ cond (is_none cs) (leaf (paid a) l) (zs c l ++ os c (zs c l) l)) (shuffled-length h)
    ∙ ap₂ (λ (s r : List Step). if_any m (pay a ++ cond (is_none cs) s (zs c l ++ r))) (shuffled-leaf (paid a) h) o-eq
    ∙ ap (λ (z : List Step). if_any m (pay a ++ cond (is_none cs) (leaf (paid a) m) (z ++ os c z m))) z-eq
    ∙ ap (λ (d : ℕ). if_any m (pay a ++ cond (is_none cs) (leaf (paid a) m) (zs d m ++ os d (zs d m) m))) same-c

shuffled-nonzero : {l m : List Term} → Shuffled l m → Shuffled (nonzero l) (nonzero m)
unfolding nonzero
shuffled-nonzero same = same
shuffled-nonzero (keep {t = t} h) = split (is_none (t.turn % 8)) (λ e. rw e (shuffled-nonzero h)) (λ e. rw e (keep (shuffled-nonzero h)))
shuffled-nonzero (swap {t = t} {u = u}) =
    split (is_none (t.turn % 8))
    (λ e. split (is_none (u.turn % 8)) (λ f. rw (e, f) same) (λ f. rw (e, f) same))
    (λ e. split (is_none (u.turn % 8)) (λ f. rw (e, f) same) (λ f. rw (e, f) swap))
shuffled-nonzero (next h k) = next (shuffled-nonzero h) (shuffled-nonzero k)

-- nor does the order of the table
pub shuffled-walk : (n : ℕ) {l m : List Term} → Shuffled l m → phase_walk n l ≡ phase_walk n m
shuffled-walk n {l} {m} h = phase-walk n l ∙ shuffled-tree n n (2 ^ n - 1) free (shuffled-nonzero h) ∙ sym (phase-walk n m)

-- nor does it in what a block is written again to
pub shuffled-synth : (rs : List Row) {l m : List Term} → Shuffled l m → synth (record { rows = rs; terms = l }) ≡ synth (record { rows = rs; terms = m })
unfolding synth
shuffled-synth rs h = rw (shuffled-walk (length rs) h)

-- ---- at any visit of the machine: what code that partitions in place has to show of its stack

stacked-cross : (p t : ℕ) {st su : List Node} → Stacked st su → Stacked (cross_nodes p t st) (cross_nodes p t su)
unfolding cross_nodes
stacked-cross p t none = none
stacked-cross p t (more h k) = more (shuffled-cross p t h) (stacked-cross p t k)

pub record Visited (r q : Visit) : Type 0 where
  pub steps : r.steps ≡ q.steps
  pub stack : Stacked r.stack q.stack

module _ (n cs : ℕ) {ts us : List Term} {st su : List Node} (h : Shuffled ts us) (k : Stacked st su) where
  open-visited : (a : Aim) → Visited (open_node n cs a ts st) (open_node n cs a us su)
  unfolding open_node
  open-visited a =
      split (is_none cs)
      (λ e. rw e (record { steps = shuffled-leaf a h; stack = k }))
      (λ e. rw e (record {
        steps = refl;
        stack = subst
            (λ (d : ℕ). Stacked (node (xor cs (2 ^ (best n cs ts).0)) a (side false (best n cs ts).0 ts) ∷ node (xor cs (2 ^ (best n cs ts).0)) (aim_with a (best n cs ts).0) (side true (best n cs ts).0 ts) ∷ st)
            (node (xor cs (2 ^ d)) a (side false d us) ∷ node (xor cs (2 ^ d)) (aim_with a d) (side true d us) ∷ su))
            (ap (λ (b : ℕ × ℕ). b.0) (shuffled-best n cs h))
            (more (shuffled-side false (best n cs ts).0 h) (more (shuffled-side true (best n cs ts).0 h) k));
      }))

visit-visited : (n cs : ℕ) (a : Aim) (ts us : List Term) {st su : List Node} → Shuffled ts us → Stacked st su → Visited (visit n (node cs a ts) st) (visit n (node cs a us) su)
unfolding visit
visit-visited n cs a [] [] h k = record { steps = refl; stack = k }
visit-visited n cs a [] (u ∷ us) h k = absurd (no (shuffled-length h))
  where
    no : 0 ≡ suc (length us) → ⊥
    no q = omega arith
visit-visited n cs a (t ∷ ts) [] h k = absurd (no (shuffled-length h))
  where
    no : suc (length ts) ≡ 0 → ⊥
    no q = omega arith
visit-visited n cs free (t ∷ ts) (u ∷ us) h k = open-visited n cs h k free
visit-visited n cs (on q) (t ∷ ts) (u ∷ us) h k = open-visited n cs h k (on q)
visit-visited n cs (owes p q) (t ∷ ts) (u ∷ us) h k = record { steps = refl; stack = more h (stacked-cross p q k) }

pub stacked-walk : (n f : ℕ) {st su : List Node} → Stacked st su → walk n f st ≡ walk n f su
unfolding walk
stacked-walk n zero h = refl
stacked-walk n (suc f) none = refl
stacked-walk n (suc f) (more {cs = cs} {a = a} {ts = ts} {us = us} h k) =
    let t = visit-visited n cs a ts us h k in
    ap₂ ◌++◌ t.steps (stacked-walk n f t.stack)

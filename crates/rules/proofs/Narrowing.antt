-- The candidates of the newest node that no term of its set has can be dropped at once: the steps that are left to be made stay the same.
--     left-narrow      the steps left
--     stairs-narrow    the stack stays within its bound
--     weight-narrow    and gets no heavier
--     leads-narrow     so that what leads on from it leads on from the stack before
use mathlib.Core.Path.{◌≡◌, refl, sym, ap, ◌∙◌}
use mathlib.Core.Bool.{Bool, true, false, not, ◌&&◌, and-false, false≢true, cond}
use mathlib.Core.List.{List, [], ◌∷◌, ◌++◌, append-nil}
use Prim.Native.Nat.{ℕ, zero, suc, ◌+◌, ◌*◌, ◌^◌, ◌≤◌, ◌<◌}
use native.Mathlib.Nat.{le_refl, le_antisymm, lt_of_le_of_lt, not-suc-le-zero, pow-suc, mul-le-mul_right}
use native.Mathlib.Omega.{arith}
use lib.ListN.{length}
use lib.Dec.{eqb}
use lib.Pow.{pow-lt}
use borrow.Author.Tests.{eqb-true, eqb-false}
use Rattle.rules.specs.Bit.{◌⊕◌, bit, xor}
use Rattle.rules.specs.Fold.{Term}
use Rattle.rules.specs.Walk.{Step, cn, rot, Aim, free, on, owes, Node, side, score, best, cross_terms, cross_nodes, aim_with, is_none, node, leaf}
use Rattle.rules.specs.Left.{pay, tally, weight, left, Leads, Stairs}
use Rattle.rules.specs.Shortcuts.{any}
use Rattle.rules.proofs.Bits.{split, same, and_left, and_right, bit-zero, bits-le, xor_lt, ⊕-false}
use Rattle.rules.proofs.Masks.{bit-rest}
use Rattle.rules.proofs.Walking.{cross_all, paid, tree, tally-le, tally-rest}
use Rattle.rules.proofs.Machine.{cross_stack, cross-empty, ticks, Runs, tree-runs, length-sides}
use Rattle.rules.proofs.Depth.{stairs-cross}
use Rattle.rules.proofs.Choosing.{every, every-sides, any-sides, score-le, split-score, best-agreed}
use Rattle.rules.proofs.Visiting.{weight-cross, walk-idle, left-none}

-- live has the candidates that some term has
abbrev pub Seen : ℕ → ℕ → List Term → Type 0
Seen cs live ts = (i : ℕ) → bit live i ≡ (bit cs i && any i ts)

-- ---- fewer candidates

pub self-lt : (p : ℕ) → p < 2 ^ p
self-lt zero = le_refl 1
self-lt (suc p) = omega (arith, self-lt p, pow-suc 2 p)

seen-in : (cs live : ℕ) (ts : List Term) → Seen cs live ts → (i : ℕ) → bit live i ≡ true → bit cs i ≡ true
seen-in cs live ts s i e = and_left (bit cs i) (any i ts) (sym (s i) ∙ e)

pub seen-le : (cs live : ℕ) (ts : List Term) → Seen cs live ts → live ≤ cs
seen-le cs live ts s = bits-le live live cs (self-lt live) (λ i _. seen-in cs live ts s i)

pub seen-lt : (n cs live : ℕ) (ts : List Term) → Seen cs live ts → cs < 2 ^ n → live < 2 ^ n
seen-lt n cs live ts s l = lt_of_le_of_lt (seen-le cs live ts s) l

tally-fewer : (n : ℕ) (f g : ℕ → Bool) → ((i : ℕ) → f i ≡ true → g i ≡ true) → tally n f ≤ tally n g
unfolding tally
tally-fewer zero f g h = le_refl zero
tally-fewer (suc n) f g h =
    let r = tally-fewer n f g h in
    split (f n) (λ e. rw (e, h n e) (omega arith)) (λ e. rw e (omega arith))

seen-tally : (n cs live : ℕ) (ts : List Term) → Seen cs live ts → tally n (bit live) ≤ tally n (bit cs)
seen-tally n cs live ts s = tally-fewer n (bit live) (bit cs) (seen-in cs live ts s)

-- ---- a column on which all terms agree

side-none : (b : Bool) (c : ℕ) (ts : List Term) → length (side b c ts) ≡ 0 → (side b c ts ≡ []) × (side (not b) c ts ≡ ts)
unfolding side
side-none b c [] e = (refl, refl)
side-none true c (t ∷ ts) e =
    split (bit t.parity c)
    (λ f. absurd (more (rw f at e)))
    (λ f. let r = side-none true c ts (rw f at e) in rw f (r.0, ap (λ (us : List Term). t ∷ us) r.1))
  where
    more : {m : ℕ} → suc m ≡ 0 → ⊥
    more h = omega arith
side-none false c (t ∷ ts) e =
    split (bit t.parity c)
    (λ f. let r = side-none false c ts (rw f at e) in rw f (r.0, ap (λ (us : List Term). t ∷ us) r.1))
    (λ f. absurd (more (rw f at e)))
  where
    more : {m : ℕ} → suc m ≡ 0 → ⊥
    more h = omega arith

-- a column that is not agreed on is seen
split-seen : (c : ℕ) (ts : List Term) → score c ts < length ts → any c ts ≡ true
unfolding score
split-seen c ts h = split (any c ts) (λ e. e) (λ e. absurd (omega (arith, any-sides c ts e, length-sides c ts)))

-- a column that is agreed on and seen is in every term
whole-every : (c : ℕ) (ts : List Term) → score c ts ≡ length ts → any c ts ≡ true → every c ts ≡ true
whole-every c ts h e = split (every c ts) (λ f. f) (λ f. absurd (omega (arith, split-score c ts e f)))

-- the highest below n of which f holds, where there is one
pub highest {ℓ} : {P : Type ℓ} (n : ℕ) (f : ℕ → Bool) → (((i : ℕ) → i < n → f i ≡ false) → P)
    → ((c : ℕ) → c < n → f c ≡ true → ((j : ℕ) → c < j → j < n → f j ≡ false) → P) → P
highest zero f g h = g (λ i l. absurd (not-suc-le-zero l))
highest (suc n) f g h =
    split (f n)
    (λ e. h n (le_refl (suc n)) e (λ j a b. absurd (omega arith)))
    (λ e. highest n f
    (λ k. g (λ i l. same i n (λ q _. ap f q ∙ e) (λ q _. k i (omega arith))))
    (λ c l t k. h c (omega arith) t (λ j a b. same j n (λ q _. ap f q ∙ e) (λ q _. k j a (omega arith)))))

-- ---- the recursion, at a column on which all terms agree

tree-none : (n k cs : ℕ) (a : Aim) → tree n k cs a [] ≡ []
unfolding tree
tree-none n zero cs a = refl
tree-none n (suc k) cs a = refl

tree-leaf : (n cs ds : ℕ) (a : Aim) (ts : List Term) → tree n zero cs a ts ≡ tree n zero ds a ts
unfolding tree
tree-leaf n cs ds a ts = refl

cross_all-none : (ss : List Step) → cross_all ss [] ≡ []
unfolding cross_all cross_terms
cross_all-none [] = refl
cross_all-none (cn p t ∷ ss) = cross_all-none ss
cross_all-none (rot q k ∷ ss) = cross_all-none ss

pub tree-pay : (n k cs : ℕ) (a : Aim) (e : Term) (es : List Term) → pay a ++ tree n k cs (paid a) (e ∷ es) ≡ tree n k cs a (e ∷ es)
unfolding tree
tree-pay n zero cs free e es = refl
tree-pay n zero cs (on t) e es = refl
tree-pay n zero cs (owes p t) e es = refl
tree-pay n (suc k) cs free e es = refl
tree-pay n (suc k) cs (on t) e es = refl
tree-pay n (suc k) cs (owes p t) e es = refl

some-set : (cs c : ℕ) → bit cs c ≡ true → is_none cs ≡ false
some-set zero c e = absurd (false≢true (sym (bit-zero c) ∙ e))
some-set (suc cs) c e = refl

module _ (n k cs c : ℕ) (a : Aim) (e : Term) (es : List Term) (in-cs : bit cs c ≡ true) (is : best n cs (e ∷ es) ≡ (c, length (e ∷ es))) where
  abbrev ts : List Term
  ts = e ∷ es

  abbrev rest : ℕ
  rest = xor cs (2 ^ c)

  tree-open : (z o : List Term) → side false c ts ≡ z → side true c ts ≡ o
      → tree n (suc k) cs a ts ≡ pay a ++ (tree n k rest (paid a) z ++ tree n k rest (aim_with (paid a) c) (cross_all (tree n k rest (paid a) z) o))
  unfolding tree
  tree-open z o ez eo =
      let F : ℕ → Bool → List Term → List Term → List Step = λ d b u v.
      let r = xor cs (2 ^ d) in
      pay a ++ cond b (leaf (paid a) ts) (tree n k r (paid a) u ++ tree n k r (aim_with (paid a) d) (cross_all (tree n k r (paid a) u) v)) in
      ap (λ (p : ℕ × ℕ). F p.0 (is_none cs) (side false p.0 ts) (side true p.0 ts)) is
      ∙ ap (λ (b : Bool). F c b (side false c ts) (side true c ts)) (some-set cs c in-cs)
      ∙ ap (λ (u : List Term). F c false u (side true c ts)) ez
      ∙ ap (λ (v : List Term). F c false z v) eo

  -- no term has it: it is only taken out
  tree-unseen : any c ts ≡ false → tree n (suc k) cs a ts ≡ tree n k rest a ts
  tree-unseen h =
      let s = side-none true c ts (any-sides c ts h) in
      let z : List Step = tree n k rest (paid a) ts in
      tree-open ts [] s.1 s.0
      ∙ ap (λ (us : List Term). pay a ++ (z ++ tree n k rest (aim_with (paid a) c) us)) (cross_all-none z)
      ∙ ap (λ (l : List Step). pay a ++ (z ++ l)) (tree-none n k rest (aim_with (paid a) c))
      ∙ ap (λ (l : List Step). pay a ++ l) (append-nil z)
      ∙ tree-pay n k rest a e es

  -- every term has it: all owe it, or have it as target
  pub tree-every : every c ts ≡ true → tree n (suc k) cs a ts ≡ pay a ++ tree n k rest (aim_with (paid a) c) ts
  unfolding cross_all
  tree-every h =
      let s = side-none false c ts (every-sides c ts h) in
      tree-open [] ts s.0 s.1
      ∙ ap (λ (z : List Step). pay a ++ (z ++ tree n k rest (aim_with (paid a) c) (cross_all z ts))) (tree-none n k rest (paid a))

-- ---- from the recursion to the steps left

pub stairs-cross_stack : (n : ℕ) (ss : List Step) (st : List Node) → Stairs n st → Stairs n (cross_stack ss st)
unfolding cross_stack
stairs-cross_stack n [] st h = h
stairs-cross_stack n (cn p t ∷ ss) st h = stairs-cross_stack n ss (cross_nodes p t st) (stairs-cross n p t st h)
stairs-cross_stack n (rot q k ∷ ss) st h = stairs-cross_stack n ss st h

pub weight-cross_stack : (n : ℕ) (ss : List Step) (st : List Node) → weight n (cross_stack ss st) ≡ weight n st
unfolding cross_stack
weight-cross_stack n [] st = refl
weight-cross_stack n (cn p t ∷ ss) st = weight-cross_stack n ss (cross_nodes p t st) ∙ weight-cross n p t st
weight-cross_stack n (rot q k ∷ ss) st = weight-cross_stack n ss st

-- the newest node's steps, and then those of what waits
pub left-tree : (n k cs : ℕ) (a : Aim) (ts : List Term) (st : List Node) → Stairs n (node cs a ts ∷ st) → tally n (bit cs) ≤ k
    → left n (node cs a ts ∷ st) ≡ tree n k cs a ts ++ left n (cross_stack (tree n k cs a ts) st)
unfolding left Runs Stairs weight
left-tree n k cs a ts st s h =
    let w : ℕ = weight n (node cs a ts ∷ st) in
    let m : ℕ = ticks n k cs a ts in
    let ss : List Step = tree n k cs a ts in
    walk-idle n w (m + w) (node cs a ts ∷ st) s (le_refl w) (omega arith)
    ∙ tree-runs n k cs a ts s.0.0 h w st
    ∙ ap (λ (l : List Step). ss ++ l)
    (walk-idle n w (weight n (cross_stack ss st)) (cross_stack ss st) (stairs-cross_stack n ss st s.1) (omega (arith, weight-cross_stack n ss st)) (le_refl _))

-- any bound on the candidates gives the same recursion
tree-fuel : (n k j cs : ℕ) (a : Aim) (ts : List Term) → cs < 2 ^ n → tally n (bit cs) ≤ k → tally n (bit cs) ≤ j → tree n k cs a ts ≡ tree n j cs a ts
unfolding Stairs
tree-fuel n k j cs a ts l hk hj = sym (alone k hk) ∙ alone j hj
  where
    alone : (k : ℕ) → tally n (bit cs) ≤ k → left n (node cs a ts ∷ []) ≡ tree n k cs a ts
    alone k h =
        left-tree n k cs a ts [] ((l, omega (arith, tally-le n (bit cs))), tt) h
        ∙ ap (λ (st : List Node). tree n k cs a ts ++ left n st) (cross-empty (tree n k cs a ts))
        ∙ ap (λ (ss : List Step). tree n k cs a ts ++ ss) (left-none n)
        ∙ append-nil (tree n k cs a ts)

-- ---- the columns that are not seen are dropped

module _ (cs live c : ℕ) (ts : List Term) (s : Seen cs live ts) where
  -- after a column that some term has
  seen-rest : bit cs c ≡ true → any c ts ≡ true → Seen (xor cs (2 ^ c)) (xor live (2 ^ c)) ts
  seen-rest e h i =
      bit-rest live c i ∙ ap (λ (b : Bool). b ⊕ eqb i c) (s i)
      ∙ same i c
      (λ q f. rw (f, q, e, h))
      (λ q f. rw f (⊕-false (bit cs i && any i ts) ∙ ap (λ (b : Bool). b && any i ts) (sym (⊕-false (bit cs i)))))
      ∙ ap (λ (b : Bool). b && any i ts) (sym (bit-rest cs c i))

  -- after one that none has
  seen-past : any c ts ≡ false → Seen (xor cs (2 ^ c)) live ts
  seen-past h i =
      s i
      ∙ same i c
      (λ q f. rw (q, h) (and-false (bit cs c) ∙ sym (and-false (bit cs c ⊕ eqb c c))))
      (λ q f. rw f (ap (λ (b : Bool). b && any i ts) (sym (⊕-false (bit cs i)))))
      ∙ ap (λ (b : Bool). b && any i ts) (sym (bit-rest cs c i))

-- where all candidates are seen none is dropped
seen_all : (n cs live : ℕ) (ts : List Term) → cs < 2 ^ n → Seen cs live ts → ((i : ℕ) → i < n → bit cs i ≡ true → any i ts ≡ true) → cs ≡ live
seen_all n cs live ts l s h = le_antisymm (bits-le n cs live l (λ i k e. s i ∙ rw (e, h i k e))) (seen-le cs live ts s)

tree-narrow : (n k cs live : ℕ) (a : Aim) (ts : List Term) → cs < 2 ^ n → tally n (bit cs) ≤ k → Seen cs live ts → tree n k cs a ts ≡ tree n k live a ts
tree-narrow n zero cs live a ts l t s = tree-leaf n cs live a ts
tree-narrow n (suc k) cs live a [] l t s = tree-none n (suc k) cs a ∙ sym (tree-none n (suc k) live a)
tree-narrow n (suc k) cs live a (e ∷ es) l t s =
    highest n agreed
    (λ none. ap (λ (v : ℕ). tree n (suc k) v a ts) (seen_all n cs live ts l s (λ i h b. split-seen i ts (below i b (none i h)))))
    (λ c h f above.
    let b : bit cs c ≡ true = and_left (bit cs c) _ f in
    let whole : score c ts ≡ length ts = eqb-true (score c ts) (length ts) (and_right (bit cs c) _ f) in
    let is : best n cs ts ≡ (c, length ts) = best-agreed cs ts n c h b whole (λ j p q g. below j g (above j p q)) in
    let l' : xor cs (2 ^ c) < 2 ^ n = xor_lt n cs (2 ^ c) l (pow-lt h) in
    let t' : tally n (bit (xor cs (2 ^ c))) ≤ k = omega (arith, tally-rest n cs c h b) in
    split (any c ts)
    (λ g.
    let v : bit live c ≡ true = s c ∙ rw (b, g) in
    let same-best : best n live ts ≡ (c, length ts) = best-agreed live ts n c h v whole (λ j p q r. below j (seen-in cs live ts s j r) (above j p q)) in
    let all : every c ts ≡ true = whole-every c ts whole g in
    tree-every n k cs c a e es b is all
    ∙ ap (λ (ss : List Step). pay a ++ ss) (tree-narrow n k (xor cs (2 ^ c)) (xor live (2 ^ c)) (aim_with (paid a) c) ts l' t' (seen-rest cs live c ts s b g))
    ∙ sym (tree-every n k live c a e es v same-best all))
    (λ g.
    let past : Seen (xor cs (2 ^ c)) live ts = seen-past cs live c ts s g in
    let fewer = seen-tally n (xor cs (2 ^ c)) live ts past in
    tree-unseen n k cs c a e es b is g
    ∙ tree-narrow n k (xor cs (2 ^ c)) live a ts l' t' past
    ∙ tree-fuel n k (suc k) live a ts (seen-lt n cs live ts s l) (omega arith) (omega arith)))
  where
    ts : List Term
    ts = e ∷ es

    agreed : ℕ → Bool
    agreed i = bit cs i && eqb (score i ts) (length ts)

    below : (i : ℕ) → bit cs i ≡ true → agreed i ≡ false → score i ts < length ts
    below i b f =
        let ne = eqb-false (score i ts) (length ts) (sym (ap (λ (z : Bool). z && eqb (score i ts) (length ts)) b) ∙ f) in
        omega (arith, score-le i ts, ne)

-- ---- the stack whose newest node is narrowed

module _ (n cs live : ℕ) (a : Aim) (ts : List Term) (st : List Node) (h : Stairs n (node cs a ts ∷ st)) (s : Seen cs live ts) where
  pub stairs-narrow : Stairs n (node live a ts ∷ st)
  unfolding Stairs
  stairs-narrow = ((seen-lt n cs live ts s h.0.0, omega (arith, h.0.1, seen-tally n cs live ts s)), h.1)

  pub weight-narrow : weight n (node live a ts ∷ st) ≤ weight n (node cs a ts ∷ st)
  unfolding weight
  weight-narrow =
      let three : 3 * tally n (bit live) ≤ 3 * tally n (bit cs) = omega (arith, seen-tally n cs live ts s) in
      omega (arith, mul-le-mul_right (length ts) three)

  pub left-narrow : left n (node cs a ts ∷ st) ≡ left n (node live a ts ∷ st)
  unfolding Stairs
  left-narrow =
      let k : ℕ = tally n (bit cs) in
      left-tree n k cs a ts st h (le_refl k)
      ∙ ap (λ (ss : List Step). ss ++ left n (cross_stack ss st)) (tree-narrow n k cs live a ts h.0.0 (le_refl k) s)
      ∙ sym (left-tree n k live a ts st stairs-narrow (seen-tally n cs live ts s))

  -- what leads on from it, leads on from the stack before
  pub leads-narrow : {ss : List Step} {su : List Node} → Leads n (node live a ts ∷ st) ss su → Leads n (node cs a ts ∷ st) ss su
  leads-narrow l = record { whole = left-narrow ∙ l.whole; stairs = l.stairs; lighter = omega (arith, weight-narrow, l.lighter) }

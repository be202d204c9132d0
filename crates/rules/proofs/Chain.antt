-- A node of one term, all of whose candidates are columns of that term, is run down: a CNOT from each candidate to the target, from the highest down, and
-- the rotation. With no target yet, the highest candidate becomes it.
--     downs-next     the CNOTs, by the highest column
--     leads-down     a node with a target: its steps, and the stack that they lead to
--     leads-taken    a node with none
--     cross-run      what they do to a waiting set: one flip of all the columns
use mathlib.Core.Path.{◌≡◌, refl, sym, ap, ◌∙◌, subst}
use mathlib.Core.Bool.{Bool, true, false, ◌&&◌, ◌||◌, cond, true≢false}
use mathlib.Core.List.{List, [], ◌∷◌, ◌++◌}
use Prim.Native.Nat.{ℕ, zero, suc, ◌^◌, ◌≤◌, ◌<◌}
use native.Mathlib.Nat.{le_refl, le_antisymm, not-suc-le-zero}
use native.Mathlib.Omega.{arith}
use lib.Bits as Words
use lib.Dec.{eqb}
use lib.ListN.{length}
use lib.Pow.{pow-lt}
use borrow.Author.Tests.{ne_eqb}
use Rattle.rules.specs.Bit.{◌⊕◌, bit, xor}
use Rattle.rules.specs.Fold.{Term}
use Rattle.rules.specs.Walk.{Step, cn, rot, Aim, free, on, owes, Node, best, crossed, cross_terms, turns, leaf, aim_with, node}
use Rattle.rules.specs.Left.{pay, tally, weight, left, Leads, Stairs}
use Rattle.rules.specs.Shortcuts.{any, downs, run, flipped, flip_terms}
use Rattle.rules.proofs.Bits.{split, same, bit_xor, bit-zero, bits-le, xor_lt, none-set, ⊕-false, ⊕-self, ⊕-mid}
use Rattle.rules.proofs.Masks.{bit-rest, bit-crossed}
use Rattle.rules.proofs.Walking.{cross_all, paid, tree, tally-none, tally-rest, rest-off, rest-other, rest_in}
use Rattle.rules.proofs.Machine.{cross_stack}
use Rattle.rules.proofs.Choosing.{every, agreed-score, best-agreed}
use Rattle.rules.proofs.Narrowing.{self-lt, highest, tree-pay, tree-every, stairs-cross_stack, weight-cross_stack, left-tree}

-- ---- the CNOTs, by the highest column

downs-none : (n t mask : ℕ) → ((i : ℕ) → i < n → bit mask i ≡ false) → downs n t mask ≡ []
unfolding downs
downs-none zero t mask h = refl
downs-none (suc n) t mask h = rw (h n (le_refl (suc n))) (downs-none n t mask (λ i l. h i (omega arith)))

pub downs-zero : (n t : ℕ) → downs n t 0 ≡ []
downs-zero n t = downs-none n t 0 (λ i _. bit-zero i)

downs-ext : (n t a b : ℕ) → ((i : ℕ) → i < n → bit a i ≡ bit b i) → downs n t a ≡ downs n t b
unfolding downs
downs-ext zero t a b h = refl
downs-ext (suc n) t a b h = rw (h n (le_refl (suc n)), downs-ext n t a b (λ i l. h i (omega arith)))

-- another column than the one taken out stays
rest-same : (mask c i : ℕ) → eqb i c ≡ false → bit (xor mask (2 ^ c)) i ≡ bit mask i
rest-same mask c i e = bit-rest mask c i ∙ rw e (⊕-false (bit mask i))

pub downs-next : (n t mask c : ℕ) → c < n → bit mask c ≡ true → ((j : ℕ) → c < j → j < n → bit mask j ≡ false) → downs n t mask ≡ cn c t ∷ downs n t (xor mask (2 ^ c))
unfolding downs
downs-next zero t mask c h e above = absurd (not-suc-le-zero h)
downs-next (suc n) t mask c h e above =
    same n c
    (λ q _.
    let here : bit mask n ≡ true = ap (bit mask) q ∙ e in
    let gone : bit (xor mask (2 ^ c)) n ≡ false = ap (bit (xor mask (2 ^ c))) q ∙ rest-off mask c e in
    rw (here, gone) (rw q (ap (λ (ss : List Step). cn c t ∷ ss) (downs-ext c t mask (xor mask (2 ^ c)) (λ i l. sym (rest-same mask c i (ne_eqb i c (λ r. omega arith))))))))
    (λ q f.
    let none : bit mask n ≡ false = above n (omega arith) (le_refl (suc n)) in
    rw (none, rest-same mask c n f ∙ none) (downs-next n t mask c (omega arith) e (λ j a b. above j a (omega arith))))

-- what holds of no columns, and with the highest column where it holds without it, holds of every mask; k bounds the columns
mask-down {ℓ} : (P : ℕ → Type ℓ) (n : ℕ) → P 0
    → ((mask c : ℕ) → c < n → bit mask c ≡ true → ((j : ℕ) → c < j → j < n → bit mask j ≡ false) → P (xor mask (2 ^ c)) → P mask)
    → (k mask : ℕ) → mask < 2 ^ n → tally n (bit mask) ≤ k → P mask
mask-down P n z s zero mask l t = subst P (sym (none-set n mask l (tally-none n (bit mask) t))) z
mask-down P n z s (suc k) mask l t =
    highest n (bit mask)
    (λ none. subst P (sym (none-set n mask l none)) z)
    (λ c h e above. s mask c h e above (mask-down P n z s k (xor mask (2 ^ c)) (xor_lt n mask (2 ^ c) l (pow-lt h)) (omega (arith, tally-rest n mask c h e))))

-- ---- what they do to a waiting set

bits-eq : (p q : ℕ) → ((i : ℕ) → bit p i ≡ bit q i) → p ≡ q
bits-eq p q h = le_antisymm (bits-le p p q (self-lt p) (λ i _ e. sym (h i) ∙ e)) (bits-le q q p (self-lt q) (λ i _ e. h i ∙ e))

xor-twice : (v m p : ℕ) → xor (xor v p) (xor m p) ≡ xor v m
xor-twice v m p =
    bits-eq (xor (xor v p) (xor m p)) (xor v m)
    (λ i. rw (bit_xor (xor v p) (xor m p) i, bit_xor v p i, bit_xor m p i, bit_xor v m i)
    (⊕-mid (bit v i) (bit p i) (bit m i) (bit p i) ∙ rw (⊕-self (bit p i)) (⊕-false (bit v i ⊕ bit m i))))

-- one CNOT is the flip of one column
pub cross-flip : (p t : ℕ) (ts : List Term) → cross_terms p t ts ≡ flip_terms (2 ^ p) t ts
unfolding cross_terms crossed flip_terms
cross-flip p t [] = refl
cross-flip p t (e ∷ es) = ap (λ (us : List Term). record { parity = flipped (2 ^ p) t e.parity; turn = e.turn } ∷ us) (cross-flip p t es)

flip-zero : (t : ℕ) (ts : List Term) → flip_terms 0 t ts ≡ ts
unfolding flip_terms xor
flip-zero t [] = refl
flip-zero t (e ∷ es) = rw (still (bit e.parity t), flip-zero t es)
  where
    still : (b : Bool) → cond b (xor e.parity 0) e.parity ≡ e.parity
    still true = Words.xor_zero_r e.parity
    still false = refl

flipped-next : (mask c t v : ℕ) → eqb t c ≡ false → flipped (xor mask (2 ^ c)) t (crossed c t v) ≡ flipped mask t v
unfolding flipped crossed
flipped-next mask c t v ne =
    let stays : bit (crossed c t v) t ≡ bit v t = bit-crossed c t v t ∙ rw ne (⊕-false (bit v t)) in
    rw stays (split (bit v t) (λ e. rw e (xor-twice v mask (2 ^ c))) (λ e. rw e))

flip-next : (mask c t : ℕ) (ts : List Term) → eqb t c ≡ false → flip_terms (xor mask (2 ^ c)) t (cross_terms c t ts) ≡ flip_terms mask t ts
unfolding cross_terms flip_terms
flip-next mask c t [] ne = refl
flip-next mask c t (e ∷ es) ne = rw (flipped-next mask c t e.parity ne, flip-next mask c t es ne)

cross-downs : (n t mask : ℕ) → mask < 2 ^ n → bit mask t ≡ false → (ts : List Term) → cross_all (downs n t mask) ts ≡ flip_terms mask t ts
unfolding cross_all
cross-downs n t mask l =
    mask-down (λ m. bit m t ≡ false → (ts : List Term) → cross_all (downs n t m) ts ≡ flip_terms m t ts) n
    (λ f ts. ap (λ (ss : List Step). cross_all ss ts) (downs-zero n t) ∙ sym (flip-zero t ts))
    (λ m c h e above go f ts.
    ap (λ (ss : List Step). cross_all ss ts) (downs-next n t m c h e above)
    ∙ go (rest-other m c t e f) (cross_terms c t ts)
    ∙ flip-next m c t ts (ne_eqb t c (λ q. true≢false (sym e ∙ ap (bit m) (sym q) ∙ f))))
    (tally n (bit mask)) mask l (le_refl _)

-- a rotation does nothing to it
cross-turned : (ss : List Step) (q k : ℕ) (ts : List Term) → cross_all (ss ++ (rot q k ∷ [])) ts ≡ cross_all ss ts
unfolding cross_all
cross-turned [] q k ts = refl
cross-turned (cn p t ∷ ss) q k ts = cross-turned ss q k (cross_terms p t ts)
cross-turned (rot r j ∷ ss) q k ts = cross-turned ss q k ts

pub cross-run : (n t mask : ℕ) (us : List Term) → mask < 2 ^ n → bit mask t ≡ false → (ts : List Term) → cross_all (run n t mask us) ts ≡ flip_terms mask t ts
unfolding run
cross-run n t mask us l f ts = cross-turned (downs n t mask) t (turns us) ts ∙ cross-downs n t mask l f ts

-- ---- the node's steps

module _ (n : ℕ) (e : Term) where
  abbrev one : List Term
  one = e ∷ []

  -- all the candidates are columns of the term
  abbrev Has : ℕ → Type 0
  Has cs = (i : ℕ) → bit cs i ≡ true → any i one ≡ true

  -- the highest candidate is split by, and the side without is empty
  tree-next : (k cs c : ℕ) (a : Aim) → c < n → bit cs c ≡ true → ((j : ℕ) → c < j → j < n → bit cs j ≡ false) → any c one ≡ true
      → tree n (suc k) cs a one ≡ pay a ++ tree n k (xor cs (2 ^ c)) (aim_with (paid a) c) one
  unfolding any every
  tree-next k cs c a h b above s =
      let agree : any c one ≡ every c one = all (bit e.parity c) in
      let is : best n cs one ≡ (c, length one) =
      best-agreed cs one n c h b (agreed-score c one (le_refl 1) agree) (λ j p q g. absurd (true≢false (sym g ∙ above j p q))) in
      tree-every n k cs c a e [] b is (sym agree ∙ s)
    where
      all : (b : Bool) → (b || false) ≡ (b && true)
      all true = refl
      all false = refl

  has_rest : (cs c : ℕ) → bit cs c ≡ true → Has cs → Has (xor cs (2 ^ c))
  has_rest cs c b has i f = has i (rest_in cs c i b f)

  tree-down : (t k cs : ℕ) → cs < 2 ^ n → tally n (bit cs) ≤ k → Has cs → tree n k cs (on t) one ≡ run n t cs one
  unfolding tree run
  tree-down t zero cs l h has = rw (none-set n cs l (tally-none n (bit cs) h), downs-zero n t)
  tree-down t (suc k) cs l h has =
      highest n (bit cs)
      (λ none. rw (none-set n cs l none, downs-zero n t))
      (λ c m b above.
      tree-next k cs c (on t) m b above (has c b)
      ∙ sym (tree-pay n k (xor cs (2 ^ c)) (owes c t) e [])
      ∙ ap (λ (ss : List Step). cn c t ∷ ss) (tree-down t k (xor cs (2 ^ c)) (xor_lt n cs (2 ^ c) l (pow-lt m)) (omega (arith, tally-rest n cs c m b)) (has_rest cs c b has))
      ∙ ap (λ (ss : List Step). ss ++ leaf (on t) one) (sym (downs-next n t cs c m b above)))

  tree-taken : (k cs c : ℕ) → cs < 2 ^ n → tally n (bit cs) ≤ k → Has cs → c < n → bit cs c ≡ true → ((j : ℕ) → c < j → j < n → bit cs j ≡ false)
      → tree n k cs free one ≡ run n c (xor cs (2 ^ c)) one
  tree-taken zero cs c l h has m b above = absurd (omega (arith, tally-rest n cs c m b))
  tree-taken (suc k) cs c l h has m b above =
      tree-next k cs c free m b above (has c b)
      ∙ tree-down c k (xor cs (2 ^ c)) (xor_lt n cs (2 ^ c) l (pow-lt m)) (omega (arith, tally-rest n cs c m b)) (has_rest cs c b has)

  -- ---- with what waits below it

  leads_tree : (cs : ℕ) (a : Aim) (st : List Node) (ss : List Step) → Stairs n (node cs a one ∷ st) → tree n (tally n (bit cs)) cs a one ≡ ss
      → Leads n (node cs a one ∷ st) ss (cross_stack ss st)
  unfolding Stairs weight
  leads_tree cs a st ss h q =
      record {
        whole = left-tree n (tally n (bit cs)) cs a one st h (le_refl _) ∙ ap (λ (us : List Step). us ++ left n (cross_stack us st)) q;
        stairs = stairs-cross_stack n ss st h.1;
        lighter = omega (arith, weight-cross_stack n ss st);
      }

  module _ (cs : ℕ) (st : List Node) (has : Has cs) where
    pub leads-down : (t : ℕ) → Stairs n (node cs (on t) one ∷ st) → Leads n (node cs (on t) one ∷ st) (run n t cs one) (cross_stack (run n t cs one) st)
    unfolding Stairs
    leads-down t h = leads_tree cs (on t) st (run n t cs one) h (tree-down t (tally n (bit cs)) cs h.0.0 (le_refl _) has)

    pub leads-taken : (c : ℕ) → c < n → bit cs c ≡ true → ((j : ℕ) → c < j → j < n → bit cs j ≡ false) → Stairs n (node cs free one ∷ st)
        → Leads n (node cs free one ∷ st) (run n c (xor cs (2 ^ c)) one) (cross_stack (run n c (xor cs (2 ^ c)) one) st)
    unfolding Stairs
    leads-taken c m b above h = leads_tree cs free st (run n c (xor cs (2 ^ c)) one) h (tree-taken (tally n (bit cs)) cs c h.0.0 (le_refl _) has m b above)

-- The index: what a head and a link say, what the search knows on its way, and what a store does to it.
--     last-le, last-at, last_none    the last place with a hash, and that there is none behind it
--     head-met, head-past, head-other    a head that is trusted, and the two reasons why one isn't
--     chain_first, chain_next, chain-met, chain-end    the search: before its first round, a round that goes on, its two ends
--     linked-none, linked-same, linked-more    no term; a turn stored anew; a term more
use mathlib.Core.Path.{◌≡◌, refl, sym, ap, ◌∙◌}
use mathlib.Core.Logic.{◌≢◌}
use mathlib.Core.Bool.{false}
use Prim.Native.Nat.{ℕ, zero, suc, ◌≤◌, ◌<◌}
use native.Mathlib.Nat.{not-suc-le-zero}
use native.Mathlib.Omega.{arith}
use lib.Dec.{eqb, leb}
use borrow.Author.Tests.{eqb-true, eqb-false, ne_eqb, leb-true, leb-false}
use Rattle.rules.proofs.Bits.{split, same, eqb-self, eqb-sym}
use Rattle.terms.specs.Terms.{last_of, Linked}

-- ---- the last place with a hash

module _ (f : ℕ → ℕ) (h : ℕ) where
  pub last-le : (m : ℕ) → last_of f h m ≤ m
  unfolding last_of
  last-le zero = omega arith
  last-le (suc m) = let l = last-le m in split (eqb (f m) h) (λ e. rw e (omega arith)) (λ e. rw e (omega arith))

  pub last-at : (m j : ℕ) → last_of f h m ≡ suc j → f j ≡ h
  unfolding last_of
  last-at zero j e = absurd (omega arith)
  last-at (suc m) j e =
      split (eqb (f m) h)
      (λ t. let q : j ≡ m = omega (arith, rw t at e) in rw q (eqb-true (f m) h t))
      (λ t. last-at m j (rw t at e))

  pub last_none : (m j : ℕ) → last_of f h m ≤ j → j < m → f j ≢ h
  unfolding last_of
  last_none zero j l b = absurd (not-suc-le-zero b)
  last_none (suc m) j l b =
      split (eqb (f m) h)
      (λ t. absurd (omega (arith, rw t at l)))
      (λ t. same j m (λ e d. rw e (eqb-false (f m) h t)) (λ n d. last_none m j (rw t at l) (less n)))
    where
      less : j ≢ m → j < m
      less n = split (eqb j m) (λ e. absurd (n (eqb-true j m e))) (λ e. omega (arith, eqb-false j m e))

  -- by the hashes before m alone
  pub last-same : (g : ℕ → ℕ) (m : ℕ) → ((i : ℕ) → i < m → g i ≡ f i) → last_of g h m ≡ last_of f h m
  unfolding last_of
  last-same g zero e = refl
  last-same g (suc m) e =
      let q = last-same g m (λ i l. e i (omega arith)) in
      rw (e m (omega arith), q)

-- ---- heads, of hashes f by place

module _ (f head : ℕ → ℕ) (n h : ℕ) (said : (i : ℕ) → i < n → suc (head (f i)) ≡ last_of f (f i) n) where
  pub head-met : head h < n → f (head h) ≡ h → suc (head h) ≡ last_of f h n
  head-met l e = rw e at (said (head h) l)

  -- a hash that a term has is said by its head
  told : (j : ℕ) → last_of f h n ≡ suc j → head h ≡ j
  told j e =
      let l : j < n = omega (arith, last-le f h n) in
      let q : f j ≡ h = last-at f h n j e in
      let s : suc (head h) ≡ last_of f h n = rw q at (said j l) in
      omega arith

  none : ((j : ℕ) → last_of f h n ≡ suc j → ⊥) → 0 ≡ last_of f h n
  none never = go (last_of f h n) refl
    where
      go : (k : ℕ) → last_of f h n ≡ k → 0 ≡ k
      go zero e = refl
      go (suc j) e = absurd (never j e)

  pub head-past : n ≤ head h → 0 ≡ last_of f h n
  head-past l = none (λ j e. omega (arith, told j e, last-le f h n))

  pub head-other : f (head h) ≢ h → 0 ≡ last_of f h n
  head-other o = none (λ j e. o (ap f (told j e) ∙ last-at f h n j e))

-- ---- the search: down the chain of the hash of p, with i the place behind the next to look at

pub record Down (f parity : ℕ → ℕ) (n p i : ℕ) : Type 0 where
  pub within : i ≤ n
  pub hash : (j : ℕ) → i ≡ suc j → f (parity j) ≡ f p
  pub none : (j : ℕ) → i ≤ j → j < n → parity j ≢ p

module _ (f parity : ℕ → ℕ) (n p : ℕ) where
  -- from a place m, where none from m on is p
  down-from : (m i : ℕ) → i ≡ last_of (λ j. f (parity j)) (f p) m → m ≤ n → ((j : ℕ) → m ≤ j → j < n → parity j ≢ p) → Down f parity n p i
  down-from m i e l past = record {
    within = omega (arith, last-le (λ j. f (parity j)) (f p) m);
    hash = λ j b. last-at (λ j. f (parity j)) (f p) m j (sym e ∙ b);
    none = λ j a b. split (leb m j) (λ t. past j (leb-true m j t) b)
        (λ t q. last_none (λ j. f (parity j)) (f p) m j (omega arith) (omega (arith, leb-false m j t)) (ap f q));
  }

  module _ (link head : ℕ → ℕ) (s : Linked f parity link head n) where
    pub chain_first : (i : ℕ) → i ≡ last_of (λ j. f (parity j)) (f p) n → Down f parity n p i
    chain_first i e = down-from n i e (omega arith) (λ j a b. absurd (omega arith))

    module _ (i : ℕ) (d : Down f parity n p (suc i)) where
      next-is : link i ≡ last_of (λ j. f (parity j)) (f p) i
      next-is = rw (d.hash i refl) at (s.links i d.within)

      pub chain-less : link i < suc i
      chain-less = omega (arith, next-is, last-le (λ j. f (parity j)) (f p) i)

      pub chain_next : parity i ≢ p → Down f parity n p (link i)
      chain_next o = down-from i (link i) next-is (omega (arith, d.within)) past
        where
          past : (j : ℕ) → i ≤ j → j < n → parity j ≢ p
          past j a l = split (eqb j i) (λ t. rw (eqb-true j i t) o) (λ t. d.none j (omega (arith, eqb-false j i t)) l)

      pub chain-met : parity i ≡ p → (j : ℕ) → j < i → parity j ≢ p
      chain-met e j l q = s.apart j i l d.within (q ∙ sym e)

-- ---- what a store does to the index

pub linked-none : (f parity link head : ℕ → ℕ) → Linked f parity link head 0
linked-none f parity link head = record {
  apart = λ i j a b. absurd (not-suc-le-zero b);
  links = λ i l. absurd (not-suc-le-zero l);
  heads = λ i l. absurd (not-suc-le-zero l);
}

module _ (f parity link head parity' link' : ℕ → ℕ) (n : ℕ) (s : Linked f parity link head n) (same-parity : (i : ℕ) → i < n → parity' i ≡ parity i) (same-link : (i : ℕ) → i < n → link' i ≡ link i) where
  alike : (h m : ℕ) → m ≤ n → last_of (λ j. f (parity' j)) h m ≡ last_of (λ j. f (parity j)) h m
  alike h m l = last-same (λ j. f (parity j)) h (λ j. f (parity' j)) m (λ i b. ap f (same-parity i (omega arith)))

  chained : (i : ℕ) → i < n → link' i ≡ last_of (λ j. f (parity' j)) (f (parity' i)) i
  chained i l = same-link i l ∙ rw (same-parity i l) (s.links i l ∙ sym (alike (f (parity i)) i (omega arith)))

  pub linked-same : Linked f parity' link' head n
  linked-same = record {
    apart = λ i j a b. rw (same-parity i (omega arith), same-parity j b) (s.apart i j a b);
    links = chained;
    heads = λ i l. rw (same-parity i l) (s.heads i l ∙ sym (alike (f (parity i)) n (omega arith)));
  }

  pub linked-more : (head' : ℕ → ℕ) (p : ℕ) → parity' n ≡ p → link' n ≡ last_of (λ j. f (parity j)) (f p) n → ((i : ℕ) → i < n → parity i ≢ p)
      → head' (f p) ≡ n → ((h : ℕ) → h ≢ f p → head' h ≡ head h) → Linked f parity' link' head' (suc n)
  unfolding last_of
  linked-more head' p at chain new top others = record { apart = distinct; links = linking; heads = heading }
    where
      below : {i : ℕ} → i < suc n → eqb i n ≡ false → i < n
      below {i} l t = omega (arith, eqb-false i n t)

      distinct : (i j : ℕ) → i < j → j < suc n → parity' i ≢ parity' j
      distinct i j a b =
          split (eqb j n)
          (λ t. rw (eqb-true j n t, at, same-parity i (omega (arith, eqb-true j n t))) (new i (omega (arith, eqb-true j n t))))
          (λ t. linked-same.apart i j a (below b t))

      linking : (i : ℕ) → i < suc n → link' i ≡ last_of (λ j. f (parity' j)) (f (parity' i)) i
      linking i l =
          split (eqb i n)
          (λ t. rw (eqb-true i n t, at) (chain ∙ sym (alike (f p) n (omega arith))))
          (λ t. chained i (below l t))

      heading : (i : ℕ) → i < suc n → suc (head' (f (parity' i))) ≡ last_of (λ j. f (parity' j)) (f (parity' i)) (suc n)
      heading i l =
          split (eqb (f (parity' i)) (f p))
          (λ t. rw (eqb-true (f (parity' i)) (f p) t) (rw (at, eqb-self (f p), top)))
          (λ t.
          let u : eqb (f p) (f (parity' i)) ≡ false = eqb-sym (f p) (f (parity' i)) ∙ t in
          let b : i < n = below l (ne_eqb i n (λ q. eqb-false (f (parity' i)) (f p) t (ap f (ap parity' q ∙ at)))) in
          rw (others (f (parity' i)) (eqb-false (f (parity' i)) (f p) t), at, u) (linked-same.heads i b))

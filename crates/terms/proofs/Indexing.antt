-- The index of a room: its hash, the search in it, and what a store leaves of it.
--     slot_lt, slot-words    a hash is below the number of heads; it is made of the parity's two words
--     found-met, found-end   the two ends of the search
--     indexed-none, indexed-met, indexed-new    the index of no term, after a turn is stored anew, and after a term more
use mathlib.Core.Path.{◌≡◌, sym, ap, ◌∙◌}
use mathlib.Core.Logic.{◌≢◌}
use mathlib.Core.Bool.{Bool, true, false}
use mathlib.Core.List.{List}
use Prim.Native.Nat.{ℕ, ◌+◌, ◌-◌, ◌*◌, ◌/◌, ◌%◌, ◌^◌, ◌≤◌, ◌<◌}
use native.Mathlib.Nat.{mod-lt, mul_comm, mul-lt-mul_of_pos_right, div-lt_iff_lt-mul}
use native.Mathlib.Numerals.{add-one}
use native.Mathlib.Omega.{arith}
use lib.ListN.{length, get_or, set, take, length-set}
use lib.Seq.{length-take-le, get_or-take, get_or-set_same, get_or-set_other}
use lib.Dec.{eqb}
use lib.Pow.{high, low}
use borrow.Author.Tests.{eqb-true, eqb-false}
use Rattle.rules.specs.Fold.{Term, signed}
use Rattle.rules.proofs.Bits.{split}
use Rattle.terms.specs.Terms.{terms_of, words_of, no_term, place, mix_of, slot_of, last_of, parity_at, link_at, Indexed, Stores}
use Rattle.terms.proofs.Room.{room-turn, words-length}
use Rattle.terms.proofs.Places.{place_at, place-before, place_is, place_end}
use Rattle.terms.proofs.Chains.{linked-none, linked-same, linked-more}

-- ---- the hash

-- x of k, scaled to n
pub scaled-lt : (x n k : ℕ) → x < k → 0 < n → x * n / k < n
scaled-lt x n k l p = (div-lt_iff_lt-mul {k = k} {x = x * n} {y = n} (omega arith)).1 (rw (mul_comm n k) (mul-lt-mul_of_pos_right l p))

pub slot_lt : (n v : ℕ) → 0 < n → slot_of n v < n
unfolding slot_of
slot_lt n v p = scaled-lt (mix_of (v % 2 ^ 64) (v / 2 ^ 64)) n (2 ^ 32) (mod-lt _ (omega arith)) p

pub slot-words : (n lo hi : ℕ) → lo < 2 ^ 64 → mix_of lo hi * n / 2 ^ 32 ≡ slot_of n (hi * 2 ^ 64 + lo)
unfolding slot_of
slot-words n lo hi l = rw (low hi 64 l, high hi 64 l)

-- ---- the search, among the first n of xs

module _ (p n : ℕ) (xs : List Term) (l : n ≤ length xs) where
  size : length (take n xs) ≡ n
  size = length-take-le n xs l

  pub found-met : (i : ℕ) → i < n → (get_or xs i no_term).parity ≡ p → ((j : ℕ) → j < i → (get_or xs j no_term).parity ≢ p) → i ≡ place p (take n xs)
  found-met i b e none =
      place_is p (take n xs) i (omega (arith, size)) (rw (get_or-take n xs i no_term b) e)
      (λ j a. rw (get_or-take n xs j no_term (omega arith)) (none j a))

  pub found-end : ((j : ℕ) → j < n → (get_or xs j no_term).parity ≢ p) → n ≡ place p (take n xs)
  found-end none = sym size ∙ place_end p (take n xs) (λ j a. rw (get_or-take n xs j no_term (omega (arith, size))) (none j (omega (arith, size))))

  -- it is where the parity is
  pub found_at : (i : ℕ) → i ≡ place p (take n xs) → i < n → (get_or xs i no_term).parity ≡ p
  found_at i e b = rw (get_or-take n xs i no_term b) at (rw (← e) at (place_at p (take n xs) (omega (arith, size))))

  pub found_none : n ≤ place p (take n xs) → (j : ℕ) → j < n → (get_or xs j no_term).parity ≢ p
  found_none h j b = rw (get_or-take n xs j no_term b) at (place-before p (take n xs) j (omega arith))

-- ---- the word of a turn and a link

turned : (l s : ℕ) → s < 8 → (l * 8 + s) % 8 ≡ s
turned l s b = omega arith

linked : (l s : ℕ) → s < 8 → (l * 8 + s) / 8 ≡ l
linked l s b = omega arith

-- a turn stored anew: w was the word, s is the sum
pub word-met : (w s a k : ℕ) (room : List ℕ) (i : ℕ) → w ≡ get_or (words_of room) i 0 → s ≡ (w % 8 + a) % 8 → a ≡ k
    → ((w / 8 * 8 + s) % 8 ≡ ((get_or (terms_of room) i no_term).turn + k) % 8) × ((w / 8 * 8 + s) / 8 ≡ link_at room i)
word-met w s a k room i e f g =
    let t : s ≡ ((get_or (terms_of room) i no_term).turn + k) % 8 = rw (room-turn room i, ← e, ← g) f in
    let b : s < 8 = rw f (mod-lt _ (omega arith)) in
    (turned (w / 8) s b ∙ t, linked (w / 8) s b ∙ ap (λ (j : ℕ). j / 8) e)

-- a new one, with its link
pub word-new : (l a k : ℕ) → a ≡ k → k < 8 → ((8 * l + a) % 8 ≡ k) × ((8 * l + a) / 8 ≡ l)
word-new l a k e b = (omega arith, omega arith)

-- ---- the index

pub signed_lt : (b : Bool) (k : ℕ) → signed b k < 8
signed_lt true k = mod-lt (8 - k % 8) (omega arith)
signed_lt false k = mod-lt k (omega arith)

pub indexed-none : (heads room : List ℕ) → 0 < length heads → length heads ≤ 2 ^ 32 → Indexed heads room 0
indexed-none heads room s f = record { some = s; few = f; linked = linked-none _ _ _ _ }

module _ (heads room room' : List ℕ) (n i : ℕ) (t : Term) (w : ℕ) (x : Indexed heads room n) (s : Stores i t w room room') where
  -- the other terms are as they were
  other-parity : (j : ℕ) → j ≢ i → parity_at room' j ≡ parity_at room j
  other-parity j o = ap (λ (ts : List Term). (get_or ts j no_term).parity) s.terms ∙ ap (λ (u : Term). u.parity) (get_or-set_other (terms_of room) i j t no_term o)

  other-link : (j : ℕ) → j ≢ i → link_at room' j ≡ link_at room j
  other-link j o = ap (λ (ws : List ℕ). get_or ws j 0 / 8) s.words ∙ ap (λ (k : ℕ). k / 8) (get_or-set_other (words_of room) i j w 0 o)

  module _ (l : i < length (terms_of room)) where
    own-parity : parity_at room' i ≡ t.parity
    own-parity = ap (λ (ts : List Term). (get_or ts i no_term).parity) s.terms ∙ ap (λ (u : Term). u.parity) (get_or-set_same (terms_of room) i t no_term l)

    own-link : link_at room' i ≡ w / 8
    own-link = ap (λ (ws : List ℕ). get_or ws i 0 / 8) s.words ∙ ap (λ (k : ℕ). k / 8) (get_or-set_same (words_of room) i w 0 (omega (arith, words-length room)))

    -- its parity and its link stay
    pub indexed-met : t.parity ≡ parity_at room i → w / 8 ≡ link_at room i → Indexed heads room' n
    indexed-met p k = record {
      some = x.some;
      few = x.few;
      linked =
          linked-same _ _ _ _ (parity_at room') (link_at room') n x.linked
          (λ j b. split (eqb j i) (λ e. rw (eqb-true j i e) (own-parity ∙ p)) (λ e. other-parity j (eqb-false j i e)))
          (λ j b. split (eqb j i) (λ e. rw (eqb-true j i e) (own-link ∙ k)) (λ e. other-link j (eqb-false j i e)));
    }

    -- it is the n-th, and the head of its hash
    pub indexed-new : i ≡ n → w / 8 ≡ last_of (λ j. slot_of (length heads) (parity_at room j)) (slot_of (length heads) t.parity) n
        → ((j : ℕ) → j < n → parity_at room j ≢ t.parity) → Indexed (set heads (slot_of (length heads) t.parity) n) room' (n + 1)
    indexed-new e k none =
        let h : ℕ = slot_of (length heads) t.parity in
        let size : length (set heads h n) ≡ length heads = simp length-set in
        rw (add-one n) (record {
          some = rw size x.some;
          few = rw size x.few;
          linked =
              rw size (linked-more _ _ _ _ (parity_at room') (link_at room') n x.linked
              (λ j b. other-parity j (λ q. omega arith))
              (λ j b. other-link j (λ q. omega arith))
              (λ g. get_or (set heads h n) g 0) t.parity
              (ap (parity_at room') (sym e) ∙ own-parity)
              (ap (link_at room') (sym e) ∙ own-link ∙ k)
              none
              (get_or-set_same heads h n 0 (slot_lt (length heads) t.parity x.some))
              (λ g o. get_or-set_other heads h g n 0 o));
        })

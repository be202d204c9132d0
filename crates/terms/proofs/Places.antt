-- The place of a parity among the terms: what a search knows on its way, and what a fold does at the place.
--     place-has              a place below the length says that the table has the parity
--     place-met, place-new   the fold goes by the place
--     place_at, place-before, place_is, place_end    where the place is
--     fold-met, fold-new     what one store of the fold leaves in the room
use mathlib.Core.Path.{◌≡◌, refl, sym, ap, ◌∙◌}
use mathlib.Core.Logic.{◌≢◌}
use mathlib.Core.List.{List, [], ◌∷◌, ◌++◌}
use Prim.Native.Nat.{ℕ, zero, suc, ◌+◌, ◌%◌, ◌≤◌, ◌<◌, suc-le-suc}
use native.Mathlib.Nat.{not-suc-le-zero, le_of_suc-le-suc, zero-lt-suc}
use native.Mathlib.Numerals.{add-one}
use native.Mathlib.Omega.{arith}
use lib.ListN.{length, get_or, set, take, length-set, length-append}
use lib.Seq.{length-take-le, get_or-take, take-set-lt, drop-set-lt, take-suc-set}
use lib.Dec.{eqb, ltb, leb-suc-suc}
use borrow.Author.Tests.{lt-ltb, ltb-true, ltb-false, eqb-true, eqb-false}
use Rattle.rules.specs.Fold.{Term, add_term}
use Rattle.rules.specs.Scan.{has_term}
use Rattle.rules.proofs.Bits.{split}
use Rattle.terms.specs.Terms.{no_term, place, Begins}

pub place-le : (p : ℕ) (ts : List Term) → place p ts ≤ length ts
unfolding place
place-le p [] = omega arith
place-le p (t ∷ ts) = split (eqb t.parity p) (λ e. rw e (omega arith)) (λ e. rw e (suc-le-suc (place-le p ts)))

pub place-has : (p : ℕ) (ts : List Term) → ltb (place p ts) (length ts) ≡ has_term p ts
unfolding place has_term
place-has p [] = refl
place-has p (t ∷ ts) =
    split (eqb t.parity p) (λ e. rw e (lt-ltb _ _ (zero-lt-suc (length ts)))) (λ e. rw e (leb-suc-suc (suc (place p ts)) (length ts) ∙ place-has p ts))

-- the fold at a place of the table, and at none
pub place-met : (p k : ℕ) (ts : List Term) → place p ts < length ts
    → add_term p k ts ≡ set ts (place p ts) (record { parity = p; turn = ((get_or ts (place p ts) no_term).turn + k) % 8 })
unfolding place add_term
place-met p k [] l = absurd (not-suc-le-zero l)
place-met p k (t ∷ ts) l =
    split (eqb t.parity p)
    (λ e. rw e (ap (λ (q : ℕ). record { parity = q; turn = (t.turn + k) % 8 } ∷ ts) (eqb-true t.parity p e)))
    (λ e. rw e (ap (λ (us : List Term). t ∷ us) (place-met p k ts (le_of_suc-le-suc (rw e at l)))))

pub place-new : (p k : ℕ) (ts : List Term) → length ts ≤ place p ts → add_term p k ts ≡ ts ++ (record { parity = p; turn = k } ∷ [])
unfolding place add_term
place-new p k [] l = refl
place-new p k (t ∷ ts) l =
    split (eqb t.parity p)
    (λ e. absurd (not-suc-le-zero (rw e at l)))
    (λ e. rw e (ap (λ (us : List Term). t ∷ us) (place-new p k ts (le_of_suc-le-suc (rw e at l)))))

-- ---- where the place is

pub not-lt : {i j : ℕ} → (i < j → ⊥) → j ≤ i
not-lt {i} {j} h = split (ltb i j) (λ e. absurd (h (ltb-true i j e))) (λ e. ltb-false i j e)

pub place_at : (p : ℕ) (ts : List Term) → place p ts < length ts → (get_or ts (place p ts) no_term).parity ≡ p
unfolding place
place_at p [] l = absurd (not-suc-le-zero l)
place_at p (t ∷ ts) l = split (eqb t.parity p) (λ e. rw e (eqb-true t.parity p e)) (λ e. rw e (place_at p ts (le_of_suc-le-suc (rw e at l))))

-- none before the place has the parity
pub place-before : (p : ℕ) (ts : List Term) (j : ℕ) → j < place p ts → (get_or ts j no_term).parity ≢ p
unfolding place
place-before p [] j l = absurd (not-suc-le-zero l)
place-before p (t ∷ ts) zero l = split (eqb t.parity p) (λ e. absurd (not-suc-le-zero (rw e at l))) (λ e. eqb-false t.parity p e)
place-before p (t ∷ ts) (suc j) l =
    split (eqb t.parity p) (λ e. absurd (not-suc-le-zero (rw e at l))) (λ e. place-before p ts j (le_of_suc-le-suc (rw e at l)))

-- the place is i where i has the parity and none before it does
pub place_is : (p : ℕ) (ts : List Term) (i : ℕ) → i < length ts → (get_or ts i no_term).parity ≡ p → ((j : ℕ) → j < i → (get_or ts j no_term).parity ≢ p) → i ≡ place p ts
place_is p ts i l e none =
    let a : place p ts ≤ i = not-lt (λ h. place-before p ts i h e) in
    let b : i ≤ place p ts = not-lt (λ h. none (place p ts) h (place_at p ts (omega arith))) in
    omega arith

-- and the number of terms where none has it
pub place_end : (p : ℕ) (ts : List Term) → ((j : ℕ) → j < length ts → (get_or ts j no_term).parity ≢ p) → length ts ≡ place p ts
place_end p ts none =
    let a : place p ts ≤ length ts = place-le p ts in
    let b : length ts ≤ place p ts = not-lt (λ h. none (place p ts) h (place_at p ts h)) in
    omega arith

-- ---- the fold's one store

module _ (p k n at : ℕ) (xs : List Term) (found : at ≡ place p (take n xs)) where
  -- s is the turn that is stored
  pub fold-met : (s : ℕ) → at < n → n ≤ length xs → s ≡ ((get_or xs at no_term).turn + k) % 8
      → Begins (add_term p k (take n xs)) n n xs (set xs at (record { parity = p; turn = s }))
  fold-met s h l e =
      let t : Term = record { parity = p; turn = s } in
      let m : length (take n xs) ≡ n = length-take-le n xs l in
      let q : ((get_or (take n xs) at no_term).turn + k) % 8 ≡ s = ap (λ (u : Term). (u.turn + k) % 8) (get_or-take n xs at no_term h) ∙ sym e in
      let f : add_term p k (take n xs) ≡ set (take n xs) at t =
      place-met p k (take n xs) (omega arith)
      ∙ ap (λ (j : ℕ). set (take n xs) j (record { parity = p; turn = ((get_or (take n xs) j no_term).turn + k) % 8 })) (sym found)
      ∙ ap (λ (j : ℕ). set (take n xs) at (record { parity = p; turn = j })) q in
      record {
        many = ap length f ∙ simp length-set m;
        front = take-set-lt n xs at t h ∙ sym f;
        rest = drop-set-lt n xs at t h;
      }

  pub fold-new : (s : ℕ) → n ≤ at → n < length xs → s ≡ k → Begins (add_term p k (take n xs)) (n + 1) (n + 1) xs (set xs n (record { parity = p; turn = s }))
  fold-new s h l e =
      let t : Term = record { parity = p; turn = k } in
      let m : length (take n xs) ≡ n = length-take-le n xs (omega arith) in
      let f : add_term p k (take n xs) ≡ take n xs ++ (t ∷ []) = place-new p k (take n xs) (omega arith) in
      rw e (rw (add-one n) (record {
        many = ap length f ∙ simp length-append (omega arith);
        front = take-suc-set xs n t l ∙ sym f;
        rest = drop-set-lt (suc n) xs n t (omega arith);
      }))

-- Gathering in place, front to back, the terms that a test takes: what the loop knows after k rounds, of which `mid` kept their term.
-- The others are not lost: they stand behind those, in some order.
--     sieve-none    before the first round
--     sieve-length  the terms are as many
--     sieve-round   the term at k is exchanged with the one at mid, and mid moves by whether it is kept
--     sieve-all     after the last round
--     nonzero-filter, sides_filter    the two uses: terms of turn 0 fall, a whole list is split by a column
use mathlib.Core.Path.{◌≡◌, refl, sym, ap, ◌∙◌}
use mathlib.Core.Bool.{Bool, true, false, not, cond}
use mathlib.Core.List.{List, [], ◌∷◌, ◌++◌, append_assoc, append-nil}
use Prim.Native.Nat.{ℕ, zero, suc, ◌+◌, ◌%◌, ◌≤◌, ◌<◌}
use native.Mathlib.Nat.{add-zero}
use native.Mathlib.Numerals.{add-one}
use native.Mathlib.Omega.{arith}
use lib.ListN.{length, get_or, set, take, drop, length-append, length-drop}
use lib.Seq.{drop-cons, take-length, take_at, drop_at, get_or_at, set_at}
use lib.Dec.{eqb}
use borrow.Author.Tests.{ne_eqb}
use Rattle.std.proofs.lemmas.List.Elements.{filter_more}
use Rattle.std.specs.List.{filter}
use Rattle.rules.specs.Bit.{bit}
use Rattle.rules.specs.Fold.{Term}
use Rattle.rules.specs.Walk.{side, nonzero, is_none}
use Rattle.rules.specs.Order.{Shuffled, same, keep, swap, next}
use Rattle.rules.proofs.Bits.{split}
use Rattle.terms.specs.Terms.{no_term, exchanged, Gathers, Sides}

-- ---- the same terms in another order

shuffled-snoc : (ts : List Term) (x : Term) → Shuffled (ts ++ (x ∷ [])) (x ∷ ts)
shuffled-snoc [] x = same
shuffled-snoc (y ∷ ts) x = next (keep (shuffled-snoc ts x)) swap

pub shuffled-sym : {ts us : List Term} → Shuffled ts us → Shuffled us ts
shuffled-sym same = same
shuffled-sym (keep s) = keep (shuffled-sym s)
shuffled-sym swap = swap
shuffled-sym (next s t) = next (shuffled-sym t) (shuffled-sym s)

shuffled-add : {ts us : List Term} (x : Term) → Shuffled ts us → Shuffled (ts ++ (x ∷ [])) (us ++ (x ∷ []))
shuffled-add x same = same
shuffled-add x (keep s) = keep (shuffled-add x s)
shuffled-add x swap = swap
shuffled-add x (next s t) = next (shuffled-add x s) (shuffled-add x t)

-- ---- the term after `behind` is exchanged with the first of `behind`

record Moved (front behind rest : List Term) (x : Term) (mid k : ℕ) : Type 0 where
  pub after : List Term
  pub list : exchanged (front ++ (behind ++ (x ∷ rest))) mid k ≡ (front ++ (x ∷ [])) ++ (after ++ rest)
  pub long : length after ≡ length behind
  pub same : Shuffled after behind

moved : (front behind rest : List Term) (x : Term) (mid k : ℕ) → length front ≡ mid → mid + length behind ≡ k → Moved front behind rest x mid k
moved a [] r x mid k p q =
    let h : length a ≡ k = omega arith in
    record {
      after = [];
      list = rw (get_or_at a x r no_term k h) (rw (get_or_at a x r no_term mid p) (rw (set_at a x r x mid p) (rw (set_at a x r x k h) (simp append_assoc))));
      long = refl;
      same = same;
    }
moved a (z ∷ b) r x mid k p q =
    let e : a ++ (z ∷ (b ++ (x ∷ r))) ≡ (a ++ (z ∷ b)) ++ (x ∷ r) = simp append_assoc in
    let f : a ++ (x ∷ (b ++ (x ∷ r))) ≡ (a ++ (x ∷ b)) ++ (x ∷ r) = simp append_assoc in
    let h : length (a ++ (z ∷ b)) ≡ k = simp length-append (omega arith) in
    let i : length (a ++ (x ∷ b)) ≡ k = simp length-append (omega arith) in
    let g : get_or (a ++ (z ∷ (b ++ (x ∷ r)))) k no_term ≡ x = ap (λ (l : List Term). get_or l k no_term) e ∙ get_or_at (a ++ (z ∷ b)) x r no_term k h in
    let s : set (a ++ (x ∷ (b ++ (x ∷ r)))) k z ≡ (a ++ (x ∷ b)) ++ (z ∷ r) = ap (λ (l : List Term). set l k z) f ∙ set_at (a ++ (x ∷ b)) x r z k i in
    record {
      after = b ++ (z ∷ []);
      list = rw g (rw (get_or_at a z (b ++ (x ∷ r)) no_term mid p) (rw (set_at a z (b ++ (x ∷ r)) x mid p) (rw s (simp append_assoc))));
      long = simp length-append (omega arith);
      same = shuffled-snoc b z;
    }

-- ---- the loop

pub record Sieved (p : Term → Bool) (start now : List Term) (mid k : ℕ) : Type 0 where
  pub behind : List Term
  pub whole : now ≡ filter p (take k start) ++ (behind ++ drop k start)
  pub many : length (filter p (take k start)) ≡ mid
  pub reach : mid + length behind ≡ k
  pub shuffled : Shuffled behind (filter (λ t. not (p t)) (take k start))

pub sieve-none : (p : Term → Bool) (ts : List Term) → Sieved p ts ts 0 0
sieve-none p ts = record { behind = []; whole = refl; many = refl; reach = refl; shuffled = same }

module _ (p : Term → Bool) (mid k : ℕ) (start now : List Term) (s : Sieved p start now mid k) where
  -- what the list holds up to k
  front : length (filter p (take k start) ++ s.behind) ≡ k
  front = simp length-append (omega (arith, s.many, s.reach))

  split_at : now ≡ (filter p (take k start) ++ s.behind) ++ drop k start
  split_at = s.whole ∙ sym (append_assoc (filter p (take k start)) s.behind (drop k start))

  -- a round, by whether the term x that was read is kept
  pub sieve-round : (x : Term) (kept : Bool) → k < length start → x ≡ get_or now k no_term → kept ≡ p x
      → Sieved p start (exchanged now mid k) (mid + cond kept 1 0) (k + 1)
  sieve-round x kept l r t = go kept refl
    where
      tail : drop k start ≡ get_or start k no_term ∷ drop (k + 1) start
      tail = rw add-one (drop-cons start k no_term l)

      read : get_or now k no_term ≡ get_or start k no_term
      read = ap (λ (ts : List Term). get_or ts k no_term) (split_at ∙ ap (λ (ts : List Term). (filter p (take k start) ++ s.behind) ++ ts) tail)
          ∙ get_or_at (filter p (take k start) ++ s.behind) _ (drop (k + 1) start) no_term k front

      seen : now ≡ filter p (take k start) ++ (s.behind ++ (x ∷ drop (k + 1) start))
      seen = rw (r ∙ read) (s.whole ∙ ap (λ (ts : List Term). filter p (take k start) ++ (s.behind ++ ts)) tail)

      m : Moved (filter p (take k start)) s.behind (drop (k + 1) start) x mid k
      m = moved (filter p (take k start)) s.behind (drop (k + 1) start) x mid k s.many s.reach

      more : (q : Term → Bool) (b : Bool) → b ≡ q x → filter q (take (k + 1) start) ≡ filter q (take k start) ++ cond b (x ∷ []) []
      more q b e = rw (e, r ∙ read) (filter_more q start k no_term l)

      go : (b : Bool) → kept ≡ b → Sieved p start (exchanged now mid k) (mid + cond b 1 0) (k + 1)
      go true e =
          let w = more p true (sym e ∙ t) in
          let o = more (λ u. not (p u)) false (ap not (sym e ∙ t)) in
          record {
            behind = m.after;
            whole = rw w (ap (λ (ts : List Term). exchanged ts mid k) seen ∙ m.list);
            many = rw w (simp length-append (omega (arith, s.many)));
            reach = omega (arith, m.long, s.reach);
            shuffled = rw (o, append-nil) (next m.same s.shuffled);
          }
      go false e =
          let w = more p false (sym e ∙ t) in
          let o = more (λ u. not (p u)) true (ap not (sym e ∙ t)) in
          record {
            behind = x ∷ m.after;
            whole = rw (w, append-nil) (ap (λ (ts : List Term). exchanged ts mid k) seen ∙ m.list ∙ simp append_assoc);
            many = rw (w, append-nil) (s.many ∙ sym (add-zero mid));
            reach = omega (arith, m.long, s.reach);
            shuffled = rw o (next (keep m.same) (next (shuffled-sym (shuffled-snoc s.behind x)) (shuffled-add x s.shuffled)));
          }

  pub sieve-length : k ≤ length start → length now ≡ length start
  sieve-length l = ap length split_at ∙ simp (length-append {A = Term}, length-drop {A = Term}) (omega (arith, s.many, s.reach))

  pub sieve-all : Gathers p k start mid now
  sieve-all =
      let t : take k now ≡ filter p (take k start) ++ s.behind = ap (take k) split_at ∙ take_at (filter p (take k start) ++ s.behind) _ k front in
      record {
        begins = record {
          many = s.many;
          front = ap (take mid) s.whole ∙ take_at (filter p (take k start)) _ mid s.many;
          rest = ap (drop k) split_at ∙ drop_at (filter p (take k start) ++ s.behind) _ k front;
        };
        others = rw (t, drop_at (filter p (take k start)) s.behind mid s.many) s.shuffled;
      }

-- ---- the two tests of the code

-- a term is kept whose turn is other than 0 modulo 8
abbrev pub turns : Term → Bool
turns t = not (eqb (t.turn % 8) 0)

pub nonzero-filter : (ts : List Term) → nonzero ts ≡ filter turns ts
unfolding nonzero
nonzero-filter [] = refl
nonzero-filter (t ∷ ts) = go (t.turn % 8) (nonzero-filter ts)
  where
    go : (n : ℕ) → nonzero ts ≡ filter turns ts → cond (is_none n) (nonzero ts) (t ∷ nonzero ts) ≡ cond (not (eqb n 0)) (t ∷ filter turns ts) (filter turns ts)
    go zero e = e
    go (suc n) e = rw (ne_eqb (suc n) 0 (λ q. omega arith)) (ap (λ (r : List Term). t ∷ r) e)

-- a term is kept that has the column
abbrev pub owns : ℕ → Term → Bool
owns c t = bit t.parity c

side-with : (c : ℕ) (ts : List Term) → side true c ts ≡ filter (owns c) ts
unfolding side
side-with c [] = refl
side-with c (t ∷ ts) = split (bit t.parity c) (λ h. rw h (ap (λ (r : List Term). t ∷ r) (side-with c ts))) (λ h. rw h (side-with c ts))

side-without : (c : ℕ) (ts : List Term) → side false c ts ≡ filter (λ t. not (owns c t)) ts
unfolding side
side-without c [] = refl
side-without c (t ∷ ts) = split (bit t.parity c) (λ h. rw h (side-without c ts)) (λ h. rw h (ap (λ (r : List Term). t ∷ r) (side-without c ts)))

pub sides_filter : (c n r : ℕ) (ts us : List Term) → length ts ≡ n → length us ≡ n → Gathers (owns c) n ts r us → Sides c ts us r
sides_filter c n r ts us l m g =
    let t : take n ts ≡ ts = ap (λ (j : ℕ). take j ts) (sym l) ∙ take-length ts in
    let u : take n us ≡ us = ap (λ (j : ℕ). take j us) (sym m) ∙ take-length us in
    record {
      many = rw (side-with c ts) (rw t at g.begins.many);
      ones = rw (side-with c ts) (rw t at g.begins.front);
      zeros = rw (side-without c ts) (rw (t, u) at g.others);
    }

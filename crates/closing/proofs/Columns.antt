-- The reduction, one row and one column at a time.
use mathlib.Core.Path.{◌≡◌, refl, sym, ap, ap₂, ◌∙◌}
use mathlib.Core.Bool.{Bool, true, false, cond}
use mathlib.Core.List.{List, [], ◌∷◌}
use mathlib.Core.Option.{Option, none, some, none-ne-some, some-injective}
use Prim.Native.Nat.{ℕ, zero, suc, ◌+◌, ◌-◌, ◌*◌, ◌≤◌, ◌<◌}
use native.Mathlib.Numerals.{add-one}
use native.Mathlib.Omega.{arith}
use lib.ListN.{length, get_or, length-append}
use lib.Seq.{length-take-le}
use Rattle.parity.specs.declared.Parity.{Parity}
use Rattle.parity.specs.View.{val, none as no_columns}
use Rattle.rules.specs.Bit.{bit}
use Rattle.rules.specs.Walk.{cn}
use Rattle.rules.specs.Close.{first_with, Adds, note, clear, and_then, diagonal, reduce_from}
use Rattle.rules.proofs.Bits.{split}
use Rattle.rules.proofs.Closing.{first-is}
use Rattle.rules.proofs.Counting.{size}
use Rattle.rows.specs.Rows.{rows_of, other_has}
use Rattle.rows.proofs.Room.{row_get}
use Rattle.closing.specs.Additions.{steps_of, held, wanted, Over, Made}
use Rattle.closing.proofs.Entries.{step_count}

-- ---- the diagonal

module _ (n c : ℕ) (d : Adds) where
  pub diagonal-have : bit (get_or d.rows c 0) c ≡ true → diagonal n c d ≡ some d
  unfolding diagonal
  diagonal-have e = rw e

  pub diagonal-none : bit (get_or d.rows c 0) c ≡ false → none ≡ first_with c (n - (c + 1)) (c + 1) d.rows → diagonal n c d ≡ none
  unfolding diagonal
  diagonal-none e f = rw (← add-one c, e, ← f)

  pub diagonal-give : (r : ℕ) → bit (get_or d.rows c 0) c ≡ false → some r ≡ first_with c (n - (c + 1)) (c + 1) d.rows → diagonal n c d ≡ some (note r c d)
  unfolding diagonal
  diagonal-give r e f = rw (← add-one c, e, ← f)

-- the same of what the code holds, by what it tests
module _ (m : List Parity) (room : List ℕ) (k c : ℕ) where
  pub diagonal-here : true ≡ bit (val (get_or m c no_columns)) c → diagonal (length (rows_of m)) c (held m room k) ≡ some (held m room k)
  unfolding held
  diagonal-here e = diagonal-have _ c (held m room k) (rw (row_get m c) (sym e))

  module _ (e : false ≡ bit (val (get_or m c no_columns)) c) where
    pub diagonal-nowhere : none ≡ first_with c (length (rows_of m) - (c + 1)) (c + 1) (rows_of m) → diagonal (length (rows_of m)) c (held m room k) ≡ none
    unfolding held
    diagonal-nowhere f = diagonal-none _ c (held m room k) (rw (row_get m c) (sym e)) f

    pub diagonal-donor : (r : ℕ) → some r ≡ first_with c (length (rows_of m) - (c + 1)) (c + 1) (rows_of m)
        → diagonal (length (rows_of m)) c (held m room k) ≡ some (note r c (held m room k))
    unfolding held
    diagonal-donor r f = diagonal-give _ c (held m room k) r (rw (row_get m c) (sym e)) f

pub donor-inside : (m : List ℕ) (c r : ℕ) → c < length m → some r ≡ first_with c (length m - (c + 1)) (c + 1) m → r < length m
donor-inside m c r l f = let h = first-is c (length m - (c + 1)) (c + 1) m r (sym f) in omega (arith, h.1)

-- ---- a row

pub clear_next : (n c r : ℕ) (d e : Adds) (keep : Bool) → r < n → keep ≡ other_has c r (get_or d.rows r 0) → cond keep (note c r d) d ≡ e
    → clear c (n - r) r d ≡ clear c (n - (r + 1)) (r + 1) e
unfolding clear
clear_next n c r d e keep l k f =
    let s : n - r ≡ suc (n - (r + 1)) = omega arith in
    ap (λ (j : ℕ). clear c j r d) s
    ∙ ap₂ (λ (i : ℕ) (z : Bool). clear c (n - (r + 1)) i (cond z (note c r d) d)) (sym (add-one r)) (sym k)
    ∙ ap (clear c (n - (r + 1)) (r + 1)) f

pub clear-end : (n c r : ℕ) (d : Adds) → n ≤ r → clear c (n - r) r d ≡ d
unfolding clear
clear-end n c r d l = let s : n - r ≡ 0 = omega arith in rw s

-- ---- a column

module _ (n c : ℕ) (d : Adds) where
  pub reduce-end : n ≤ c → reduce_from n (n - c) c d ≡ some d
  unfolding reduce_from
  reduce-end l = let s : n - c ≡ 0 = omega arith in rw s

  step : c < n → reduce_from n (n - c) c d ≡ and_then (diagonal n c d) (λ e. reduce_from n (n - (c + 1)) (c + 1) (clear c n zero e))
  unfolding reduce_from
  step l =
      let s : n - c ≡ suc (n - (c + 1)) = omega arith in
      ap (λ (j : ℕ). reduce_from n j c d) s ∙ rw (add-one c)

  pub reduce-next : (e : Adds) → c < n → diagonal n c d ≡ some e → reduce_from n (n - c) c d ≡ reduce_from n (n - (c + 1)) (c + 1) (clear c n zero e)
  reduce-next e l f = step l ∙ rw f

  pub reduce-stuck : c < n → diagonal n c d ≡ none → reduce_from n (n - c) c d ≡ none
  reduce-stuck l f = step l ∙ rw f

-- a column's diagonal is filled
pub column-filled : (W : Option Adds) (n c k j : ℕ) (m m' : List Parity) (room room' : List ℕ) → W ≡ reduce_from n (n - c) c (held m room k) → c < n
    → length (rows_of m) ≡ n → length (rows_of m') ≡ n → diagonal (length (rows_of m)) c (held m room k) ≡ some (held m' room' j)
    → W ≡ reduce_from n (n - (c + 1)) (c + 1) (clear c (length (rows_of m')) 0 (held m' room' j))
column-filled W n c k j m m' room room' w l s s' e = rw s' (w ∙ reduce-next n c (held m room k) (held m' room' j) l (rw s at e))

-- ---- additions are never taken back

size-note : (a b : ℕ) (d : Adds) → size (note a b d) ≡ size d + 1
size-note a b d = length-append d.adds (cn a b ∷ [])

pub clear-grows : (c k r : ℕ) (d : Adds) → size d ≤ size (clear c k r d)
unfolding clear
clear-grows c zero r d = omega arith
clear-grows c (suc k) r d =
    let next : Adds = cond (other_has c r (get_or d.rows r zero)) (note c r d) d in
    let one : size d ≤ size next = split (other_has c r (get_or d.rows r zero)) (λ e. rw e (omega (arith, size-note c r d))) (λ e. rw e (omega arith)) in
    omega (arith, clear-grows c k (suc r) next)

diagonal-grows : (n c : ℕ) (d e : Adds) → diagonal n c d ≡ some e → size d ≤ size e
unfolding diagonal
diagonal-grows n c d e f =
    split (bit (get_or d.rows c zero) c)
    (λ g. let s : d ≡ e = some-injective d e (rw g at f) in omega (arith, ap size s))
    (λ g. go (first_with c (n - suc c) (suc c) d.rows) (rw g at f))
  where
    go : (o : Option ℕ) → and_then o (λ r. some (note r c d)) ≡ some e → size d ≤ size e
    go none q = absurd (none-ne-some e q)
    go (some r) q = let s : note r c d ≡ e = some-injective (note r c d) e q in omega (arith, ap size s, size-note r c d)

over-more : (limit n k c : ℕ) (d : Adds) → limit < size d → Over limit (reduce_from n k c d)
unfolding reduce_from
over-more limit n zero c d l = l
over-more limit n (suc k) c d l = go (diagonal n c d) refl (over-more limit n k (suc c))
  where
    go : (o : Option Adds) → diagonal n c d ≡ o → ((e : Adds) → limit < size e → Over limit (reduce_from n k (suc c) e))
        → Over limit (and_then o (λ e. reduce_from n k (suc c) (clear c n zero e)))
    go none f ih = tt
    go (some e) f ih = ih (clear c n zero e) (omega (arith, diagonal-grows n c d e f, clear-grows c n zero e))

-- ---- where the loops begin, and each way out; W is what is wanted

pub start : (m : List Parity) (room : List ℕ) → wanted (rows_of m) ≡ reduce_from (length (rows_of m)) (length (rows_of m) - 0) 0 (held m room 0)
unfolding held
start m room = let s : length (rows_of m) - 0 ≡ length (rows_of m) = omega arith in rw s

pub lost-diagonal : (limit n c : ℕ) (d : Adds) (W : Option Adds) → W ≡ reduce_from n (n - c) c d → c < n → Over limit (diagonal n c d) → Over limit W
lost-diagonal limit n c d W w l h = rw (w ∙ step n c d l) (go (diagonal n c d) h)
  where
    go : (o : Option Adds) → Over limit o → Over limit (and_then o (λ e. reduce_from n (n - (c + 1)) (c + 1) (clear c n zero e)))
    go none q = tt
    go (some e) q = over-more limit n (n - (c + 1)) (c + 1) (clear c n zero e) (omega (arith, clear-grows c n zero e))

module _ (m : List Parity) (room : List ℕ) (k : ℕ) (fits : 2 * k ≤ length room) where
  pub held-size : size (held m room k) ≡ k
  unfolding held
  held-size = length-take-le k (steps_of room) (omega (arith, step_count room))

  pub lost-give : (limit n c r : ℕ) → diagonal n c (held m room k) ≡ some (note r c (held m room k)) → limit ≤ k → Over limit (diagonal n c (held m room k))
  lost-give limit n c r e l = rw e (omega (arith, held-size, size-note r c (held m room k)))

  pub lost-row : (limit n j c b i r : ℕ) (W : Option Adds) (S : Adds) → W ≡ reduce_from n j c S → S ≡ clear b i r (held m room k) → limit < k → Over limit W
  lost-row limit n j c b i r W S w s l =
      rw (w ∙ ap (reduce_from n j c) s)
      (over-more limit n j c (clear b i r (held m room k)) (omega (arith, held-size, clear-grows b i r (held m room k))))

  pub made : (limit n c : ℕ) (W : Option Adds) → W ≡ reduce_from n (n - c) c (held m room k) → n ≤ c → k ≤ limit → Made limit k W room
  unfolding held
  made limit n c W w l h =
      record { end = held m room k; whole = w ∙ reduce-end n c (held m room k) l; count = held-size; few = h; listed = refl }

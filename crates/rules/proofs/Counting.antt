-- How many additions the closing map makes: at most n to a column, so n squared in all.
use mathlib.Core.Path.{◌≡◌, refl, ap}
use mathlib.Core.Bool.{not, ◌&&◌, cond}
use mathlib.Core.List.{List, [], ◌∷◌, map, reverse}
use mathlib.Core.Option.{Option, none, some, none-ne-some, some-injective}
use Prim.Native.Nat.{ℕ, zero, suc, ◌+◌, ◌-◌, ◌*◌, ◌≤◌, ◌<◌, zero-le}
use native.Mathlib.Omega.{arith}
use lib.ListN.{length, get_or, length-append, length-reverse}
use lib.Dec.{eqb}
use Rattle.rules.specs.Bit.{bit}
use Rattle.rules.specs.Walk.{Step, cn}
use Rattle.rules.specs.Close.{first_with, and_then, Adds, note, clear, diagonal, reduce_from, eq_rows, inverse, needed, times, closing}
use Rattle.rules.proofs.Bits.{split, same}

abbrev pub size : Adds → ℕ
size m = length m.adds

size-note : (a b : ℕ) (m : Adds) → size (note a b m) ≡ size m + 1
size-note a b m = length-append m.adds (cn a b ∷ [])

clear-size : (c k r : ℕ) (m : Adds) → size (clear c k r m) ≤ size m + k
unfolding clear
clear-size c zero r m = omega arith
clear-size c (suc k) r m =
    let m' : Adds = cond (not (eqb r c) && bit (get_or m.rows r zero) c) (note c r m) m in
    let ih = clear-size c k (suc r) m' in
    let one : size m' ≤ size m + 1 =
    split (not (eqb r c) && bit (get_or m.rows r zero) c) (λ e. rw e (omega (arith, size-note c r m))) (λ e. rw e (omega arith)) in
    omega arith

-- and not to the diagonal row
clear-size-but : (c k r : ℕ) (m : Adds) → r ≤ c → c < r + k → size (clear c k r m) + 1 ≤ size m + k
unfolding clear
clear-size-but c zero r m l h = omega arith
clear-size-but c (suc k) r m l h =
    same r c
    (λ e f.
    let m' : Adds = cond (not (eqb r c) && bit (get_or m.rows r zero) c) (note c r m) m in
    let kept : m' ≡ m = rw f in
    omega (arith, clear-size c k (suc r) m', ap size kept))
    (λ e f.
    let m' : Adds = cond (not (eqb r c) && bit (get_or m.rows r zero) c) (note c r m) m in
    let ih = clear-size-but c k (suc r) m' (omega arith) (omega arith) in
    let one : size m' ≤ size m + 1 =
    split (not (eqb r c) && bit (get_or m.rows r zero) c) (λ g. rw g (omega (arith, size-note c r m))) (λ g. rw g (omega arith)) in
    omega arith)

diagonal-size : (n c : ℕ) (m d : Adds) → diagonal n c m ≡ some d → size d ≤ size m + 1
unfolding diagonal
diagonal-size n c m d e =
    split (bit (get_or m.rows c zero) c)
    (λ f. let s : m ≡ d = some-injective m d (rw f at e) in omega (arith, ap size s))
    (λ f. go (first_with c (n - suc c) (suc c) m.rows) (rw f at e))
  where
    go : (o : Option ℕ) → and_then o (λ r. some (note r c m)) ≡ some d → size d ≤ size m + 1
    go none q = absurd (none-ne-some d q)
    go (some r) q = let s : note r c m ≡ d = some-injective (note r c m) d q in omega (arith, ap size s, size-note r c m)

-- one column: the donor, and every other row
pub column-size : (n c : ℕ) (m d : Adds) → c < n → diagonal n c m ≡ some d → size (clear c n zero d) ≤ size m + n
column-size n c m d h e =
    let a = clear-size-but c n zero d zero-le (omega arith) in
    let b = diagonal-size n c m d e in
    omega arith

pub reduce-size : (n k c : ℕ) (m d : Adds) → c + k ≡ n → reduce_from n k c m ≡ some d → size d ≤ size m + n * k
unfolding reduce_from
reduce-size n zero c m d h e = let s : m ≡ d = some-injective m d e in omega (arith, ap size s)
reduce-size n (suc k) c m d h e = go (diagonal n c m) refl e (λ m' e'. reduce-size n k (suc c) m' d (omega arith) e')
  where
    go : (o : Option Adds) → diagonal n c m ≡ o → and_then o (λ z. reduce_from n k (suc c) (clear c n zero z)) ≡ some d
        → ((m' : Adds) → reduce_from n k (suc c) m' ≡ some d → size d ≤ size m' + n * k) → size d ≤ size m + n * suc k
    go none f g ih = absurd (none-ne-some d g)
    go (some z) f g ih =
        let a = ih (clear c n zero z) g in
        let b = column-size n c m z (omega arith) f in
        omega arith

pub closing-size : (from wanted : List ℕ) (ss : List Step) → closing from wanted ≡ some ss → length ss ≤ length wanted * length wanted
unfolding closing
closing-size from wanted ss e =
    split (eq_rows from wanted)
    (λ f. let s : [] ≡ ss = some-injective [] ss (rw f at e) in omega (arith, ap length s))
    (λ f. go (inverse from) (rw f at e))
  where
    Last : Option Adds → Type 0
    Last o = and_then o (λ m. some (reverse m.adds)) ≡ some ss

    go : (o : Option (List ℕ)) → Last (and_then (needed o wanted) (λ m. reduce_from (length wanted) (length wanted) zero m)) → length ss ≤ length wanted * length wanted
    go none g = absurd (none-ne-some ss g)
    go (some inv) g = more (reduce_from (length wanted) (length wanted) zero start) refl g
      where
        start : Adds
        start = record { rows = map (λ v. times v zero inv) wanted; adds = [] }

        more : (o : Option Adds) → reduce_from (length wanted) (length wanted) zero start ≡ o → Last o → length ss ≤ length wanted * length wanted
        more none f g = absurd (none-ne-some ss g)
        more (some d) f g =
            let s : reverse d.adds ≡ ss = some-injective (reverse d.adds) ss g in
            omega (arith, ap length s, length-reverse d.adds, reduce-size (length wanted) (length wanted) zero start d (omega arith) f)

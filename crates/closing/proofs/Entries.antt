-- A step room written entry by entry, and what the code holds after an addition.
--     step_count    half the numbers are the number of entries
--     step_get      an entry's two numbers are the entry
--     step_put      storing them stores the entry
--     noted         two stores write an entry, and nothing after it
--     add-held      an addition that is noted
--     row-held      a row that is added to or not: the store past the end does not count
use mathlib.Core.Path.{◌≡◌, refl, sym, ap, ap₂, ◌∙◌}
use mathlib.Core.Bool.{Bool, true, false, cond}
use mathlib.Core.List.{List, [], ◌∷◌, ◌++◌}
use Prim.Native.Nat.{ℕ, zero, suc, ◌+◌, ◌*◌, ◌/◌, ◌<◌}
use native.Mathlib.Nat.{add-zero, le_refl, not-suc-le-zero, le_of_suc-le-suc}
use native.Mathlib.Numerals.{add-one}
use native.Mathlib.Omega.{arith}
use mir.Val.{bool_byte}
use lib.ListN.{length, get_or, set, take}
use lib.Seq.{take-suc-set, take-set-le, drop-set-lt}
use Rattle.parity.specs.declared.Parity.{Parity}
use Rattle.rules.specs.Bit.{xor}
use Rattle.rules.specs.Walk.{Step, cn}
use Rattle.rules.specs.Close.{add_to, note}
use Rattle.rows.specs.Rows.{rows_of}
use Rattle.rows.proofs.Rounds.{kept-add}
use Rattle.closing.specs.Additions.{steps_of, held, Noted, Added}

pub step_count : (xs : List ℕ) → length (steps_of xs) ≡ length xs / 2
unfolding steps_of
step_count [] = refl
step_count (x ∷ []) = refl
step_count (x ∷ y ∷ xs) = let h = step_count xs in omega arith

pub step_get : (xs : List ℕ) (i : ℕ) (d : Step) → i < length (steps_of xs) → get_or (steps_of xs) i d ≡ cn (get_or xs (2 * i) 0) (get_or xs (2 * i + 1) 0)
unfolding steps_of
step_get [] i d l = absurd (not-suc-le-zero l)
step_get (x ∷ []) i d l = absurd (not-suc-le-zero l)
step_get (x ∷ y ∷ xs) zero d l = refl
step_get (x ∷ y ∷ xs) (suc i) d l =
    let e : 2 * suc i ≡ suc (suc (2 * i)) = omega arith in
    let g : 2 * suc i + 1 ≡ suc (suc (2 * i + 1)) = omega arith in
    rw (g, e) (step_get xs i d (le_of_suc-le-suc l))

step_put : (xs : List ℕ) (i a b : ℕ) → i < length (steps_of xs) → steps_of (set (set xs (2 * i) a) (2 * i + 1) b) ≡ set (steps_of xs) i (cn a b)
unfolding steps_of
step_put [] i a b l = absurd (not-suc-le-zero l)
step_put (x ∷ []) i a b l = absurd (not-suc-le-zero l)
step_put (x ∷ y ∷ xs) zero a b l = refl
step_put (x ∷ y ∷ xs) (suc i) a b l =
    let e : 2 * suc i ≡ suc (suc (2 * i)) = omega arith in
    let g : 2 * suc i + 1 ≡ suc (suc (2 * i + 1)) = omega arith in
    rw (g, e) (ap (λ (es : List Step). cn x y ∷ es) (step_put xs i a b (le_of_suc-le-suc l)))

pub noted : (room : List ℕ) (k a b : ℕ) → 2 * k + 1 < length room → Noted k a b room (set (set room (2 * k) a) (2 * k + 1) b)
noted room k a b l =
    record {
      listed = step_put room k a b (omega (arith, step_count room));
      beyond = λ j h. drop-set-lt j (set room (2 * k) a) (2 * k + 1) b h ∙ drop-set-lt j room (2 * k) a (omega arith);
    }

module _ (k : ℕ) (m m' : List Parity) (room room' : List ℕ) (from to : ℕ) (w : Noted k from to room room') where
  -- the entries before stay
  stays : take k (steps_of room') ≡ take k (steps_of room)
  stays = ap (take k) w.listed ∙ take-set-le k (steps_of room) k (cn from to) (le_refl k)

  pub same-held : rows_of m' ≡ rows_of m → held m room k ≡ held m' room' (k + 0)
  unfolding held
  same-held e = rw (add-zero k, e, stays)

  pub add-held : 2 * k + 1 < length room → rows_of m' ≡ add_to from to (rows_of m) → note from to (held m room k) ≡ held m' room' (k + 1)
  unfolding held
  add-held l e =
      let more : take (k + 1) (steps_of room') ≡ take k (steps_of room) ++ (cn from to ∷ []) =
      ap₂ take (add-one k) w.listed ∙ take-suc-set (steps_of room) k (cn from to) (omega (arith, step_count room)) in
      rw (e, more)

  -- the addition, made and noted
  pub added : 2 * k + 1 < length room → rows_of m' ≡ add_to from to (rows_of m) → Added k from to m room m' room'
  added l e = record { is = sym (add-held l e); beyond = w.beyond }

pub row-held : (c r k p : ℕ) (keep : Bool) (m m' : List Parity) (room room' : List ℕ) → Noted k c r room room' → 2 * k + 1 < length room → get_or (rows_of m) c 0 ≡ p
    → rows_of m' ≡ set (rows_of m) r (xor (get_or (rows_of m) r 0) (cond keep p 0)) → cond keep (note c r (held m room k)) (held m room k) ≡ held m' room' (k + bool_byte keep)
row-held c r k p keep m m' room room' w l ep e = go keep (e ∙ rw (← ep) (kept-add keep c r (rows_of m)))
  where
    go : (b : Bool) → rows_of m' ≡ cond b (add_to c r (rows_of m)) (rows_of m) → cond b (note c r (held m room k)) (held m room k) ≡ held m' room' (k + bool_byte b)
    go true f = add-held k m m' room room' c r w l f
    go false f = same-held k m m' room room' c r w f

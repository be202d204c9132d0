-- The answer that a program computes, by rows and by sums of turns, is the answer.
use mathlib.Core.Path.{◌≡◌, refl, sym, ap, ap₂, ◌∙◌}
use mathlib.Core.Logic.{◌↔◌}
use mathlib.Core.Bool.{Bool, true, false, ◌&&◌, cond}
use mathlib.Core.List.{List, [], ◌∷◌}
use Prim.Native.Nat.{ℕ, zero, ◌+◌, ◌-◌, ◌%◌, ◌^◌, ◌<◌}
use native.Mathlib.Omega.{arith}
use lib.ListN.{length}
use lib.Seq.{ext_get_or}
use lib.Dec.{eqb}
use lib.Pow.{pow-lt, pow_pos}
use borrow.Author.Tests.{eq-eqb, eqb-true}
use Rattle.rules.specs.Bit.{◌⊕◌, bit, xor, dot}
use Rattle.rules.specs.Meaning.{Op, flip, phase, cnot, cz, other, wires, phases, when1}
use Rattle.rules.specs.Fold.{Term, signed}
use Rattle.rules.specs.Close.{eq_rows}
use Rattle.rules.proofs.Bits.{and_left, and_right, ⊕-false, xor_lt}
use Rattle.rules.proofs.Closing.{at, at-add_to, length-add_to, at-units, length-units}
use Rattle.rules.proofs.Bounds.{digits-eq}
use Rattle.acting.specs.Alike.{Setting, zeros, turned, Below, AllBelow, SameMap, SameFlips, SamePhase, enters, first, map_test, flips_test, phase_test, verdict}
use Rattle.acting.specs.Table.{Table, begin, act, table_of, map_of, flips_of, turns_of, minus, apart, total, quiet, computed}
use Rattle.acting.proofs.Differences.{unit, cut}
use Rattle.acting.proofs.Affine.{phases-cut}
use Rattle.acting.proofs.Deciding.{At, at-phase, phase-at, map-singles, map-sound, map-complete, flips-below, flips-sound, flips-complete, phase-sound, phase-complete, wires-same, same-wires}
use Rattle.acting.proofs.Tables.{dot-zeros, dot-one, Shows, begin-shows, table-shows, lost_of, total-append, plus-mod, phases-load}
use Rattle.acting.proofs.Turns.{Silent, silent-even, even-silent, quiet-even, even-quiet, total-none}

-- ---- parities of n wires are below 2 ^ n

module _ (n : ℕ) where
  pub record Small (b : Table) : Type 0 where
    pub size : length b.held ≡ n
    pub rows : (q : ℕ) → q < n → at b.held q < 2 ^ n
    pub flips : b.flips < 2 ^ n

  begin-small : Small (begin n)
  unfolding begin
  begin-small = record {
    size = length-units n zero;
    rows = λ q l. rw (at-units n zero q l) (pow-lt (omega arith));
    flips = pow_pos n;
  }

  act-small : (o : Op) (b : Table) → Below n o → Small b → Small (act o b)
  unfolding act
  act-small (flip q) b l h = record { size = h.size; rows = h.rows; flips = xor_lt n b.flips (2 ^ q) h.flips (pow-lt l) }
  act-small (phase k q) b l h = h
  act-small (cnot c t) b l h = record {
    size = length-add_to c t b.held ∙ h.size;
    rows = λ q k. rw (at-add_to c t q b.held (omega (arith, h.size, l.1))) (go (eqb q t) q k);
    flips = xor_lt n b.flips (cond (bit b.flips c) (2 ^ t) zero) h.flips (picked (bit b.flips c));
  }
    where
      go : (e : Bool) (q : ℕ) → q < n → cond e (xor (at b.held t) (at b.held c)) (at b.held q) < 2 ^ n
      go true q k = xor_lt n (at b.held t) (at b.held c) (h.rows t l.1) (h.rows c l.0)
      go false q k = h.rows q k

      picked : (e : Bool) → cond e (2 ^ t) zero < 2 ^ n
      picked true = pow-lt l.1
      picked false = pow_pos n
  act-small (cz c t) b l h = h
  act-small other b l h = h

  table-small : (os : List Op) (b : Table) → AllBelow n os → Small b → Small (table_of os b)
  unfolding table_of AllBelow
  table-small [] b l h = h
  table-small (o ∷ os) b l h = table-small os (act o b) l.1 (act-small o b l.0 h)

-- equal lists of rows
rows_eq : (a b : List ℕ) → eq_rows a b ≡ true → a ≡ b
unfolding eq_rows
rows_eq [] [] e = refl
rows_eq [] (y ∷ ys) e = absurd (mathlib.Core.Bool.false≢true e)
rows_eq (x ∷ xs) [] e = absurd (mathlib.Core.Bool.false≢true e)
rows_eq (x ∷ xs) (y ∷ ys) e = ap₂ (λ (h : ℕ) (l : List ℕ). h ∷ l) (eqb-true x y (and_left (eqb x y) (eq_rows xs ys) e)) (rows_eq xs ys (and_right (eqb x y) (eq_rows xs ys) e))

eq-rows : (a : List ℕ) → eq_rows a a ≡ true
unfolding eq_rows
eq-rows [] = refl
eq-rows (x ∷ xs) = rw (eq-eqb x x refl, eq-rows xs)

-- ---- the rows are the linear map, and the constants the flips

module _ (n : ℕ) (os : List Op) (b : AllBelow n os) where
  shows : (s : Setting) → Shows n s (table_of os (begin n)) (wires os s)
  shows s = table-shows n s os (begin n) s b (begin-shows n s)

  small : Small n (table_of os (begin n))
  small = table-small n os (begin n) b (begin-small n)

  pub flips-are : (q : ℕ) → q < n → bit (flips_of n os) q ≡ wires os zeros q
  unfolding flips_of
  flips-are q l = sym ((shows zeros).value q l ∙ ap (λ (z : Bool). z ⊕ bit (table_of os (begin n)).flips q) (dot-zeros n (at (table_of os (begin n)).held q)))

  pub rows_are : (q i : ℕ) → q < n → i < n → bit (at (map_of n os) q) i ≡ enters os i q
  unfolding map_of enters
  rows_are q i l k =
      sym (ap₂ ◌⊕◌ ((shows zeros).value q l) ((shows (unit i)).value q l)
      ∙ ap₂ (λ (y z : Bool). (y ⊕ bit (table_of os (begin n)).flips q) ⊕ (z ⊕ bit (table_of os (begin n)).flips q))
      (dot-zeros n (at (table_of os (begin n)).held q)) (dot-one n (at (table_of os (begin n)).held q) i k)
      ∙ cancel (bit (table_of os (begin n)).flips q) (bit (at (table_of os (begin n)).held q) i))
    where
      cancel : (f d : Bool) → (f ⊕ (d ⊕ f)) ≡ d
      cancel true true = refl
      cancel true false = refl
      cancel false d = ⊕-false d

  turns-are : (s : Setting) → phases os s % 8 ≡ (lost_of os (begin n) + total (λ p. dot n p s) (turns_of os (begin n))) % 8
  turns-are s = phases-load n s os (begin n) s b (begin-shows n s)

-- two tests of one thing
pub agree : (a b : Bool) → (a ≡ true → b ≡ true) → (b ≡ true → a ≡ true) → a ≡ b
agree true b f g = sym (f refl)
agree false true f g = g refl
agree false false f g = refl

-- ---- the turns of two runs

total-minus : (sel : ℕ → Bool) (ts : List Term) → (total sel (minus ts) + total sel ts) % 8 ≡ 0
unfolding total minus
total-minus sel [] = refl
total-minus sel (t ∷ ts) = go (sel t.parity) t.turn (total sel (minus ts)) (total sel ts) (total-minus sel ts)
  where
    negated : (k : ℕ) → ((8 - k % 8) % 8 + k) % 8 ≡ 0
    negated k = omega arith

    regroup : (a b c d : ℕ) → a + b + (c + d) ≡ a + c + (b + d)
    regroup a b c d = omega arith

    go : (e : Bool) (k x y : ℕ) → (x + y) % 8 ≡ 0 → (when1 e (signed true k) + x + (when1 e k + y)) % 8 ≡ 0
    go true k x y h = ap (λ (z : ℕ). z % 8) (regroup ((8 - k % 8) % 8) x k y) ∙ plus-mod ((8 - k % 8) % 8 + k) 0 (x + y) 0 (negated k) h
    go false k x y h = ap (λ (z : ℕ). z % 8) (regroup 0 x 0 y) ∙ plus-mod (0 + 0) 0 (x + y) 0 refl h

module _ (n : ℕ) (us vs : List Op) (bu : AllBelow n us) (bv : AllBelow n vs) where
  tu : Setting → ℕ
  tu s = total (λ p. dot n p s) (turns_of us (begin n))

  tv : Setting → ℕ
  tv s = total (λ p. dot n p s) (turns_of vs (begin n))

  -- what the turns of both make at s
  load : Setting → ℕ
  load s = total (λ p. dot n p s) (apart n us vs)

  load_is : (s : Setting) → (load s + tv s) % 8 ≡ tu s % 8
  unfolding load apart tu tv
  load_is s =
      ap (λ (z : ℕ). (z + tv s) % 8) (total-append (λ p. dot n p s) (turns_of us (begin n)) (minus (turns_of vs (begin n))))
      ∙ go (tu s) (total (λ p. dot n p s) (minus (turns_of vs (begin n)))) (tv s) (total-minus (λ p. dot n p s) (turns_of vs (begin n)))
    where
      go : (a x y : ℕ) → (x + y) % 8 ≡ 0 → (a + x + y) % 8 ≡ a % 8
      go a x y h = omega arith

  lost : ℕ
  lost = lost_of us (begin n) + lost_of vs (begin n)

  left : (s : Setting) → (phases us s + phases vs zeros) % 8 ≡ (lost + tu s) % 8
  unfolding lost tu tv
  left s =
      plus-mod (phases us s) (lost_of us (begin n) + tu s) (phases vs zeros) (lost_of vs (begin n) + tv zeros) (turns-are n us bu s) (turns-are n vs bv zeros)
      ∙ go (lost_of us (begin n)) (tu s) (lost_of vs (begin n)) (tv zeros) (total-none (λ p. dot n p zeros) (turns_of vs (begin n)) (dot-zeros n))
    where
      go : (a x c y : ℕ) → y ≡ zero → (a + x + (c + y)) % 8 ≡ (a + c + x) % 8
      go a x c y e = rw e (omega arith)

  right : (s : Setting) → (phases vs s + phases us zeros) % 8 ≡ (lost + tv s) % 8
  unfolding lost tu tv
  right s =
      plus-mod (phases vs s) (lost_of vs (begin n) + tv s) (phases us zeros) (lost_of us (begin n) + tu zeros) (turns-are n vs bv s) (turns-are n us bu zeros)
      ∙ go (lost_of vs (begin n)) (tv s) (lost_of us (begin n)) (tu zeros) (total-none (λ p. dot n p zeros) (turns_of us (begin n)) (dot-zeros n))
    where
      go : (a x c y : ℕ) → y ≡ zero → (a + x + (c + y)) % 8 ≡ (c + a + x) % 8
      go a x c y e = rw e (omega arith)

  at_load : (s : Setting) → At us vs s → load s % 8 ≡ 0
  at_load s h = drop (load s) (tv s) (load_is s ∙ cancel lost (tu s) (tv s) (sym (left s) ∙ h ∙ right s))
    where
      cancel : (c a b : ℕ) → (c + a) % 8 ≡ (c + b) % 8 → a % 8 ≡ b % 8
      cancel c a b h = omega arith

      drop : (x y : ℕ) → (x + y) % 8 ≡ y % 8 → x % 8 ≡ 0
      drop x y h = omega arith

  load_at : (s : Setting) → load s % 8 ≡ 0 → At us vs s
  load_at s h = left s ∙ plus-mod lost lost (tu s) (tv s) refl (sym (load_is s) ∙ drop (load s) (tv s) h) ∙ sym (right s)
    where
      drop : (x y : ℕ) → x % 8 ≡ 0 → (x + y) % 8 ≡ y % 8
      drop x y h = omega arith

  -- ---- test by test

  pub quiet-phase : quiet n (apart n us vs) ≡ true → SamePhase us vs
  unfolding load Silent
  quiet-phase h = at-phase n us vs bu bv (λ s. rw (phases-cut n us s bu, phases-cut n vs s bv) at (load_at (cut n s) (even-silent n (apart n us vs) (quiet-even n (apart n us vs) h) s)))

  pub phase-quiet : SamePhase us vs → quiet n (apart n us vs) ≡ true
  unfolding load Silent
  phase-quiet p = even-quiet n (apart n us vs) (silent-even n (apart n us vs) (λ s. at_load (cut n s) (phase-at n us vs bu bv p (cut n s))))

  -- LINEAR MAP: the same rows; FLIPS: the same constants
  pub same_rows : map_of n us ≡ map_of n vs → SameMap us vs
  same_rows e = map-singles n us vs bu bv (λ i q k l. sym (rows_are n us bu q i l k) ∙ ap (λ (m : List ℕ). bit (at m q) i) e ∙ rows_are n vs bv q i l k)

  pub rows_same : SameMap us vs → map_of n us ≡ map_of n vs
  unfolding map_of enters
  rows_same m =
      let u : Small n (table_of us (begin n)) = small n us bu in
      let v : Small n (table_of vs (begin n)) = small n vs bv in
      ext_get_or zero (map_of n us) (map_of n vs) (u.size ∙ sym v.size)
      (λ q k. let l : q < n = omega (arith, u.size) in
      digits-eq n (at (map_of n us) q) (at (map_of n vs) q) (u.rows q l) (v.rows q l)
      (λ i o. rows_are n us bu q i l o ∙ m.between zeros (turned i zeros) q ∙ sym (rows_are n vs bv q i l o)))

  pub same-constants : flips_of n us ≡ flips_of n vs → SameFlips us vs
  same-constants e = flips-below n us vs bu bv (λ q l. sym (flips-are n us bu q l) ∙ ap (λ (f : ℕ). bit f q) e ∙ flips-are n vs bv q l)

  pub constants-same : SameFlips us vs → flips_of n us ≡ flips_of n vs
  unfolding flips_of
  constants-same f =
      digits-eq n (flips_of n us) (flips_of n vs) (small n us bu).flips (small n vs bv).flips
      (λ q l. flips-are n us bu q l ∙ f.zeroed q ∙ sym (flips-are n vs bv q l))

  -- where the settings go, by rows and constants
  pub wires-iff : ((s : Setting) (q : ℕ) → wires us s q ≡ wires vs s q) ↔ ((map_of n us ≡ map_of n vs) × (flips_of n us ≡ flips_of n vs))
  wires-iff = (
    λ h. (rows_same (same-wires us vs h).0, constants-same (same-wires us vs h).1),
    λ h. wires-same us vs (same_rows h.0) (same-constants h.1),
  )

  -- THE ANSWER COMPUTED is the answer
  pub computed-verdict : computed n us vs ≡ verdict n us vs
  unfolding computed verdict
  computed-verdict =
      cong3 (agree (eq_rows (map_of n us) (map_of n vs)) (map_test n us vs) (λ e. map-complete n us vs bu bv (same_rows (rows_eq (map_of n us) (map_of n vs) e)))
      (λ e. rows_true (rows_same (map-sound n us vs bu bv e))))
      (agree (eqb (flips_of n us) (flips_of n vs)) (flips_test n us vs) (λ e. flips-complete n us vs bu bv (same-constants (eqb-true (flips_of n us) (flips_of n vs) e)))
      (λ e. eq-eqb (flips_of n us) (flips_of n vs) (constants-same (flips-sound n us vs bu bv e))))
      (agree (quiet n (apart n us vs)) (phase_test n us vs) (λ e. phase-complete n us vs bu bv (quiet-phase e)) (λ e. phase-quiet (phase-sound n us vs bu bv e)))
    where
      rows_true : map_of n us ≡ map_of n vs → eq_rows (map_of n us) (map_of n vs) ≡ true
      rows_true e = ap (λ (m : List ℕ). eq_rows m (map_of n vs)) e ∙ eq-rows (map_of n vs)

      cong3 : {a b c x y z : Bool} → a ≡ x → b ≡ y → c ≡ z → first a b c ≡ first x y z
      cong3 {a} {b} {c} {x} {y} {z} e f g = rw (e, f, g)

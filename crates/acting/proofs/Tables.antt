-- A table of rows holds what the wires hold, and the turns weigh what the gates add.
use mathlib.Core.Path.{◌≡◌, refl, sym, ap, ap₂, ◌∙◌}
use mathlib.Core.Bool.{Bool, true, false, ◌&&◌, cond, and-false, and_comm}
use mathlib.Core.List.{List, [], ◌∷◌, ◌++◌}
use Prim.Native.Nat.{ℕ, zero, ◌+◌, ◌-◌, ◌%◌, ◌^◌, ◌<◌}
use native.Mathlib.Omega.{arith}
use lib.ListN.{length}
use lib.Dec.{eqb}
use Rattle.rules.specs.Bit.{◌⊕◌, bit, dot}
use Rattle.rules.specs.Meaning.{Op, flip, phase, cnot, cz, other, moved, added, wires, phases, when1}
use Rattle.rules.specs.Fold.{Term, signed}
use Rattle.rules.proofs.Bits.{⊕-false, ⊕-assoc, ⊕-mid, bit_xor, bit-unit, bit-zero, sum-ext, sum-false, sum-at, dot-xor, dot-unit}
use Rattle.rules.proofs.Closing.{at, dot-add_to, length-add_to, at-units, length-units}
use Rattle.acting.specs.Alike.{Setting, zeros, Below, AllBelow}
use Rattle.acting.specs.Table.{Table, begin, act, table_of, turns, turns_of, total}
use Rattle.acting.proofs.Differences.{unit}

-- ---- a parity of the zeros, of a single one, of a sum

pub dot-zeros : (n p : ℕ) → dot n p zeros ≡ false
unfolding dot
dot-zeros n p = sum-false n (λ i. bit p i && false) (λ i k. and-false (bit p i))

pub dot-one : (n p i : ℕ) → i < n → dot n p (unit i) ≡ bit p i
unfolding dot
dot-one n p i h = sum-ext n (λ j. bit p j && eqb j i) (λ j. eqb j i && bit p j) (λ j k. and_comm (bit p j) (eqb j i)) ∙ sum-at n i (bit p) h

-- ---- the rows

module _ (n : ℕ) (s : Setting) where
  pub record Shows (b : Table) (w : Setting) : Type 0 where
    pub size : length b.held ≡ n
    pub value : (q : ℕ) → q < n → w q ≡ (dot n (at b.held q) s ⊕ bit b.flips q)

  pub begin-shows : Shows (begin n) s
  unfolding begin
  begin-shows = record {
    size = length-units n zero;
    value = λ q l. sym (ap₂ ◌⊕◌ (ap (λ (z : ℕ). dot n z s) (at-units n zero q l ∙ ap (λ (z : ℕ). 2 ^ z) (plus q)) ∙ dot-unit n q s l) (bit-zero q) ∙ ⊕-false (s q));
  }
    where
      plus : (q : ℕ) → zero + q ≡ q
      plus q = omega arith

  act-shows : (o : Op) (b : Table) (w : Setting) → Below n o → Shows b w → Shows (act o b) (moved o w)
  unfolding act moved
  act-shows (flip a) b w l h = record {
    size = h.size;
    value = λ q k. ap (λ (z : Bool). cond (eqb q a) (z ⊕ true) z) (h.value q k) ∙ go (dot n (at b.held q) s) (bit b.flips q) (eqb q a)
        ∙ sym (ap (λ (z : Bool). dot n (at b.held q) s ⊕ z) (bit_xor b.flips (2 ^ a) q ∙ ap (λ (z : Bool). bit b.flips q ⊕ z) (bit-unit a q)));
  }
    where
      go : (d f e : Bool) → cond e (d ⊕ f ⊕ true) (d ⊕ f) ≡ (d ⊕ (f ⊕ e))
      go d f true = ⊕-assoc d f true
      go d f false = ap (λ (z : Bool). d ⊕ z) (sym (⊕-false f))
  act-shows (phase k a) b w l h = h
  act-shows (cnot c t) b w l h = record {
    size = length-add_to c t b.held ∙ h.size;
    value = λ q k. ap₂ (λ (z y : Bool). cond (eqb q t) (z ⊕ y) z) (h.value q k) (h.value c l.0)
        ∙ go (dot n (at b.held q) s) (bit b.flips q) (dot n (at b.held c) s) (bit b.flips c) (eqb q t)
        ∙ sym (ap₂ ◌⊕◌ (dot-add_to n c t q b.held s (omega (arith, h.size, l.1))) (bit_xor b.flips (cond (bit b.flips c) (2 ^ t) zero) q ∙ ap (λ (z : Bool). bit b.flips q ⊕ z) (bit-cond (bit b.flips c) t q)));
  }
    where
      bit-cond : (e : Bool) (t q : ℕ) → bit (cond e (2 ^ t) zero) q ≡ (eqb q t && e)
      bit-cond true t q = bit-unit t q ∙ sym (and_comm (eqb q t) true)
      bit-cond false t q = bit-zero q ∙ sym (and-false (eqb q t))

      go : (d f x y e : Bool) → cond e (d ⊕ f ⊕ (x ⊕ y)) (d ⊕ f) ≡ (cond e (d ⊕ x) d ⊕ (f ⊕ (e && y)))
      go d f x y true = ⊕-mid d f x y
      go d f x y false = ap (λ (z : Bool). d ⊕ z) (sym (⊕-false f))
  act-shows (cz c t) b w l h = h
  act-shows other b w l h = h

  pub table-shows : (os : List Op) (b : Table) (w : Setting) → AllBelow n os → Shows b w → Shows (table_of os b) (wires os w)
  unfolding table_of wires AllBelow
  table-shows [] b w l h = h
  table-shows (o ∷ os) b w l h = table-shows os (act o b) (moved o w) l.1 (act-shows o b w l.0 h)

  -- ---- the turns

  -- the sum of the turns on odd parities
  abbrev pub load : List Term → ℕ
  load ts = total (λ p. dot n p s) ts

-- what the constants leave behind
unfoldable pub lost_at : Op → Table → ℕ
lost_at (flip q) b = zero
lost_at (phase k q) b = when1 (bit b.flips q) k
lost_at (cnot c t) b = zero
lost_at (cz c t) b = when1 (bit b.flips c) 2 + when1 (bit b.flips t) 2 + when1 (bit b.flips c ⊕ bit b.flips t) 6
lost_at other b = zero

unfoldable pub lost_of : List Op → Table → ℕ
unfolding lost_at
lost_of [] b = zero
lost_of (o ∷ os) b = lost_at o b + lost_of os (act o b)

pub total-append : (sel : ℕ → Bool) (ts us : List Term) → total sel (ts ++ us) ≡ total sel ts + total sel us
unfolding total
total-append sel [] us = plus (total sel us)
  where
    plus : (a : ℕ) → a ≡ zero + a
    plus a = omega arith
total-append sel (t ∷ ts) us = rw (total-append sel ts us) (plus (when1 (sel t.parity) t.turn) (total sel ts) (total sel us))
  where
    plus : (a b c : ℕ) → a + (b + c) ≡ a + b + c
    plus a b c = omega arith

turn_one : (d f : Bool) (k : ℕ) → when1 (d ⊕ f) k % 8 ≡ (when1 f k + when1 d (signed f k)) % 8
turn_one true true k = sym (negated k)
  where
    negated : (k : ℕ) → (k + (8 - k % 8) % 8) % 8 ≡ 0
    negated k = omega arith
turn_one true false k = omega arith
turn_one false true k = omega arith
turn_one false false k = omega arith

pub plus-mod : (a b c d : ℕ) → a % 8 ≡ b % 8 → c % 8 ≡ d % 8 → (a + c) % 8 ≡ (b + d) % 8
plus-mod a b c d h k = one ∙ two
  where
    one : (a + c) % 8 ≡ (b + c) % 8
    one = omega arith

    two : (b + c) % 8 ≡ (b + d) % 8
    two = omega arith

module _ (n : ℕ) (s : Setting) where
  turns-load : (o : Op) (b : Table) (w : Setting) → Below n o → Shows n s b w → added o w % 8 ≡ (lost_at o b + load n s (turns o b)) % 8
  unfolding added turns lost_at total
  turns-load (flip q) b w l h = refl
  turns-load (phase k q) b w l h =
      ap (λ (z : Bool). when1 z k % 8) (h.value q l) ∙ turn_one (dot n (at b.held q) s) (bit b.flips q) k
      ∙ ap (λ (z : ℕ). (when1 (bit b.flips q) k + z) % 8) (plus (when1 (dot n (at b.held q) s) (signed (bit b.flips q) k)))
    where
      plus : (a : ℕ) → a ≡ a + zero
      plus a = omega arith
  turns-load (cnot c t) b w l h = refl
  turns-load (cz c t) b w l h =
      let x : Bool = dot n (at b.held c) s in
      let y : Bool = dot n (at b.held t) s in
      let e : Bool = bit b.flips c in
      let f : Bool = bit b.flips t in
      ap₂ (λ (u v : Bool). when1 (u && v) 4 % 8) (h.value c l.0) (h.value t l.1)
      ∙ go x y e f
      ∙ ap (λ (z : Bool). (when1 e 2 + when1 f 2 + when1 (e ⊕ f) 6 + (when1 x (signed e 2) + (when1 y (signed f 2) + (when1 z (signed (e ⊕ f) 6) + zero)))) % 8) (sym (dot-xor n (at b.held c) (at b.held t) s))
    where
      go : (x y e f : Bool) → when1 ((x ⊕ e) && (y ⊕ f)) 4 % 8
          ≡ (when1 e 2 + when1 f 2 + when1 (e ⊕ f) 6 + (when1 x (signed e 2) + (when1 y (signed f 2) + (when1 (x ⊕ y) (signed (e ⊕ f) 6) + zero)))) % 8
      go true true true true = refl
      go true true true false = refl
      go true true false true = refl
      go true true false false = refl
      go true false true true = refl
      go true false true false = refl
      go true false false true = refl
      go true false false false = refl
      go false true true true = refl
      go false true true false = refl
      go false true false true = refl
      go false true false false = refl
      go false false true true = refl
      go false false true false = refl
      go false false false true = refl
      go false false false false = refl
  turns-load other b w l h = refl

  pub phases-load : (os : List Op) (b : Table) (w : Setting) → AllBelow n os → Shows n s b w → phases os w % 8 ≡ (lost_of os b + load n s (turns_of os b)) % 8
  unfolding phases turns_of lost_of AllBelow total
  phases-load [] b w l h = refl
  phases-load (o ∷ os) b w l h =
      plus-mod (added o w) (lost_at o b + load n s (turns o b)) (phases os (moved o w)) (lost_of os (act o b) + load n s (turns_of os (act o b)))
      (turns-load o b w l.0 h) (phases-load os (act o b) (moved o w) l.1 (act-shows n s o b w l.0 h))
      ∙ ap (λ (z : ℕ). z % 8) (regroup (lost_at o b) (load n s (turns o b)) (lost_of os (act o b)) (load n s (turns_of os (act o b)))
      ∙ ap (λ (z : ℕ). lost_at o b + lost_of os (act o b) + z) (sym (total-append (λ p. dot n p s) (turns o b) (turns_of os (act o b)))))
    where
      regroup : (a x c y : ℕ) → a + x + (c + y) ≡ a + c + (x + y)
      regroup a x c y = omega arith

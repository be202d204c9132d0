-- A turn on a parity, noted: what the sums then are.
use mathlib.Core.Path.{◌≡◌, refl, sym, ap, ap₂, ◌∙◌}
use mathlib.Core.Bool.{Bool, true, false, ◌&&◌, cond, and-true, and-false}
use mathlib.Core.List.{List, [], ◌∷◌, ◌++◌, append_assoc, append-nil}
use Prim.Native.Nat.{ℕ, zero, suc, ◌+◌, ◌/◌, ◌%◌, ◌<◌}
use native.Mathlib.Nat.{mod-lt, zero-lt-suc}
use native.Mathlib.Omega.{arith}
use lib.ListN.{length, get_or}
use lib.Dec.{eqb}
use borrow.Author.Tests.{eq-eqb, ne_eqb}
use Rattle.rules.specs.Bit.{◌⊕◌, bit, xor}
use Rattle.rules.specs.Meaning.{when1}
use Rattle.rules.specs.Fold.{Term}
use Rattle.rules.proofs.Bits.{same, bit_xor, bit-zero}
use Rattle.parity.specs.View.{val}
use Rattle.rows.specs.Rows.{rows_of}
use Rattle.acting.specs.Table.{total}
use Rattle.acting.proofs.Tables.{total-append}
use Rattle.lanes.specs.Lanes.{half, near, Beside, term, two, three, odd, Holds, Adds, None, Notes}
use Rattle.lanes.specs.declared.Lanes.{Lanes}

-- ---- digits of a sum

pub odd-plus : (a b : ℕ) → odd (a + b) ≡ (odd a ⊕ odd b)
unfolding odd
odd-plus a b =
    same (a % 2) 1
    (λ e f. rw f (same (b % 2) 1 (λ g h. rw h (ne_eqb ((a + b) % 2) 1 (λ k. omega arith))) (λ g h. rw h (eq-eqb ((a + b) % 2) 1 (omega (arith, mod-lt b {m = 2} (zero-lt-suc 1)))))))
    (λ e f. rw f (same (b % 2) 1 (λ g h. rw h (eq-eqb ((a + b) % 2) 1 (omega (arith, mod-lt a {m = 2} (zero-lt-suc 1))))) (λ g h. rw h (ne_eqb ((a + b) % 2) 1 (λ k. omega arith)))))

-- the carry
digits : (x y : ℕ) → x < 2 → y < 2 → odd ((x + y) / 2) ≡ (eqb x 1 && eqb y 1)
unfolding odd
digits zero zero h k = refl
digits zero (suc zero) h k = refl
digits zero (suc (suc y)) h k = absurd (omega arith)
digits (suc zero) zero h k = refl
digits (suc zero) (suc zero) h k = refl
digits (suc zero) (suc (suc y)) h k = absurd (omega arith)
digits (suc (suc x)) y h k = absurd (omega arith)

carry : (a b : ℕ) → odd ((a % 2 + b % 2) / 2) ≡ (odd a && odd b)
unfolding odd
carry a b = digits (a % 2) (b % 2) (mod-lt a {m = 2} (zero-lt-suc 1)) (mod-lt b {m = 2} (zero-lt-suc 1))

half-plus : (a b : ℕ) → odd ((a + b) / 2) ≡ (odd (a / 2) ⊕ (odd a && odd b) ⊕ odd (b / 2))
half-plus a b =
    ap odd (parts a b) ∙ odd-plus (a / 2 + (a % 2 + b % 2) / 2) (b / 2)
    ∙ ap (λ (z : Bool). z ⊕ odd (b / 2)) (odd-plus (a / 2) ((a % 2 + b % 2) / 2) ∙ ap (λ (z : Bool). odd (a / 2) ⊕ z) (carry a b))
  where
    parts : (a b : ℕ) → (a + b) / 2 ≡ a / 2 + (a % 2 + b % 2) / 2 + b / 2
    parts a b = omega arith

-- ---- what one turn adds to a selection

one_bit : (o : Bool) (p j : ℕ) → bit (cond o p zero) j ≡ (o && bit p j)
one_bit true p j = refl
one_bit false p j = bit-zero j

picks : (x y : Bool) (k : ℕ) → (odd (when1 x k) && y) ≡ odd (when1 (x && y) k)
unfolding odd
picks true true k = and-true (eqb (k % 2) 1)
picks true false k = and-false (eqb (k % 2) 1)
picks false y k = refl

picks-half : (x y : Bool) (k : ℕ) → (odd (when1 x k / 2) && y) ≡ odd (when1 (x && y) k / 2)
unfolding odd
picks-half true true k = and-true (eqb (k / 2 % 2) 1)
picks-half true false k = and-false (eqb (k / 2 % 2) 1)
picks-half false y k = refl

picks-two : (x y z : Bool) (k : ℕ) → (odd (when1 (x && y) k) && z) ≡ odd (when1 (x && y && z) k)
picks-two true y z k = picks y z k
picks-two false y z k = picks false z k

total-snoc : (sel : ℕ → Bool) (ts : List Term) (p k : ℕ) → total sel (ts ++ (term p k ∷ [])) ≡ total sel ts + when1 (sel p) k
unfolding total
total-snoc sel ts p k = total-append sel ts (term p k ∷ []) ∙ plus (total sel ts) (when1 (sel p) k)
  where
    plus : (a b : ℕ) → a + (b + zero) ≡ a + b
    plus a b = omega arith

-- ---- the sums

module _ (i p k : ℕ) (s r : Lanes) where
  pub noted : (turn one two' both chosen : ℕ) → turn ≡ when1 (bit p i) k → one ≡ cond (eqb (turn % 2) 1) p zero → two' ≡ cond (eqb (turn / 2 % 2) 1) p zero
      → r.turn ≡ (s.turn + turn) % 8 → val r.low ≡ xor (val s.low) one
      → ((j : ℕ) → bit both j ≡ (bit (val s.low) j && bit one j)) → val r.high ≡ xor (xor (val s.high) both) two'
      → Beside one i chosen → length (rows_of s.odds) ≡ half → Adds chosen p (rows_of s.odds) (rows_of r.odds) → Notes i (term p k ∷ []) s r
  unfolding odd
  noted turn one two' both chosen et e1 e2 er el hb eh b size adds = record { holds = λ ts h. record { turn = turned ts h; low = lows ts h; high = highs ts h; rows = rowed ts h } }
    where
      turned : (ts : List Term) → Holds i ts s → r.turn ≡ total (λ q. bit q i) (ts ++ (term p k ∷ [])) % 8
      turned ts h =
          er ∙ ap₂ (λ (x y : ℕ). (x + y) % 8) h.turn et ∙ drop (total (λ q. bit q i) ts) (when1 (bit p i) k)
          ∙ ap (λ (z : ℕ). z % 8) (sym (total-snoc (λ q. bit q i) ts p k))
        where
          drop : (x y : ℕ) → (x % 8 + y) % 8 ≡ (x + y) % 8
          drop x y = omega arith

      one-is : (j : ℕ) → bit one j ≡ odd (when1 (two i j p) k)
      one-is j = rw (e1, et) (one_bit (odd (when1 (bit p i) k)) p j ∙ picks (bit p i) (bit p j) k)

      two_is : (j : ℕ) → bit two' j ≡ odd (when1 (two i j p) k / 2)
      two_is j = rw (e2, et) (one_bit (odd (when1 (bit p i) k / 2)) p j ∙ picks-half (bit p i) (bit p j) k)

      lows : (ts : List Term) → Holds i ts s → (j : ℕ) → bit (val r.low) j ≡ odd (total (two i j) (ts ++ (term p k ∷ [])))
      lows ts h j =
          ap (λ (z : ℕ). bit z j) el ∙ bit_xor (val s.low) one j ∙ ap₂ ◌⊕◌ (h.low j) (one-is j)
          ∙ sym (odd-plus (total (two i j) ts) (when1 (two i j p) k)) ∙ ap odd (sym (total-snoc (two i j) ts p k))

      highs : (ts : List Term) → Holds i ts s → (j : ℕ) → bit (val r.high) j ≡ odd (total (two i j) (ts ++ (term p k ∷ [])) / 2)
      highs ts h j =
          ap (λ (z : ℕ). bit z j) eh ∙ bit_xor (xor (val s.high) both) two' j
          ∙ ap₂ ◌⊕◌ (bit_xor (val s.high) both j ∙ ap₂ ◌⊕◌ (h.high j) (hb j ∙ ap₂ (λ (x y : Bool). x && y) (h.low j) (one-is j))) (two_is j)
          ∙ sym (half-plus (total (two i j) ts) (when1 (two i j p) k)) ∙ ap (λ (z : ℕ). odd (z / 2)) (sym (total-snoc (two i j) ts p k))

      rowed : (ts : List Term) → Holds i ts s → (j m : ℕ) → j < i % half → bit (get_or (rows_of r.odds) j zero) m ≡ odd (total (three i (near i j) m) (ts ++ (term p k ∷ [])))
      rowed ts h j m l =
          ap (λ (z : ℕ). bit z m) (adds.at j (omega (arith, size))) ∙ bit_xor (get_or (rows_of s.odds) j zero) (cond (bit chosen j) p zero) m
          ∙ ap₂ ◌⊕◌ (h.rows j m l) (one_bit (bit chosen j) p m ∙ ap (λ (z : Bool). z && bit p m) (b.low j l ∙ one-is (near i j)) ∙ picks-two (bit p i) (bit p (near i j)) (bit p m) k)
          ∙ sym (odd-plus (total (three i (near i j) m) ts) (when1 (three i (near i j) m p) k)) ∙ ap odd (sym (total-snoc (three i (near i j) m) ts p k))

-- ---- one after the other

pub notes-none : (i : ℕ) (s : Lanes) → Notes i [] s s
notes-none i s = record { holds = λ ts h. rw (append-nil ts) h }

pub notes-then : (i : ℕ) (us vs : List Term) (a b c : Lanes) → Notes i us a b → Notes i vs b c → Notes i (us ++ vs) a c
notes-then i us vs a b c f g = record { holds = λ ts h. rw (append_assoc ts us vs) at (g.holds (ts ++ us) (f.holds ts h)) }

pub holds-none : (i : ℕ) (s : Lanes) → None s → Holds i [] s
unfolding total odd
holds-none i s n = record {
  turn = n.turn;
  low = λ j. ap (λ (z : ℕ). bit z j) n.low ∙ bit-zero j;
  high = λ j. ap (λ (z : ℕ). bit z j) n.high ∙ bit-zero j;
  rows = λ j k l. ap (λ (z : ℕ). bit z k) (n.rows j) ∙ bit-zero k;
}

-- The walk as a recursion, and what it adds.
use mathlib.Core.Path.{◌≡◌, refl, sym, ap, ap₂, ◌∙◌}
use mathlib.Core.Logic.{◌≢◌, ◌⊎◌, inl, inr}
use mathlib.Core.Bool.{Bool, true, false, ◌&&◌, ◌||◌, cond, or-true, false≢true, true≢false}
use mathlib.Core.List.{List, [], ◌∷◌, ◌++◌, map}
use Prim.Native.Nat.{ℕ, zero, suc, ◌+◌, ◌^◌, ◌≤◌, ◌<◌, zero-le}
use native.Mathlib.Nat.{le_refl, le-suc, le_trans, not-suc-le-zero}
use native.Mathlib.Omega.{arith}
use lib.Dec.{eqb, leb-zero}
use lib.Pow.{pow-lt}
use borrow.Author.Tests.{ne_eqb}
use Rattle.rules.specs.Bit.{◌⊕◌, bit, xor}
use Rattle.rules.specs.Meaning.{Op, cnot, phase, change, when1, moved, added, wires, phases}
use Rattle.rules.specs.Fold.{Term}
use Rattle.rules.specs.Walk.{Step, cn, rot, Aim, free, on, owes, side, score, beats, best, cross_terms, turns, leaf, aim_with, is_none, Settled}
use Rattle.rules.specs.Left.{pay, tally}
use Rattle.rules.proofs.Bits.{xor_lt, split, same, eqb-self, none-set, ⊕-false}
use Rattle.rules.proofs.Masks.{val, mask, bit-rest, bit-crossed, val-cross, val-ext, val-without, with-c, val-paid, val-leaf, val-none}

-- steps as gates on local indices
abbrev pub op_of : Step → Op
op_of (cn p t) = cnot p t
op_of (rot q k) = phase k q

abbrev pub ops : List Step → List Op
ops ss = map op_of ss

-- every CNOT of some steps, on a waiting set
unfoldable pub cross_all : List Step → List Term → List Term
unfolding cross_terms
cross_all [] ts = ts
cross_all (cn p t ∷ ss) ts = cross_all ss (cross_terms p t ts)
cross_all (rot q k ∷ ss) ts = cross_all ss ts

-- ---- the recursion: k bounds the candidates left

abbrev pub paid : Aim → Aim
paid free = free
paid (on t) = on t
paid (owes p t) = on t

abbrev pub if_any : List Term → List Step → List Step
if_any [] ss = []
if_any (t ∷ ts) ss = ss

unfoldable pub tree : ℕ → ℕ → ℕ → Aim → List Term → List Step
unfolding best side turns cross_all
tree n zero cs a ts = if_any ts (pay a ++ leaf (paid a) ts)
tree n (suc k) cs a ts =
    let c = (best n cs ts).0 in
    let rest = xor cs (2 ^ c) in
    let z = tree n k rest (paid a) (side false c ts) in
    let o = tree n k rest (aim_with (paid a) c) (cross_all z (side true c ts)) in
    if_any ts (pay a ++ cond (is_none cs) (leaf (paid a) ts) (z ++ o))

-- ---- how many candidates

pub tally-ext : (n : ℕ) (f g : ℕ → Bool) → ((i : ℕ) → i < n → f i ≡ g i) → tally n f ≡ tally n g
unfolding tally
tally-ext zero f g h = refl
tally-ext (suc n) f g h = ap₂ (λ (b : Bool) (r : ℕ). when1 b 1 + r) (h n (le_refl (suc n))) (tally-ext n f g (λ i k. h i (le_trans k (le-suc n))))

pub tally-le : (n : ℕ) (f : ℕ → Bool) → tally n f ≤ n
unfolding tally
tally-le zero f = zero-le
tally-le (suc n) f = split (f n) (λ e. rw e (omega (arith, tally-le n f))) (λ e. rw e (omega (arith, tally-le n f)))

pub tally-none : (n : ℕ) (f : ℕ → Bool) → tally n f ≤ zero → (i : ℕ) → i < n → f i ≡ false
unfolding tally
tally-none zero f h i k = absurd (not-suc-le-zero k)
tally-none (suc n) f h i k =
    split (f n)
    (λ e. absurd (more (rw e at h)))
    (λ e. same i n (λ q _. ap f q ∙ e) (λ q _. tally-none n f (less (rw e at h)) i (omega arith)))
  where
    more : 1 + tally n f ≤ zero → ⊥
    more g = omega arith

    less : zero + tally n f ≤ zero → tally n f ≤ zero
    less g = omega arith

pub tally-rest : (n cs c : ℕ) → c < n → bit cs c ≡ true → suc (tally n (bit (xor cs (2 ^ c)))) ≡ tally n (bit cs)
unfolding tally
tally-rest zero cs c h e = absurd (not-suc-le-zero h)
tally-rest (suc n) cs c h e =
    same n c
    (λ q f. let off : bit (xor cs (2 ^ c)) n ≡ false = bit-rest cs c n ∙ ap₂ ◌⊕◌ (ap (bit cs) q ∙ e) f in
    let below : tally n (bit (xor cs (2 ^ c))) ≡ tally n (bit cs) =
    tally-ext n (bit (xor cs (2 ^ c))) (bit cs) (λ i k. bit-rest cs c i ∙ ap (λ (z : Bool). bit cs i ⊕ z) (ne_eqb i c (λ r. omega arith)) ∙ ⊕-false (bit cs i)) in
    rw (off, ap (bit cs) q ∙ e) (omega arith))
    (λ q f. let kept : bit (xor cs (2 ^ c)) n ≡ bit cs n = bit-rest cs c n ∙ ap (λ (z : Bool). bit cs n ⊕ z) f ∙ ⊕-false (bit cs n) in
    let below : suc (tally n (bit (xor cs (2 ^ c)))) ≡ tally n (bit cs) = tally-rest n cs c (omega arith) e in
    rw kept (omega arith))

-- ---- the best column is a candidate

module _ (cs : ℕ) (ts : List Term) where
  abbrev Best : ℕ → Type 0
  Best m = (((i : ℕ) → i < m → bit cs i ≡ false) × ((best m cs ts).1 ≡ zero)) ⊎ (((best m cs ts).0 < m) × (bit cs (best m cs ts).0 ≡ true))

  best-cases : (m : ℕ) → Best m
  unfolding best
  best-cases zero = inl ((λ i k. absurd (not-suc-le-zero k)), refl)
  best-cases (suc m) =
      split (bit cs m)
      (λ e. split (beats (best m cs ts).1 (score m ts))
      (λ f. inr (rw (e, f) (le_refl (suc m), e)))
      (λ f. inr (rw (e, f) (found f (best-cases m)))))
      (λ e. rw e (later e (best-cases m)))
    where
      found : beats (best m cs ts).1 (score m ts) ≡ false → Best m → ((best m cs ts).0 < suc m) × (bit cs (best m cs ts).0 ≡ true)
      found f (inl g) = absurd (true≢false (sym (leb-zero (score m ts)) ∙ sym (ap (λ (z : ℕ). beats z (score m ts)) g.1) ∙ f))
      found f (inr g) = (le_trans g.0 (le-suc m), g.1)

      later : bit cs m ≡ false → Best m
          → (((i : ℕ) → i < suc m → bit cs i ≡ false) × ((best m cs ts).1 ≡ zero)) ⊎ (((best m cs ts).0 < suc m) × (bit cs (best m cs ts).0 ≡ true))
      later e (inl g) = inl ((λ i k. same i m (λ q _. ap (bit cs) q ∙ e) (λ q _. g.0 i (omega arith))), g.1)
      later e (inr g) = inr (le_trans g.0 (le-suc m), g.1)

is_none-zero : (m : ℕ) → is_none m ≡ true → m ≡ zero
is_none-zero zero e = refl
is_none-zero (suc m) e = absurd (false≢true e)

pub best-ok : (n cs : ℕ) (ts : List Term) → cs < 2 ^ n → is_none cs ≡ false → ((best n cs ts).0 < n) × (bit cs (best n cs ts).0 ≡ true)
best-ok n cs ts h e = go (best-cases cs ts n)
  where
    go : Best cs ts n → ((best n cs ts).0 < n) × (bit cs (best n cs ts).0 ≡ true)
    go (inl g) = absurd (true≢false (sym (ap is_none (none-set n cs h g.0)) ∙ e))
    go (inr g) = g

-- ---- the CNOTs of some steps: controls in C, targets in M

unfoldable pub Within : ℕ → (ℕ → Bool) → (ℕ → Bool) → List Step → Type 0
Within n C M [] = Unit {0}
Within n C M (cn p t ∷ ss) = ((p < n) × (t < n) × (p ≢ t) × (C p ≡ true) × (M t ≡ true)) × Within n C M ss
Within n C M (rot q k ∷ ss) = (q < n) × Within n C M ss

pub within-append : (n : ℕ) (C M : ℕ → Bool) (us vs : List Step) → Within n C M us → Within n C M vs → Within n C M (us ++ vs)
unfolding Within
within-append n C M [] vs h k = k
within-append n C M (cn p t ∷ us) vs h k = (h.0, within-append n C M us vs h.1 k)
within-append n C M (rot q r ∷ us) vs h k = (h.0, within-append n C M us vs h.1 k)

pub within_wider : (n : ℕ) (C C' M M' : ℕ → Bool) (ss : List Step) → ((i : ℕ) → C i ≡ true → C' i ≡ true) → ((i : ℕ) → M i ≡ true → M' i ≡ true)
    → Within n C M ss → Within n C' M' ss
unfolding Within
within_wider n C C' M M' [] f g h = tt
within_wider n C C' M M' (cn p t ∷ ss) f g h =
    ((h.0.0, h.0.1, h.0.2, f p h.0.3, g t h.0.4), within_wider n C C' M M' ss f g h.1)
within_wider n C C' M M' (rot q k ∷ ss) f g h = (h.0, within_wider n C C' M M' ss f g h.1)

-- ---- sets of parities

-- every parity has, or lacks, the bit c
unfoldable pub All : Bool → ℕ → List Term → Type 0
All b c [] = Unit {0}
All b c (t ∷ ts) = (bit t.parity c ≡ b) × All b c ts

pub all-side : (b d : Bool) (c e : ℕ) (ts : List Term) → All b c ts → All b c (side d e ts)
unfolding All side
all-side b d c e [] h = tt
all-side b d c e (t ∷ ts) h = split (d ⊕ bit t.parity e) (λ q. rw q (all-side b d c e ts h.1)) (λ q. rw q (h.0, all-side b d c e ts h.1))

⊕-eq : (a b : Bool) → (a ⊕ b) ≡ false → b ≡ a
⊕-eq true true h = refl
⊕-eq true false h = sym h
⊕-eq false b h = h

pub side-all : (b : Bool) (c : ℕ) (ts : List Term) → All b c (side b c ts)
unfolding All side
side-all b c [] = tt
side-all b c (t ∷ ts) = split (b ⊕ bit t.parity c) (λ q. rw q (side-all b c ts)) (λ q. rw q (⊕-eq b (bit t.parity c) q, side-all b c ts))

pub all_cross : (b : Bool) (c p t : ℕ) (ts : List Term) → p ≢ c → All b c ts → All b c (cross_terms p t ts)
unfolding All cross_terms
all_cross b c p t [] ne h = tt
all_cross b c p t (e ∷ es) ne h = (
  bit-crossed p t e.parity c ∙ ap (λ (z : Bool). bit e.parity c ⊕ (z && bit e.parity t)) (ne_eqb c p (λ q. ne (sym q))) ∙ ⊕-false (bit e.parity c) ∙ h.0,
  all_cross b c p t es ne h.1,
)

all-cross_all : (n : ℕ) (C M : ℕ → Bool) (b : Bool) (c : ℕ) (ss : List Step) (ts : List Term) → Within n C M ss → C c ≡ false → All b c ts → All b c (cross_all ss ts)
unfolding Within cross_all
all-cross_all n C M b c [] ts w e h = h
all-cross_all n C M b c (cn p t ∷ ss) ts w e h =
    all-cross_all n C M b c ss (cross_terms p t ts) w.1 e
    (all_cross b c p t ts (λ q. true≢false (sym w.0.3 ∙ ap C q ∙ e)) h)
all-cross_all n C M b c (rot q k ∷ ss) ts w e h = all-cross_all n C M b c ss ts w.1 e h

-- ---- what a set weighs

unfoldable pub heft : ℕ → (ℕ → Bool) → (ℕ → Bool) → List Term → ℕ
unfolding val
heft n m w [] = zero
heft n m w (t ∷ ts) = when1 (val n m t.parity w) t.turn + heft n m w ts

heft-sides : (n : ℕ) (m w : ℕ → Bool) (c : ℕ) (ts : List Term) → heft n m w (side false c ts) + heft n m w (side true c ts) ≡ heft n m w ts
unfolding heft side
heft-sides n m w c [] = refl
heft-sides n m w c (t ∷ ts) =
    split (bit t.parity c)
    (λ e. rw e (omega (arith, heft-sides n m w c ts)))
    (λ e. rw e (omega (arith, heft-sides n m w c ts)))

heft-ext : (n : ℕ) (m m' w : ℕ → Bool) (ts : List Term) → ((i : ℕ) → m i ≡ m' i) → heft n m w ts ≡ heft n m' w ts
unfolding heft
heft-ext n m m' w [] h = refl
heft-ext n m m' w (t ∷ ts) h =
    ap₂ (λ (b : Bool) (r : ℕ). when1 b t.turn + r) (val-ext n m m' t.parity w (λ i. ap (λ (z : Bool). z && bit t.parity i) (h i))) (heft-ext n m m' w ts h)

heft-without : (n cs c : ℕ) (a : Aim) (w : ℕ → Bool) (ts : List Term) → All false c ts → heft n (mask (xor cs (2 ^ c)) a) w ts ≡ heft n (mask cs a) w ts
unfolding heft All
heft-without n cs c a w [] h = refl
heft-without n cs c a w (t ∷ ts) h =
    ap₂ (λ (b : Bool) (r : ℕ). when1 b t.turn + r) (sym (val-without n cs c a t.parity w h.0)) (heft-without n cs c a w ts h.1)

heft-cross : (n : ℕ) (m : ℕ → Bool) (p t : ℕ) (w : ℕ → Bool) (ts : List Term) → p < n → t < n → p ≢ t → m p ≡ true → m t ≡ true
    → heft n m (change t (w p) w) (cross_terms p t ts) ≡ heft n m w ts
unfolding heft cross_terms
heft-cross n m p t w [] hp ht ne mp mt = refl
heft-cross n m p t w (e ∷ es) hp ht ne mp mt =
    ap₂ (λ (b : Bool) (r : ℕ). when1 b e.turn + r) (val-cross n m p t e.parity w hp ht ne mp mt) (heft-cross n m p t w es hp ht ne mp mt)

-- the steps of one node leave alone what a waiting set stands for
heft-cross_all : (n : ℕ) (C M m : ℕ → Bool) (w : ℕ → Bool) (ss : List Step) (ts : List Term) → Within n C M ss
    → ((i : ℕ) → C i ≡ true → m i ≡ true) → ((i : ℕ) → M i ≡ true → m i ≡ true)
    → heft n m (wires (ops ss) w) (cross_all ss ts) ≡ heft n m w ts
unfolding Within cross_all wires moved
heft-cross_all n C M m w [] ts h f g = refl
heft-cross_all n C M m w (cn p t ∷ ss) ts h f g =
    heft-cross_all n C M m (change t (w p) w) ss (cross_terms p t ts) h.1 f g
    ∙ heft-cross n m p t w ts h.0.0 h.0.1 h.0.2 (f p h.0.3) (g t h.0.4)
heft-cross_all n C M m w (rot q k ∷ ss) ts h f g = heft-cross_all n C M m w ss ts h.1 f g

heft-paid : (n cs p t : ℕ) (w : ℕ → Bool) (ts : List Term) → p < n → t < n → p ≢ t → bit cs p ≡ false → All true p ts → All true t ts
    → heft n (mask cs (on t)) (change t (w p) w) ts ≡ heft n (mask cs (owes p t)) w ts
unfolding heft All
heft-paid n cs p t w [] hp ht ne cp ap' at = refl
heft-paid n cs p t w (e ∷ es) hp ht ne cp vp vt =
    ap₂ (λ (b : Bool) (r : ℕ). when1 b e.turn + r) (val-paid n cs p t e.parity w hp ht ne cp vp.0 vt.0) (heft-paid n cs p t w es hp ht ne cp vp.1 vt.1)

heft-leaf : (n t : ℕ) (w : ℕ → Bool) (ts : List Term) → t < n → All true t ts → heft n (mask zero (on t)) w ts ≡ when1 (w t) (turns ts)
unfolding heft All turns
heft-leaf n t w [] h v = split (w t) (λ e. rw e) (λ e. rw e)
heft-leaf n t w (e ∷ es) h v =
    ap₂ (λ (b : Bool) (r : ℕ). when1 b e.turn + r) (val-leaf n t e.parity w h v.0) (heft-leaf n t w es h v.1) ∙ add (w t)
  where
    add : (b : Bool) → when1 b e.turn + when1 b (turns es) ≡ when1 b (e.turn + turns es)
    add true = refl
    add false = refl

heft-none : (n : ℕ) (w : ℕ → Bool) (ts : List Term) → heft n (mask zero free) w ts ≡ zero
unfolding heft
heft-none n w [] = refl
heft-none n w (e ∷ es) = ap₂ (λ (b : Bool) (r : ℕ). when1 b e.turn + r) (val-none n e.parity w) (heft-none n w es)

-- ---- the theorem of the recursion

abbrev pub ctl : ℕ → Aim → ℕ → Bool
ctl cs free i = bit cs i
ctl cs (on t) i = bit cs i
ctl cs (owes p t) i = eqb i p || bit cs i

-- a node is in order: its target and what it owes are no candidates, and its parities have their bits
abbrev pub Fit : ℕ → ℕ → Aim → List Term → Type 0
Fit n cs free ts = Unit {0}
Fit n cs (on t) ts = (t < n) × (bit cs t ≡ false) × All true t ts
Fit n cs (owes p t) ts = (t < n) × (bit cs t ≡ false) × All true t ts × (p < n) × (bit cs p ≡ false) × (p ≢ t) × All true p ts

-- steps that a node may emit: they keep to its columns, and add what its set weighs
pub record Ok (n cs : ℕ) (a : Aim) (ts : List Term) (ss : List Step) : Type 0 where
  pub within : Within n (ctl cs a) (mask cs a) ss
  pub adds : (w : ℕ → Bool) → phases (ops ss) w ≡ heft n (mask cs a) w ts

pub phases-append : (us vs : List Step) (w : ℕ → Bool) → phases (ops (us ++ vs)) w ≡ phases (ops us) w + phases (ops vs) (wires (ops us) w)
unfolding phases wires
phases-append [] vs w = plus (phases (ops vs) w)
  where
    plus : (z : ℕ) → z ≡ zero + z
    plus z = omega arith
phases-append (u ∷ us) vs w = ap (λ (z : ℕ). added (op_of u) w + z) (phases-append us vs (moved (op_of u) w)) ∙ assoc (added (op_of u) w) (phases (ops us) (moved (op_of u) w)) _
  where
    assoc : (x y z : ℕ) → x + (y + z) ≡ x + y + z
    assoc x y z = omega arith

pub rest-off : (cs c : ℕ) → bit cs c ≡ true → bit (xor cs (2 ^ c)) c ≡ false
rest-off cs c e = bit-rest cs c c ∙ ap₂ ◌⊕◌ e (eqb-self c)

pub rest-other : (cs c t : ℕ) → bit cs c ≡ true → bit cs t ≡ false → bit (xor cs (2 ^ c)) t ≡ false
rest-other cs c t e f = bit-rest cs c t ∙ ap₂ ◌⊕◌ f (ne_eqb t c (λ q. true≢false (sym e ∙ ap (bit cs) (sym q) ∙ f)))

pub rest_in : (cs c i : ℕ) → bit cs c ≡ true → bit (xor cs (2 ^ c)) i ≡ true → bit cs i ≡ true
rest_in cs c i e h = sym (with-c cs c i e) ∙ ap (λ (z : Bool). eqb i c || z) h ∙ or-true (eqb i c)

pub fit-paid : (n cs : ℕ) (a : Aim) (ts : List Term) → Fit n cs a ts → Fit n cs (paid a) ts
fit-paid n cs free ts h = tt
fit-paid n cs (on t) ts h = h
fit-paid n cs (owes p t) ts h = (h.0, h.1, h.2)

pub settled-paid : (a : Aim) → Settled (paid a)
settled-paid free = tt
settled-paid (on t) = tt
settled-paid (owes p t) = tt

pub fit-without : (n cs c : ℕ) (a : Aim) (ts : List Term) → Settled a → bit cs c ≡ true → Fit n cs a ts → Fit n (xor cs (2 ^ c)) a (side false c ts)
fit-without n cs c free ts s e h = tt
fit-without n cs c (on t) ts s e h = (h.0, rest-other cs c t e h.1, all-side true false t c ts h.2)
fit-without n cs c (owes p t) ts s e h = absurd s

pub fit-with : (n cs c : ℕ) (a : Aim) (ts : List Term) (z : List Step) → Settled a → c < n → bit cs c ≡ true → Fit n cs a ts
    → Within n (ctl (xor cs (2 ^ c)) a) (mask (xor cs (2 ^ c)) a) z
    → Fit n (xor cs (2 ^ c)) (aim_with a c) (cross_all z (side true c ts))
fit-with n cs c free ts z s l e h w =
    let rest : ℕ = xor cs (2 ^ c) in
    (l, rest-off cs c e, all-cross_all n (bit rest) (bit rest) true c z (side true c ts) w (rest-off cs c e) (side-all true c ts))
fit-with n cs c (on t) ts z s l e h w =
    let rest : ℕ = xor cs (2 ^ c) in (
      h.0,
      rest-other cs c t e h.1,
      all-cross_all n (bit rest) (mask rest (on t)) true t z (side true c ts) w (rest-other cs c t e h.1) (all-side true true t c ts h.2),
      l,
      rest-off cs c e,
      (λ q. true≢false (sym e ∙ ap (bit cs) q ∙ h.1)),
      all-cross_all n (bit rest) (mask rest (on t)) true c z (side true c ts) w (rest-off cs c e) (side-all true c ts),
    )
fit-with n cs c (owes p t) ts z s l e h w = absurd s

leaf-ok : (n : ℕ) (a : Aim) (ts : List Term) → Settled a → Fit n zero a ts → Ok n zero a ts (leaf a ts)
unfolding Within phases added turns
leaf-ok n free ts s h = record { within = tt; adds = λ w. sym (heft-none n w ts) }
leaf-ok n (on t) ts s h = record { within = (h.0, tt); adds = λ w. plus (when1 (w t) (turns ts)) ∙ sym (heft-leaf n t w ts h.0 h.2) }
  where
    plus : (z : ℕ) → z + zero ≡ z
    plus z = omega arith
leaf-ok n (owes p t) ts s h = absurd s

pay-ok : (n cs : ℕ) (a : Aim) (ts : List Term) (ss : List Step) → Fit n cs a ts → Ok n cs (paid a) ts ss → Ok n cs a ts (pay a ++ ss)
unfolding Within phases added moved
pay-ok n cs free ts ss h k = k
pay-ok n cs (on t) ts ss h k = k
pay-ok n cs (owes p t) ts ss (ht, ct, vt, hp, cp, ne, vp) k =
    record {
      within = (
        (hp, ht, ne, ap (λ (z : Bool). z || bit cs p) (eqb-self p), ap (λ (z : Bool). z || (eqb t p || bit cs t)) (eqb-self t)),
        within_wider n (bit cs) (ctl cs (owes p t)) (mask cs (on t)) (mask cs (owes p t)) ss (λ i e. ap (λ (z : Bool). eqb i p || z) e ∙ or-true (eqb i p)) (λ i. wide (eqb i t) (eqb i p) (bit cs i)) k.within,
      );
      adds = λ w. plus (phases (ops ss) (change t (w p) w)) ∙ k.adds (change t (w p) w) ∙ heft-paid n cs p t w ts hp ht ne cp vp vt;
    }
  where
    plus : (z : ℕ) → zero + z ≡ z
    plus z = omega arith

    wide : (a b c : Bool) → (a || c) ≡ true → (a || (b || c)) ≡ true
    wide true b c e = refl
    wide false b c e = ap (λ (z : Bool). b || z) e ∙ or-true b

-- the mask of the side with c is the node's
mask-with : (cs c : ℕ) (a : Aim) → Settled a → bit cs c ≡ true → (i : ℕ) → mask (xor cs (2 ^ c)) (aim_with a c) i ≡ mask cs a i
mask-with cs c free s e i = with-c cs c i e
mask-with cs c (on t) s e i = ap (λ (z : Bool). eqb i t || z) (with-c cs c i e)
mask-with cs c (owes p t) s e i = absurd s

ctl-with : (cs c : ℕ) (a : Aim) → Settled a → bit cs c ≡ true → (i : ℕ) → ctl (xor cs (2 ^ c)) (aim_with a c) i ≡ true → ctl cs a i ≡ true
ctl-with cs c free s e i h = rest_in cs c i e h
ctl-with cs c (on t) s e i h = sym (with-c cs c i e) ∙ h
ctl-with cs c (owes p t) s e i h = absurd s

ctl-without : (cs c : ℕ) (a : Aim) → Settled a → bit cs c ≡ true → (i : ℕ) → ctl (xor cs (2 ^ c)) a i ≡ true → ctl cs a i ≡ true
ctl-without cs c free s e i h = rest_in cs c i e h
ctl-without cs c (on t) s e i h = rest_in cs c i e h
ctl-without cs c (owes p t) s e i h = absurd s

mask-without : (cs c : ℕ) (a : Aim) → Settled a → bit cs c ≡ true → (i : ℕ) → mask (xor cs (2 ^ c)) a i ≡ true → mask cs a i ≡ true
mask-without cs c free s e i h = rest_in cs c i e h
mask-without cs c (on t) s e i h = split (eqb i t) (λ q. rw q) (λ q. rw q (rest_in cs c i e (rw q at h)))
mask-without cs c (owes p t) s e i h = absurd s

ctl-mask : (cs : ℕ) (a : Aim) → Settled a → (i : ℕ) → ctl cs a i ≡ true → mask cs a i ≡ true
ctl-mask cs free s i h = h
ctl-mask cs (on t) s i h = ap (λ (z : Bool). eqb i t || z) h ∙ or-true (eqb i t)
ctl-mask cs (owes p t) s i h = absurd s

split-ok : (n cs c : ℕ) (a : Aim) (ts : List Term) (z o : List Step) → Settled a → bit cs c ≡ true
    → Ok n (xor cs (2 ^ c)) a (side false c ts) z → Ok n (xor cs (2 ^ c)) (aim_with a c) (cross_all z (side true c ts)) o → Ok n cs a ts (z ++ o)
split-ok n cs c a ts z o s e hz ho =
    let rest : ℕ = xor cs (2 ^ c) in
    record {
      within = within-append n (ctl cs a) (mask cs a) z o
          (within_wider n (ctl rest a) (ctl cs a) (mask rest a) (mask cs a) z (ctl-without cs c a s e) (mask-without cs c a s e) hz.within)
          (within_wider n (ctl rest (aim_with a c)) (ctl cs a) (mask rest (aim_with a c)) (mask cs a) o (ctl-with cs c a s e) (λ i h. sym (mask-with cs c a s e i) ∙ h) ho.within);
      adds = λ w.
          phases-append z o w
          ∙ ap₂ (λ (x y : ℕ). x + y)
          (hz.adds w ∙ heft-without n cs c a w (side false c ts) (side-all false c ts))
          (ho.adds (wires (ops z) w)
          ∙ heft-ext n (mask rest (aim_with a c)) (mask cs a) (wires (ops z) w) (cross_all z (side true c ts)) (mask-with cs c a s e)
          ∙ heft-cross_all n (ctl rest a) (mask rest a) (mask cs a) w z (side true c ts) hz.within
          (λ i h. ctl-mask cs a s i (ctl-without cs c a s e i h)) (mask-without cs c a s e))
          ∙ heft-sides n (mask cs a) w c ts;
    }

empty-ok : (n cs : ℕ) (a : Aim) → Ok n cs a [] []
unfolding Within phases heft
empty-ok n cs a = record { within = tt; adds = λ w. refl }

pub tree-ok : (n k cs : ℕ) (a : Aim) (ts : List Term) → cs < 2 ^ n → tally n (bit cs) ≤ k → Fit n cs a ts → Ok n cs a ts (tree n k cs a ts)
unfolding tree
tree-ok n zero cs a [] l t h = empty-ok n cs a
tree-ok n zero cs a (e ∷ es) l t h =
    let none : cs ≡ zero = none-set n cs l (tally-none n (bit cs) t) in
    pay-ok n cs a (e ∷ es) (leaf (paid a) (e ∷ es)) h
    (rw none (leaf-ok n (paid a) (e ∷ es) (settled-paid a) (rw none at (fit-paid n cs a (e ∷ es) h))))
tree-ok n (suc k) cs a [] l t h = empty-ok n cs a
tree-ok n (suc k) cs a (e ∷ es) l t h =
    let ts : List Term = e ∷ es in
    let c : ℕ = (best n cs ts).0 in
    let rest : ℕ = xor cs (2 ^ c) in
    let z : List Step = tree n k rest (paid a) (side false c ts) in
    let o : List Step = tree n k rest (aim_with (paid a) c) (cross_all z (side true c ts)) in
    pay-ok n cs a ts (cond (is_none cs) (leaf (paid a) ts) (z ++ o)) h
    (split (is_none cs)
    (λ q. let none : cs ≡ zero = is_none-zero cs q in
    rw q (rw none (leaf-ok n (paid a) ts (settled-paid a) (rw none at (fit-paid n cs a ts h)))))
    (λ q. let b = best-ok n cs ts l q in
    let l' : rest < 2 ^ n = xor_lt n cs (2 ^ c) l (pow-lt b.0) in
    let t' : tally n (bit rest) ≤ k = omega (arith, tally-rest n cs c b.0 b.1) in
    let f = fit-paid n cs a ts h in
    let hz = tree-ok n k rest (paid a) (side false c ts) l' t' (fit-without n cs c (paid a) ts (settled-paid a) b.1 f) in
    let ho = tree-ok n k rest (aim_with (paid a) c) (cross_all z (side true c ts)) l' t'
    (fit-with n cs c (paid a) ts z (settled-paid a) b.0 b.1 f hz.within) in
    rw q (split-ok n cs c (paid a) ts z o (settled-paid a) b.1 hz ho)))

-- The resynthesis of a block acts like the block.
use mathlib.Core.Path.{◌≡◌, refl, sym, ap, ap₂, ◌∙◌, subst}
use mathlib.Core.Logic.{◌≢◌, ◌⊎◌, inl, inr}
use mathlib.Core.Bool.{Bool, true, false, ◌&&◌, cond, false≢true}
use mathlib.Core.List.{List, [], ◌∷◌, ◌++◌, map}
use mathlib.Core.Option.{Option, none, some, none-ne-some, some-injective}
use Prim.Native.Nat.{ℕ, zero, suc, ◌+◌, ◌-◌, ◌%◌, ◌^◌, ◌<◌, zero-le, suc-le-suc}
use native.Mathlib.Nat.{not-suc-le-zero, le_of_suc-le-suc}
use native.Mathlib.Omega.{arith}
use lib.ListN.{length, set, length-map, length-set}
use lib.Dec.{eqb}
use lib.Pow.{ones_lt}
use Rattle.rules.specs.Gate.{Gate}
use Rattle.rules.specs.Bit.{◌⊕◌, bit, dot, xor}
use Rattle.rules.specs.Meaning.{Op, op, change, when1, moved, wires, phases, Alike}
use Rattle.rules.specs.Fold.{Row, Term, Block, empty, fold}
use Rattle.rules.specs.Walk.{Step, cn, rot, free, is_none, nonzero, phase_walk, held}
use Rattle.rules.specs.Close.{units, closing}
use Rattle.rules.specs.Synth.{emit, flips_of, with_steps, synth}
use Rattle.rules.proofs.Bits.{split, same, bit-ones, sum-ext, dot-xor, dot-unit, ⊕-false}
use Rattle.rules.proofs.Folding.{wires_of, value, weigh, lost, starts, folded}
use Rattle.rules.proofs.Masks.{val, mask}
use Rattle.rules.proofs.Walking.{op_of, ops, Within, within-append, within_wider, heft, Ok, tree, tree-ok, tally-le}
use Rattle.rules.proofs.Machine.{phase-walk}
use Rattle.rules.proofs.Closing.{at, get_d_set, anywhere, Closes, closing-ok, at-units, length-units}
use Rattle.rules.proofs.Emitting.{wires-app, phases-app, map_app, Apart, apart-fold, Absent, Acts, emit-acts, flip_at, flips-act}

-- ---- the rows that the steps leave

pub held-length : (ss : List Step) (rows : List ℕ) → length (held ss rows) ≡ length rows
unfolding held
held-length [] rows = refl
held-length (cn p t ∷ ss) rows = held-length ss (set rows t (xor (at rows t) (at rows p))) ∙ length-set rows t (xor (at rows t) (at rows p))
held-length (rot q k ∷ ss) rows = held-length ss rows

held-ok : (n : ℕ) (C M x w : ℕ → Bool) (ss : List Step) (rows : List ℕ) → Within n C M ss → length rows ≡ n
    → ((i : ℕ) → i < n → w i ≡ dot n (at rows i) x) → (i : ℕ) → i < n → wires (ops ss) w i ≡ dot n (at (held ss rows) i) x
unfolding held Within wires moved
held-ok n C M x w [] rows h l k i hi = k i hi
held-ok n C M x w (cn p t ∷ ss) rows h l k i hi =
    let new : ℕ = xor (at rows t) (at rows p) in
    held-ok n C M x (change t (w p) w) ss (set rows t new) h.1 (length-set rows t new ∙ l)
    (λ j hj. same j t
    (λ e f. rw f (ap₂ ◌⊕◌ (k j hj ∙ ap (λ (z : ℕ). dot n (at rows z) x) e) (k p h.0.0) ∙ sym (dot-xor n (at rows t) (at rows p) x)
    ∙ ap (λ (z : ℕ). dot n z x) (sym (rw f at (get_d_set rows t new j (subst (λ (z : ℕ). t < z) (sym l) h.0.1))))))
    (λ e f. rw f (k j hj ∙ ap (λ (z : ℕ). dot n z x) (sym (rw f at (get_d_set rows t new j (subst (λ (z : ℕ). t < z) (sym l) h.0.1)))))))
    i hi
held-ok n C M x w (rot q r ∷ ss) rows h l k i hi = held-ok n C M x w ss rows h.1 l k i hi

-- ---- the terms

-- the first node's set stands for the parities themselves
first-node : (n : ℕ) (x : ℕ → Bool) (ts : List Term) → heft n (mask (2 ^ n - 1) free) x ts ≡ weigh n x ts
unfolding heft weigh val dot
first-node n x [] = refl
first-node n x (t ∷ ts) =
    ap₂ (λ (b : Bool) (r : ℕ). when1 b t.turn + r)
    (sum-ext n (λ i. bit (2 ^ n - 1) i && (bit t.parity i && x i)) (λ i. bit t.parity i && x i) (λ i hi. ap (λ (z : Bool). z && (bit t.parity i && x i)) (bit-ones n i hi)))
    (first-node n x ts)

is_none-mod : (m : ℕ) → is_none (m % 8) ≡ true → m % 8 ≡ 0
is_none-mod m e = go (m % 8) e
  where
    go : (k : ℕ) → is_none k ≡ true → k ≡ 0
    go zero h = refl
    go (suc k) h = absurd (false≢true h)

weigh-nonzero : (n : ℕ) (x : ℕ → Bool) (ts : List Term) → weigh n x (nonzero ts) % 8 ≡ weigh n x ts % 8
unfolding weigh nonzero
weigh-nonzero n x [] = refl
weigh-nonzero n x (t ∷ ts) =
    split (is_none (t.turn % 8))
    (λ e. rw e (drop (dot n t.parity x) (is_none-mod t.turn e) (weigh-nonzero n x ts)))
    (λ e. rw e (keep (weigh-nonzero n x ts)))
  where
    drop : (b : Bool) → t.turn % 8 ≡ 0 → weigh n x (nonzero ts) % 8 ≡ weigh n x ts % 8 → weigh n x (nonzero ts) % 8 ≡ (when1 b t.turn + weigh n x ts) % 8
    drop true z h = omega arith
    drop false z h = omega arith

    keep : weigh n x (nonzero ts) % 8 ≡ weigh n x ts % 8
        → (when1 (dot n t.parity x) t.turn + weigh n x (nonzero ts)) % 8 ≡ (when1 (dot n t.parity x) t.turn + weigh n x ts) % 8
    keep h = omega arith

-- ---- a wire's value, before the flips

unfoldable plain : ℕ → (ℕ → Bool) → (ℕ → Bool) → ℕ → List Row → Bool
unfolding dot
plain n x s q [] = s q
plain n x s q (r ∷ rs) = cond (eqb r.wire q) (dot n r.parity x) (plain n x s q rs)

abbrev pub parities : List Row → List ℕ
parities rs = map (λ r. r.parity) rs

module _ (n : ℕ) (x s : ℕ → Bool) where
  plain-flips : (q : ℕ) (rs : List Row) → (plain n x s q rs ⊕ flip_at q rs) ≡ value n x s q rs
  unfolding plain flip_at value
  plain-flips q [] = ⊕-false (s q)
  plain-flips q (r ∷ rs) = split (eqb r.wire q) (λ e. rw e) (λ e. rw e (plain-flips q rs))

  find-row : (q : ℕ) (rs : List Row)
      → ((i : ℕ) × (i < length (wires_of rs)) × (at (wires_of rs) i ≡ q) × (plain n x s q rs ≡ dot n (at (parities rs) i) x))
      ⊎ (Absent q (wires_of rs) × (plain n x s q rs ≡ s q))
  unfolding plain
  find-row q [] = inr ((λ i hi. absurd (not-suc-le-zero hi)), refl)
  find-row q (r ∷ rs) = same r.wire q (λ e f. inl (zero, suc-le-suc zero-le, e, rw f)) (λ e f. go e f (find-row q rs))
    where
      go : (r.wire ≢ q) → eqb r.wire q ≡ false
          → ((i : ℕ) × (i < length (wires_of rs)) × (at (wires_of rs) i ≡ q) × (plain n x s q rs ≡ dot n (at (parities rs) i) x))
          ⊎ (Absent q (wires_of rs) × (plain n x s q rs ≡ s q))
          → ((i : ℕ) × (i < length (wires_of (r ∷ rs))) × (at (wires_of (r ∷ rs)) i ≡ q) × (plain n x s q (r ∷ rs) ≡ dot n (at (parities (r ∷ rs)) i) x))
          ⊎ (Absent q (wires_of (r ∷ rs)) × (plain n x s q (r ∷ rs) ≡ s q))
      go e f (inl (i, hi, w, p)) = inl (suc i, suc-le-suc hi, w, rw f p)
      go e f (inr (a, p)) = inr (gone, rw f p)
        where
          gone : Absent q (wires_of (r ∷ rs))
          gone zero hi = e
          gone (suc i) hi = a i (le_of_suc-le-suc hi)

-- ---- the theorem

abbrev pub size_of : Block → ℕ
size_of b = length (wires_of b.rows)

abbrev pub walk_of : Block → List Step
walk_of b = tree (size_of b) (size_of b) (2 ^ size_of b - 1) free (nonzero b.terms)

walk-ok : (b : Block) → Ok (size_of b) (2 ^ size_of b - 1) free (nonzero b.terms) (walk_of b)
walk-ok b = tree-ok (size_of b) (size_of b) (2 ^ size_of b - 1) free (nonzero b.terms) (ones_lt (size_of b)) (tally-le (size_of b) (bit (2 ^ size_of b - 1))) tt

pub walk-within : (b : Block) → Within (size_of b) anywhere anywhere (walk_of b)
walk-within b =
    within_wider (size_of b) (bit (2 ^ size_of b - 1)) anywhere (bit (2 ^ size_of b - 1)) anywhere (walk_of b) (λ i e. refl) (λ i e. refl) (walk-ok b).within

module _ (b : Block) (apart : Apart b.rows) (s : ℕ → Bool) where
  abbrev pub rows : List Row
  rows = b.rows

  abbrev pub n : ℕ
  n = size_of b

  abbrev pub x : ℕ → Bool
  x = starts (wires_of b.rows) s

  abbrev pub walked : List Step
  walked = walk_of b

  -- a resynthesis: the walk, the closing map and the flips
  pub record Made (gs : List Gate) : Type 0 where
    pub same-wires : (q : ℕ) → wires (map op gs) s q ≡ value n x s q b.rows
    pub same-phase : phases (map op gs) s % 8 ≡ weigh n x b.terms % 8

  pub closes : (c : List Step) → closing (held walked (units n zero)) (parities rows) ≡ some c → Closes n x (wires (ops walked) x) (parities rows) c
  closes c e =
      closing-ok n x (wires (ops walked) x) (held walked (units n zero)) (parities rows)
      (held-length walked (units n zero) ∙ length-units n zero)
      (length-map rows (λ r. r.parity) ∙ sym (length-map rows (λ r. r.wire)))
      (held-ok n anywhere anywhere x x walked (units n zero) (walk-within b) (length-units n zero)
      (λ i hi. sym (ap (λ (z : ℕ). dot n z x) (at-units n zero i hi ∙ ap (λ (z : ℕ). 2 ^ z) (plus i)) ∙ dot-unit n i x hi)))
      c e
    where
      plus : (z : ℕ) → zero + z ≡ z
      plus z = omega arith

  made : (c : List Step) → closing (held walked (units n zero)) (parities rows) ≡ some c → Made (emit (wires_of rows) (walked ++ c) ++ flips_of rows)
  made c e =
      let y : ℕ → Bool = wires (ops walked) x in
      let close : Closes n x y (parities rows) c = closes c e in
      let all : List Step = walked ++ c in
      let gs : List Gate = emit (wires_of rows) all in
      let acts : Acts rows apart gs all s x =
      emit-acts rows apart anywhere anywhere all s x (within-append n anywhere anywhere walked c (walk-within b) close.within) (λ i hi. refl) in
      let fl = flips-act rows (wires (map op gs) s) apart in
      let ops-all : ops all ≡ ops walked ++ ops c = map_app op_of walked c in
      record {
        same-wires = λ q.
            ap (λ (l : List Op). wires l s q) (map_app op gs (flips_of rows))
            ∙ ap (λ (u : ℕ → Bool). u q) (wires-app (map op gs) (map op (flips_of rows)) s)
            ∙ fl.0 q
            ∙ ap (λ (z : Bool). z ⊕ flip_at q rows) (before acts close ops-all q (find-row n x s q rows))
            ∙ plain-flips n x s q rows;
        same-phase =
            ap (λ (z : ℕ). z % 8)
            (ap (λ (l : List Op). phases l s) (map_app op gs (flips_of rows)) ∙ phases-app (map op gs) (map op (flips_of rows)) s
            ∙ ap (λ (z : ℕ). phases (map op gs) s + z) fl.1 ∙ last (phases (map op gs) s))
            ∙ acts.adds
            ∙ ap (λ (z : ℕ). z % 8)
            (ap (λ (l : List Op). phases l x) ops-all ∙ phases-app (ops walked) (ops c) x
            ∙ ap₂ (λ (p q : ℕ). p + q) ((walk-ok b).adds x ∙ first-node n x (nonzero b.terms)) (close.quiet y) ∙ last (weigh n x (nonzero b.terms)))
            ∙ weigh-nonzero n x b.terms;
      }
    where
      plus : (z : ℕ) → zero + z ≡ z
      plus z = omega arith

      last : (z : ℕ) → z + zero ≡ z
      last z = omega arith

      before : Acts rows apart (emit (wires_of rows) (walked ++ c)) (walked ++ c) s x → Closes n x (wires (ops walked) x) (parities rows) c
          → ops (walked ++ c) ≡ ops walked ++ ops c → (q : ℕ)
          → ((i : ℕ) × (i < length (wires_of rows)) × (at (wires_of rows) i ≡ q) × (plain n x s q rows ≡ dot n (at (parities rows) i) x))
          ⊎ (Absent q (wires_of rows) × (plain n x s q rows ≡ s q))
          → wires (map op (emit (wires_of rows) (walked ++ c))) s q ≡ plain n x s q rows
      before acts close ops-all q (inl (i, hi, w, p)) =
          ap (wires (map op (emit (wires_of rows) (walked ++ c))) s) (sym w)
          ∙ acts.inside i hi
          ∙ ap (λ (l : List Op). wires l x i) ops-all
          ∙ ap (λ (u : ℕ → Bool). u i) (wires-app (ops walked) (ops c) x)
          ∙ close.holds i hi ∙ sym p
      before acts close ops-all q (inr (a, p)) = acts.outside q a ∙ sym p

-- the definition, by the recursion
pub synth-is : (b : Block) → synth b ≡ with_steps (closing (held (walk_of b) (units (size_of b) zero)) (parities b.rows)) (λ c. emit (wires_of b.rows) (walk_of b ++ c) ++ flips_of b.rows)
unfolding synth
synth-is b =
    let rest : List Step → ℕ → Option (List Gate) =
    λ w k. with_steps (closing (held w (units k zero)) (parities b.rows)) (λ c. emit (wires_of b.rows) (w ++ c) ++ flips_of b.rows) in
    ap (λ (k : ℕ). rest (phase_walk k b.terms) k) (sym (length-map b.rows (λ r. r.wire)))
    ∙ ap (λ (w : List Step). rest w (size_of b)) (phase-walk (size_of b) b.terms)

-- where there is one, a closing map was found, and these are its gates
pub record Written (b : Block) (gs : List Gate) : Type 0 where
  pub steps : List Step
  pub closed : closing (held (walk_of b) (units (size_of b) zero)) (parities b.rows) ≡ some steps
  pub gates : emit (wires_of b.rows) (walk_of b ++ steps) ++ flips_of b.rows ≡ gs

pub synth-of : (b : Block) (gs : List Gate) → synth b ≡ some gs → Written b gs
synth-of b gs e = go (closing (held (walk_of b) (units (size_of b) zero)) (parities b.rows)) refl (sym (synth-is b) ∙ e)
  where
    go : (o : Option (List Step)) → closing (held (walk_of b) (units (size_of b) zero)) (parities b.rows) ≡ o
        → with_steps o (λ c. emit (wires_of b.rows) (walk_of b ++ c) ++ flips_of b.rows) ≡ some gs → Written b gs
    go none f g = absurd (none-ne-some gs g)
    go (some c) f g = record { steps = c; closed = f; gates = some-injective (emit (wires_of b.rows) (walk_of b ++ c) ++ flips_of b.rows) gs g }

synth-made : (b : Block) (gs : List Gate) → synth b ≡ some gs → (apart : Apart b.rows) (s : ℕ → Bool) → Made b apart s gs
synth-made b gs e apart s =
    let k = synth-of b gs e in
    subst (λ (l : List Gate). Made b apart s l) k.gates (made b apart s k.steps k.closed)

-- a block's resynthesis acts like its gates, up to the constant that the fold lost
pub block-alike : (os : List Op) (gs : List Gate) → synth (fold os empty) ≡ some gs → Alike (map op gs) os
unfolding Apart
block-alike os gs e =
    let b : Block = fold os empty in
    let apart : Apart b.rows = apart-fold os empty tt in
    record {
      same = λ s q. (synth-made b gs e apart s).same-wires q ∙ sym ((folded os s).0 q);
      constant = lost os empty;
      phase = λ s. shift (lost os empty) (phases (map op gs) s) (weigh (size_of b) (starts (wires_of b.rows) s) b.terms) (synth-made b gs e apart s).same-phase
          ∙ sym (folded os s).1;
    }
  where
    shift : (l p w : ℕ) → p % 8 ≡ w % 8 → (l + p) % 8 ≡ (l + w) % 8
    shift l p w h = omega arith

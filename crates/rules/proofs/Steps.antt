-- Steps as gates, part by part; and the steps of a closing map, which are CNOTs on the block's indices.
use mathlib.Core.Path.{◌≡◌, refl, sym, ap, ◌∙◌, subst}
use mathlib.Core.Bool.{Bool, true, false}
use mathlib.Core.List.{List, [], ◌∷◌, ◌++◌, map, reverse, reverse-cons, reverse-reverse, append_assoc}
use mathlib.Core.Option.{none, some}
use Prim.Native.Nat.{ℕ, zero, suc, ◌%◌, ◌<◌}
use native.Mathlib.Nat.{not-suc-le-zero, le_of_suc-le-suc}
use native.Mathlib.Omega.{arith}
use lib.ListN.{length, get_or}
use Rattle.rules.specs.Gate.{Gate, gate2, code_cnot}
use Rattle.rules.specs.Bit.{dot}
use Rattle.rules.specs.Counts.{twos}
use Rattle.rules.specs.Walk.{Step, cn, rot}
use Rattle.rules.specs.Close.{times, eq_rows, inverse, and_then, reduce_from, closing}
use Rattle.rules.specs.Synth.{rotation, emit}
use Rattle.rules.proofs.Walking.{Within, within-append}
use Rattle.rules.proofs.Closing.{at, anywhere, Pure, closing-ok}

pub emit-append : (ws : List ℕ) (us vs : List Step) → emit ws (us ++ vs) ≡ emit ws us ++ emit ws vs
unfolding emit
emit-append ws [] vs = refl
emit-append ws (cn p t ∷ us) vs = ap (λ (l : List Gate). gate2 code_cnot (get_or ws p zero) (get_or ws t zero) ∷ l) (emit-append ws us vs)
emit-append ws (rot q k ∷ us) vs =
    ap (λ (l : List Gate). rotation (k % 8) (get_or ws q zero) ++ l) (emit-append ws us vs) ∙ sym (append_assoc (rotation (k % 8) (get_or ws q zero)) (emit ws us) (emit ws vs))

pub emit-one : (ws : List ℕ) (p t : ℕ) → emit ws (cn p t ∷ []) ≡ gate2 code_cnot (get_or ws p zero) (get_or ws t zero) ∷ []
unfolding emit
emit-one ws p t = refl

-- a CNOT is one gate, and one of those counted as two-wire
pub pure-count : (ws : List ℕ) (ss : List Step) → Pure ss → (length (emit ws ss) ≡ length ss) × (twos (emit ws ss) ≡ length ss)
unfolding Pure emit twos
pure-count ws [] p = (refl, refl)
pure-count ws (cn a b ∷ ss) p = let h = pure-count ws ss p in (ap suc h.0, omega arith)
pure-count ws (rot q k ∷ ss) p = absurd p

-- ---- within n indices, backwards and by place

within-reverse : (n : ℕ) (C M : ℕ → Bool) (ss : List Step) → Within n C M ss → Within n C M (reverse ss)
unfolding Within
within-reverse n C M [] h = tt
within-reverse n C M (cn p t ∷ ss) h =
    subst (Within n C M) (sym (reverse-cons (cn p t) ss)) (within-append n C M (reverse ss) (cn p t ∷ []) (within-reverse n C M ss h.1) (h.0, tt))
within-reverse n C M (rot q k ∷ ss) h =
    subst (Within n C M) (sym (reverse-cons (rot q k) ss)) (within-append n C M (reverse ss) (rot q k ∷ []) (within-reverse n C M ss h.1) (h.0, tt))

pub within-back : (n : ℕ) (C M : ℕ → Bool) (ss : List Step) → Within n C M (reverse ss) → Within n C M ss
within-back n C M ss h = subst (Within n C M) (reverse-reverse ss) (within-reverse n C M (reverse ss) h)

-- a CNOT's two indices are below n
abbrev pub Ends : ℕ → Step → Type 0
Ends n (cn p t) = (p < n) × (t < n)
Ends n (rot q k) = Unit {0}

pub within-at : (n : ℕ) (C M : ℕ → Bool) (ss : List Step) (i : ℕ) (d : Step) → Within n C M ss → i < length ss → Ends n (get_or ss i d)
unfolding Within
within-at n C M [] i d h l = absurd (not-suc-le-zero l)
within-at n C M (cn p t ∷ ss) zero d h l = (h.0.0, h.0.1)
within-at n C M (rot q k ∷ ss) zero d h l = tt
within-at n C M (cn p t ∷ ss) (suc i) d h l = within-at n C M ss i d h.1 (le_of_suc-le-suc l)
within-at n C M (rot q k ∷ ss) (suc i) d h l = within-at n C M ss i d h.1 (le_of_suc-le-suc l)

-- ---- the closing map

module _ (from wanted : List ℕ) where
  pub closing_same : eq_rows from wanted ≡ true → closing from wanted ≡ some []
  unfolding closing
  closing_same e = rw e

  pub closing-stuck : eq_rows from wanted ≡ false → inverse from ≡ none → closing from wanted ≡ none
  unfolding closing
  closing-stuck e f = rw (e, f)

  pub closing-by : (inv : List ℕ) → eq_rows from wanted ≡ false → inverse from ≡ some inv → closing from wanted
      ≡ and_then (reduce_from (length wanted) (length wanted) zero (record { rows = map (λ v. times v zero inv) wanted; adds = [] })) (λ m. some (reverse m.adds))
  unfolding closing
  closing-by inv e f = rw (e, f)

  -- whatever the rows held stand for, here sums of nothing
  pub closing-steps : (c : List Step) → length from ≡ length wanted → closing from wanted ≡ some c → Within (length wanted) anywhere anywhere c × Pure c
  closing-steps c l e =
      let x : ℕ → Bool = λ i. false in
      let k = closing-ok (length wanted) x (λ i. dot (length wanted) (at from i) x) from wanted l refl (λ i h. refl) c e in
      (k.within, k.pure)

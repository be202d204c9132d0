-- What holds of each gate of a list, and of each that the pass can write, holds of each that it puts out.
use mathlib.Core.Path.{◌≡◌, refl, sym, subst}
use mathlib.Core.List.{List, [], ◌∷◌, ◌++◌, map}
use mathlib.Core.Option.{Option, none, some, none-ne-some, some-injective}
use Prim.Native.Nat.{ℕ, zero, suc, ◌+◌, ◌/◌, ◌%◌, ◌≤◌, ◌<◌}
use native.Mathlib.Omega.{arith}
use lib.IntN.{ℤ, pos}
use lib.ListN.{length, get_or}
use Rattle.rules.specs.Limits.{width}
use Rattle.rules.specs.Gate.{Gate, code_cz}
use Rattle.rules.specs.Numbers.{gate_at, gates_from, gates_of}
use Rattle.rules.specs.Fold.{Row, Block}
use Rattle.rules.specs.Walk.{Step, cn, rot, phase_walk, held}
use Rattle.rules.specs.Close.{units, closing}
use Rattle.rules.specs.Synth.{rotation, emit, flips_of, with_steps, synth, block_of, or_else, resynthesis}
use Rattle.rules.specs.Plan.{Plan, plan_of}
use Rattle.rules.specs.Scan.{Piece, text_of}
use Rattle.rules.specs.Lines.{with_line, stamp, line_of}
use Rattle.rules.specs.Promise.{Changes, end, copy, keep, replace}
use Rattle.rules.specs.Pass.{writer_of, pass}
use Rattle.rules.proofs.Bits.{split, same}
use Rattle.rules.proofs.Resynthesis.{promised}

-- ---- gate by gate

unfoldable pub Each : (Gate → Type 0) → List Gate → Type 0
Each P [] = Unit {0}
Each P (g ∷ gs) = P g × Each P gs

-- what holds of the gate at each place holds of each gate
each_from : (P : Gate → Type 0) (ns : List ℤ) (n i : ℕ) → ((j : ℕ) → j < i + n → P (gate_at ns j)) → Each P (gates_from ns n i)
unfolding Each gates_from
each_from P ns zero i h = tt
each_from P ns (suc n) i h = (h i (omega arith), each_from P ns n (suc i) (λ j k. h j (omega arith)))

pub each-gates : (P : Gate → Type 0) (ns : List ℤ) → ((j : ℕ) → j < length ns / width → P (gate_at ns j)) → Each P (gates_of ns)
unfolding gates_of
each-gates P ns h = each_from P ns (length ns / width) zero (λ j k. h j (omega arith))

from_each : (P : Gate → Type 0) (ns : List ℤ) (n i : ℕ) → Each P (gates_from ns n i) → (j : ℕ) → i ≤ j → j < i + n → P (gate_at ns j)
unfolding Each gates_from
from_each P ns zero i e j h k = absurd (omega arith)
from_each P ns (suc n) i e j h k = same i j (λ x q. subst (λ (m : ℕ). P (gate_at ns m)) x e.0) (λ x q. from_each P ns n (suc i) e.1 j (omega (arith, x)) (omega arith))

pub gates-each : (P : Gate → Type 0) (ns : List ℤ) → Each P (gates_of ns) → (j : ℕ) → j < length ns / width → P (gate_at ns j)
unfolding gates_of
gates-each P ns e j h = from_each P ns (length ns / width) zero e j (omega arith) (omega arith)

-- a gate of the fragment with no turn
pub record Plain (g : Gate) : Type 0 where
  pub least : 1 ≤ g.code
  pub most : g.code ≤ code_cz
  pub turnless : g.turn ≡ pos 0

module _ (P : Gate → Type 0) where
  each_append : (us vs : List Gate) → Each P us → Each P vs → Each P (us ++ vs)
  unfolding Each
  each_append [] vs h k = k
  each_append (u ∷ us) vs h k = (h.0, each_append us vs h.1 k)

  each-parts : (us vs : List Gate) → Each P (us ++ vs) → Each P us × Each P vs
  unfolding Each
  each-parts [] vs h = (tt, h)
  each-parts (u ∷ us) vs h = let r = each-parts us vs h.1 in ((h.0, r.0), r.1)

-- ---- what is emitted

module _ (P : Gate → Type 0) (plain : (g : Gate) → Plain g → P g) where
  each-rotation : (k q : ℕ) → Each P (rotation k q)
  unfolding Each rotation
  each-rotation zero q = tt
  each-rotation (suc zero) q = (plain _ (record { least = omega arith; most = omega arith; turnless = refl }), tt)
  each-rotation (suc (suc zero)) q = (plain _ (record { least = omega arith; most = omega arith; turnless = refl }), tt)
  each-rotation (suc (suc (suc zero))) q = (
    plain _ (record { least = omega arith; most = omega arith; turnless = refl }),
    (plain _ (record { least = omega arith; most = omega arith; turnless = refl }), tt),
  )
  each-rotation (suc (suc (suc (suc zero)))) q = (plain _ (record { least = omega arith; most = omega arith; turnless = refl }), tt)
  each-rotation (suc (suc (suc (suc (suc zero))))) q = (
    plain _ (record { least = omega arith; most = omega arith; turnless = refl }),
    (plain _ (record { least = omega arith; most = omega arith; turnless = refl }), tt),
  )
  each-rotation (suc (suc (suc (suc (suc (suc zero)))))) q = (plain _ (record { least = omega arith; most = omega arith; turnless = refl }), tt)
  each-rotation (suc (suc (suc (suc (suc (suc (suc zero))))))) q = (plain _ (record { least = omega arith; most = omega arith; turnless = refl }), tt)
  each-rotation (suc (suc (suc (suc (suc (suc (suc (suc k)))))))) q = tt

  each-emit : (ws : List ℕ) (ss : List Step) → Each P (emit ws ss)
  unfolding Each emit
  each-emit ws [] = tt
  each-emit ws (cn p t ∷ ss) = (plain _ (record { least = omega arith; most = omega arith; turnless = refl }), each-emit ws ss)
  each-emit ws (rot q k ∷ ss) = each_append P (rotation (k % 8) (get_or ws q zero)) (emit ws ss) (each-rotation (k % 8) (get_or ws q zero)) (each-emit ws ss)

  each-flips : (rs : List Row) → Each P (flips_of rs)
  unfolding Each flips_of
  each-flips [] = tt
  each-flips (r ∷ rs) =
      split r.flips (λ e. rw e (plain _ (record { least = omega arith; most = omega arith; turnless = refl }), each-flips rs)) (λ e. rw e (each-flips rs))

  each-synth : (b : Block) (gs : List Gate) → synth b ≡ some gs → Each P gs
  unfolding synth
  each-synth b gs e = go (closing (held w (units n zero)) (map (λ r. r.parity) b.rows)) e
    where
      n : ℕ
      n = length b.rows

      ws : List ℕ
      ws = map (λ r. r.wire) b.rows

      w : List Step
      w = phase_walk n b.terms

      go : (o : Option (List Step)) → with_steps o (λ c. emit ws (w ++ c) ++ flips_of b.rows) ≡ some gs → Each P gs
      go none f = absurd (none-ne-some gs f)
      go (some c) f =
          subst (Each P) (some-injective (emit ws (w ++ c) ++ flips_of b.rows) gs f)
          (each_append P (emit ws (w ++ c)) (flips_of b.rows) (each-emit ws (w ++ c)) (each-flips b.rows))

  each-resynthesis : (gs : List Gate) → Each P gs → Each P (resynthesis gs)
  unfolding resynthesis
  each-resynthesis gs s = go (synth (block_of gs)) refl
    where
      go : (o : Option (List Gate)) → synth (block_of gs) ≡ o → Each P (or_else o gs)
      go none e = s
      go (some new) e = each-synth (block_of gs) new e

-- ---- the pass

-- by what holds of each gate that a run is written to
module _ (P : Gate → Type 0) (p : Plan) (written : (gs : List Gate) → Each P gs → Each P (writer_of p gs)) where
  each-changes : {ps : List Piece} {out : List Gate} {m n : ℕ} → Changes (writer_of p) ps out m n → Each P (text_of ps) → Each P out
  unfolding text_of Each
  each-changes end s = tt
  each-changes (copy g c) s = (s.0, each-changes c s.1)
  each-changes (keep {ps = ps} {out = out} gs e c) s = let r = each-parts P gs (text_of ps) s in each_append P gs out r.0 (each-changes c r.1)
  each-changes (replace {ps = ps} {out = out} gs e c) s =
      let r = each-parts P gs (text_of ps) s in
      each_append P (writer_of p gs) out (written gs r.0) (each-changes c r.1)

each-by : (P : Gate → Type 0) (q t : ℕ) → ((gs : List Gate) → Each P gs → Each P (writer_of (plan_of q t) gs)) → (gs : List Gate) → Each P gs → Each P (pass q t gs).gates
each-by P q t written gs s =
    let e = (promised q t gs).exactly in
    each-changes P (plan_of q t) written e.changes (subst (Each P) (sym e.whole) s)

-- what doesn't look at lines
module _ (P : Gate → Type 0) (plain : (g : Gate) → Plain g → P g) (blind : (n : ℕ) (g : Gate) → P g → P (with_line n g)) where
  each-stamp : (n : ℕ) (gs : List Gate) → Each P gs → Each P (stamp n gs)
  unfolding Each stamp
  each-stamp n [] s = tt
  each-stamp n (g ∷ gs) s = (blind n g s.0, each-stamp n gs s.1)

  pub each-pass : (q t : ℕ) (gs : List Gate) → Each P gs → Each P (pass q t gs).gates
  unfolding writer_of
  each-pass q t gs s = each-by P q t (λ run h. each-stamp (line_of run) (resynthesis run) (each-resynthesis P plain run h)) gs s

-- what looks at lines only
module _ (R : ℕ → Type 0) (none : R 0) where
  each-stamped : (n : ℕ) (gs : List Gate) → R n → Each (λ g. R g.line) (stamp n gs)
  unfolding Each stamp
  each-stamped n [] h = tt
  each-stamped n (g ∷ gs) h = (h, each-stamped n gs h)

  line_kept : (gs : List Gate) → Each (λ g. R g.line) gs → R (line_of gs)
  unfolding Each
  line_kept [] s = none
  line_kept (g ∷ gs) s = s.0

  pub each_line : (q t : ℕ) (gs : List Gate) → Each (λ g. R g.line) gs → Each (λ g. R g.line) (pass q t gs).gates
  unfolding writer_of
  each_line q t gs s = each-by (λ g. R g.line) q t (λ run h. each-stamped (line_of run) (resynthesis run) (line_kept run h)) gs s

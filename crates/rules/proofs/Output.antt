-- What the pass puts out is itself a list that it accepts, with the same wires and bits.
use mathlib.Core.Path.{◌≡◌, refl, sym, ap, ◌∙◌, subst}
use mathlib.Core.Logic.{◌≢◌}
use mathlib.Core.Bool.{Bool, true, false, and-false, false≢true}
use mathlib.Core.List.{List, [], ◌∷◌, ◌++◌, map}
use mathlib.Core.Option.{Option, none, some}
use Prim.Native.Nat.{ℕ, zero, suc, ◌/◌, ◌%◌, ◌≤◌, ◌<◌, zero-le, suc-le-suc}
use native.Mathlib.Nat.{not-suc-le-zero, le_of_suc-le-suc}
use native.Mathlib.Omega.{arith}
use lib.IntN.{ℤ, pos}
use lib.ListN.{length, length-append}
use lib.Dec.{eqb, leb}
use borrow.Author.Tests.{lt-leb, lt-ltb, ne_eqb}
use Rattle.rules.specs.Limits.{width}
use Rattle.rules.specs.Gate.{Gate, from, gate1, gate2, code_x, code_t, code_tdg, code_s, code_sdg, code_z, code_cnot}
use Rattle.rules.specs.Numbers.{gates_of, numbers_of}
use Rattle.rules.specs.Refusal.{accepted, fault_of, verdict}
use Rattle.rules.specs.Meaning.{Op, flip, phase, cnot, cz, other, op_of, op}
use Rattle.rules.specs.Fold.{Row, Block, fresh, empty, joined, row_of, add_row, join, entered, rows_by, absorb, fold}
use Rattle.rules.specs.Walk.{Step, cn, rot}
use Rattle.rules.specs.Synth.{rotation, emit, flips_of, synth, block_of, or_else, resynthesis}
use Rattle.rules.specs.Plan.{Plan, plan_of}
use Rattle.rules.specs.Scan.{Piece, copied, block, pieces_of, text_of, Writer, Plain, replaces, chosen, finish, pass_by}
use Rattle.rules.specs.Lines.{stamp, line_of, lined}
use Rattle.rules.specs.Promise.{Held}
use Rattle.rules.specs.Pass.{writer_of, pass}
use Rattle.rules.proofs.Bits.{split}
use Rattle.rules.proofs.Folding.{wires_of}
use Rattle.rules.proofs.Walking.{Within, within-append}
use Rattle.rules.proofs.Closing.{at, anywhere}
use Rattle.rules.proofs.Emitting.{Apart, apart-fold, index}
use Rattle.rules.proofs.Blocks.{size_of, walk_of, walk-within, closes, synth-of}
use Rattle.rules.proofs.Total.{SaneOp, Sane, Found, synth-total}
use Rattle.rules.proofs.Passing.{pieces-cut, chosen-thrifty, thrifty-le}
use Rattle.rules.proofs.Reading.{gates-length}
use Rattle.rules.proofs.Accepting.{Accepted, accepted-is, Fit, fit, Sound, sound-by, SoundAll, sound-append, sound-parts, accepted-sound, sound-accepted}

-- ---- how a sound gate acts

-- its wires are below w, and no wire stands twice
abbrev pub SoundOp : ℕ → Op → Type 0
SoundOp w (flip q) = q < w
SoundOp w (phase k q) = q < w
SoundOp w (cnot c t) = (c < w) × (t < w) × (c ≢ t)
SoundOp w (cz c t) = (c < w) × (t < w) × (c ≢ t)
SoundOp w other = Unit {0}

acts : (w b c x y z : ℕ) (t : ℤ) → Fit w b c x y z t → SoundOp w (op_of c x y t)
unfolding op_of
acts w b zero x y z t f = tt
acts w b (suc zero) x y z t f = f.first-in
acts w b (suc (suc zero)) x y z t f = f.first-in
acts w b (suc (suc (suc zero))) x y z t f = f.first-in
acts w b (suc (suc (suc (suc zero)))) x y z t f = f.first-in
acts w b (suc (suc (suc (suc (suc zero))))) x y z t f = f.first-in
acts w b (suc (suc (suc (suc (suc (suc zero)))))) x y z t f = f.first-in
acts w b (suc (suc (suc (suc (suc (suc (suc zero))))))) x y z t f = f.first-in
acts w b (suc (suc (suc (suc (suc (suc (suc (suc zero)))))))) x y z t f = (f.first-in, f.second-in refl, f.first-second refl)
acts w b (suc (suc (suc (suc (suc (suc (suc (suc (suc zero))))))))) x y z t f = (f.first-in, f.second-in refl, f.first-second refl)
acts w b (suc (suc (suc (suc (suc (suc (suc (suc (suc (suc c)))))))))) x y z t f = tt

pub sound-op : (w b : ℕ) (g : Gate) → Sound w b g → SoundOp w (op g)
unfolding op
sound-op w b g h = acts w b g.code g.first g.second g.third g.turn (fit w b (pos g.code) (pos g.first) (pos g.second) (pos g.third) g.turn (pos g.line) h)

sane-op : (w : ℕ) (o : Op) → SoundOp w o → SaneOp o
sane-op w (flip q) h = tt
sane-op w (phase k q) h = tt
sane-op w (cnot c t) h = h.2
sane-op w (cz c t) h = tt
sane-op w other h = tt

pub sane-of-sound : (w b : ℕ) (gs : List Gate) → SoundAll w b gs → Sane (map op gs)
unfolding SoundAll Sane
sane-of-sound w b [] h = tt
sane-of-sound w b (g ∷ gs) h = (sane-op w (op g) (sound-op w b g h.0), sane-of-sound w b gs h.1)

-- ---- the wires of a block's rows

unfoldable pub Below : ℕ → List Row → Type 0
Below w [] = Unit {0}
Below w (r ∷ rs) = (r.wire < w) × Below w rs

below-snoc : (w : ℕ) (rs : List Row) (r : Row) → Below w rs → r.wire < w → Below w (rs ++ (r ∷ []))
unfolding Below
below-snoc w [] r h k = (k, tt)
below-snoc w (a ∷ rs) r h k = (h.0, below-snoc w rs r h.1 k)

below-join : (w q : ℕ) (rs : List Row) → q < w → Below w rs → Below w (join q rs)
unfolding join
below-join w q rs k h = split (joined q rs) (λ e. rw e h) (λ e. rw e (below-snoc w rs (fresh q (length rs)) h k))

below-add : (w q p : ℕ) (b : Bool) (rs : List Row) → Below w rs → Below w (add_row q p b rs)
unfolding Below add_row
below-add w q p b [] h = tt
below-add w q p b (r ∷ rs) h = split (eqb r.wire q) (λ e. rw e h) (λ e. rw e (h.0, below-add w q p b rs h.1))

below-absorb : (w : ℕ) (o : Op) (b : Block) → SoundOp w o → Below w b.rows → Below w (absorb o b).rows
unfolding absorb entered rows_by
below-absorb w (flip q) b s h = below-add w q zero true (join q b.rows) (below-join w q b.rows s h)
below-absorb w (phase k q) b s h = below-join w q b.rows s h
below-absorb w (cnot c t) b s h =
    let rs : List Row = join t (join c b.rows) in
    below-add w t (row_of c rs).parity (row_of c rs).flips rs (below-join w t (join c b.rows) s.1 (below-join w c b.rows s.0 h))
below-absorb w (cz c t) b s h = below-join w t (join c b.rows) s.1 (below-join w c b.rows s.0 h)
below-absorb w other b s h = h

below-fold : (w b : ℕ) (gs : List Gate) (k : Block) → SoundAll w b gs → Below w k.rows → Below w (fold (map op gs) k).rows
unfolding SoundAll fold
below-fold w b [] k s h = h
below-fold w b (g ∷ gs) k s h = below-fold w b gs (absorb (op g) k) s.1 (below-absorb w (op g) k (sound-op w b g s.0) h)

pub below-block : (w b : ℕ) (gs : List Gate) → SoundAll w b gs → Below w (block_of gs).rows
unfolding block_of Below
below-block w b gs s = below-fold w b gs empty s tt

pub apart-block : (gs : List Gate) → Apart (block_of gs).rows
unfolding block_of Apart
apart-block gs = apart-fold (map op gs) empty tt

pub below_at : (w : ℕ) (rs : List Row) (i : ℕ) → Below w rs → i < length (wires_of rs) → at (wires_of rs) i < w
unfolding Below
below_at w [] i h k = absurd (not-suc-le-zero k)
below_at w (r ∷ rs) zero h k = h.0
below_at w (r ∷ rs) (suc i) h k = below_at w rs i h.1 (le_of_suc-le-suc k)

-- ---- emitted gates

-- x, t, tdg, s, sdg and z
pub sound-one : (w b c q : ℕ) → from 1 code_z c ≡ true → q < w → Sound w b (gate1 c q)
sound-one w b zero q e h = absurd (false≢true e)
sound-one w b (suc zero) q e h = sound-by w b (gate1 1 q) (rw (lt-ltb q w h))
sound-one w b (suc (suc zero)) q e h = sound-by w b (gate1 2 q) (rw (lt-ltb q w h))
sound-one w b (suc (suc (suc zero))) q e h = sound-by w b (gate1 3 q) (rw (lt-ltb q w h))
sound-one w b (suc (suc (suc (suc zero)))) q e h = sound-by w b (gate1 4 q) (rw (lt-ltb q w h))
sound-one w b (suc (suc (suc (suc (suc zero))))) q e h = sound-by w b (gate1 5 q) (rw (lt-ltb q w h))
sound-one w b (suc (suc (suc (suc (suc (suc zero)))))) q e h = sound-by w b (gate1 6 q) (rw (lt-ltb q w h))
sound-one w b (suc (suc (suc (suc (suc (suc (suc c))))))) q e h = absurd (other-code (suc (suc (suc (suc (suc (suc (suc c))))))) (omega arith) e)
  where
    other-code : (n : ℕ) → code_z < n → from 1 code_z n ≡ true → ⊥
    other-code n l f = false≢true (sym (and-false (leb 1 n)) ∙ rw (lt-leb n code_z l) at f)

pub sound-cnot : (w b p q : ℕ) → p < w → q < w → p ≢ q → Sound w b (gate2 code_cnot p q)
sound-cnot w b p q hp hq ne = sound-by w b (gate2 code_cnot p q) (rw (lt-ltb p w hp, lt-ltb q w hq, ne_eqb p q ne))

pub sound-rotation : (w b k q : ℕ) → q < w → SoundAll w b (rotation k q)
unfolding SoundAll rotation
sound-rotation w b zero q h = tt
sound-rotation w b (suc zero) q h = (sound-one w b code_t q refl h, tt)
sound-rotation w b (suc (suc zero)) q h = (sound-one w b code_s q refl h, tt)
sound-rotation w b (suc (suc (suc zero))) q h = (sound-one w b code_s q refl h, (sound-one w b code_t q refl h, tt))
sound-rotation w b (suc (suc (suc (suc zero)))) q h = (sound-one w b code_z q refl h, tt)
sound-rotation w b (suc (suc (suc (suc (suc zero))))) q h = (sound-one w b code_z q refl h, (sound-one w b code_t q refl h, tt))
sound-rotation w b (suc (suc (suc (suc (suc (suc zero)))))) q h = (sound-one w b code_sdg q refl h, tt)
sound-rotation w b (suc (suc (suc (suc (suc (suc (suc zero))))))) q h = (sound-one w b code_tdg q refl h, tt)
sound-rotation w b (suc (suc (suc (suc (suc (suc (suc (suc k)))))))) q h = tt

-- steps within the block's indices: different indices have different wires
pub sound-emit : (w b : ℕ) (rs : List Row) → Apart rs → Below w rs → (C M : ℕ → Bool) (ss : List Step) → Within (length (wires_of rs)) C M ss
    → SoundAll w b (emit (wires_of rs) ss)
unfolding SoundAll emit Within
sound-emit w b rs a h C M [] k = tt
sound-emit w b rs a h C M (cn p t ∷ ss) k = (
  sound-cnot w b (at (wires_of rs) p) (at (wires_of rs) t) (below_at w rs p h k.0.0) (below_at w rs t h k.0.1)
      (λ e. k.0.2 (index rs a p t k.0.0 k.0.1 e)),
  sound-emit w b rs a h C M ss k.1,
)
sound-emit w b rs a h C M (rot q r ∷ ss) k =
    sound-append w b (rotation (r % 8) (at (wires_of rs) q)) (emit (wires_of rs) ss)
    (sound-rotation w b (r % 8) (at (wires_of rs) q) (below_at w rs q h k.0)) (sound-emit w b rs a h C M ss k.1)

pub sound-flips : (w b : ℕ) (rs : List Row) → Below w rs → SoundAll w b (flips_of rs)
unfolding SoundAll flips_of Below
sound-flips w b [] h = tt
sound-flips w b (r ∷ rs) h =
    split r.flips (λ e. rw e (sound-one w b code_x r.wire refl h.0, sound-flips w b rs h.1)) (λ e. rw e (sound-flips w b rs h.1))

pub sound-synth : (w b : ℕ) (k : Block) (new : List Gate) → Apart k.rows → Below w k.rows → synth k ≡ some new → SoundAll w b new
sound-synth w b k new a h e =
    let made = synth-of k new e in
    let c : List Step = made.steps in
    let steps : Within (size_of k) anywhere anywhere (walk_of k ++ c) =
    within-append (size_of k) anywhere anywhere (walk_of k) c (walk-within k) (closes k a (λ _. false) c made.closed).within in
    subst (SoundAll w b) made.gates
    (sound-append w b (emit (wires_of k.rows) (walk_of k ++ c)) (flips_of k.rows)
    (sound-emit w b k.rows a h anywhere anywhere (walk_of k ++ c) steps) (sound-flips w b k.rows h))

-- ---- the resynthesis

-- a pivot and a donor always exist
pub resynthesis-found : (w b : ℕ) (gs : List Gate) → SoundAll w b gs → Found (synth (block_of gs))
unfolding block_of
resynthesis-found w b gs s = synth-total (map op gs) (sane-of-sound w b gs s)

pub resynthesis-of : (gs new : List Gate) → synth (block_of gs) ≡ some new → resynthesis gs ≡ new
unfolding resynthesis
resynthesis-of gs new e = ap (λ (o : Option (List Gate)). or_else o gs) e

pub resynthesis-is : (w b : ℕ) (gs : List Gate) → SoundAll w b gs → (new : List Gate) × (synth (block_of gs) ≡ some new) × (resynthesis gs ≡ new)
unfolding Found
resynthesis-is w b gs s = let r = resynthesis-found w b gs s in (r.0, r.1, resynthesis-of gs r.0 r.1)

pub resynthesis-sound : (w b : ℕ) (gs : List Gate) → SoundAll w b gs → SoundAll w b (resynthesis gs)
unfolding resynthesis
resynthesis-sound w b gs s = go (synth (block_of gs)) refl
  where
    go : (o : Option (List Gate)) → synth (block_of gs) ≡ o → SoundAll w b (or_else o gs)
    go none e = s
    go (some new) e = sound-synth w b (block_of gs) new (apart-block gs) (below-block w b gs s) e

-- no line that the pass gives is refused
pub stamp-sound : (w b n : ℕ) (gs : List Gate) → SoundAll w b gs → SoundAll w b (stamp n gs)
unfolding SoundAll stamp fault_of
stamp-sound w b n [] h = tt
stamp-sound w b n (g ∷ gs) h = (h.0, stamp-sound w b n gs h.1)

-- ---- the pass over any writer

finish-length : (write : Writer) (ps : List Piece) → length (finish write ps).gates ≤ length (text_of ps)
unfolding finish text_of
finish-length write [] = zero-le
finish-length write (copied g ∷ ps) = suc-le-suc (finish-length write ps)
finish-length write (block gs ∷ ps) =
    omega (arith, length-append (chosen write gs) (finish write ps).gates, length-append gs (text_of ps), (thrifty-le (chosen-thrifty write gs)).0, finish-length write ps)

-- the output is no longer than the input
pub output-length : (write : Writer) (p : Plan) (gs : List Gate) → length (pass_by write p gs).gates ≤ length gs
unfolding pass_by
output-length write p gs = omega (arith, ap length (pieces-cut p gs).whole, finish-length write (pieces_of p gs))

-- what the theorem asks of a writer: sound gates of the fragment become sound gates
abbrev pub KeepsSound : ℕ → ℕ → Writer → Type 0
KeepsSound w b write = (gs : List Gate) → Plain gs → SoundAll w b gs → SoundAll w b (write gs)

module _ (w b : ℕ) (write : Writer) (keeps : KeepsSound w b write) where
  chosen-sound : (gs : List Gate) → Plain gs → SoundAll w b gs → SoundAll w b (chosen write gs)
  unfolding chosen
  chosen-sound gs p s = split (replaces write gs) (λ e. rw e (keeps gs p s)) (λ e. rw e s)

  finish-sound : (ps : List Piece) → Held ps → SoundAll w b (text_of ps) → SoundAll w b (finish write ps).gates
  unfolding finish text_of Held SoundAll
  finish-sound [] p s = tt
  finish-sound (copied g ∷ ps) p s = (s.0, finish-sound ps p s.1)
  finish-sound (block gs ∷ ps) p s =
      let r = sound-parts w b gs (text_of ps) s in
      sound-append w b (chosen write gs) (finish write ps).gates (chosen-sound gs p.0.1 r.0) (finish-sound ps p.1 r.1)

  pub output-sound : (p : Plan) (gs : List Gate) → SoundAll w b gs → SoundAll w b (pass_by write p gs).gates
  unfolding pass_by
  output-sound p gs s = let c = pieces-cut p gs in finish-sound (pieces_of p gs) c.held (subst (SoundAll w b) (sym c.whole) s)

  pub output-accepted-by : (l : List ℤ) (out terms steps : ℕ) → verdict l w b out terms steps ≡ accepted
      → (p : Plan) → verdict (numbers_of (pass_by write p (gates_of l)).gates) w b out terms steps ≡ accepted
  output-accepted-by l out terms steps e p =
      let a : Accepted l w b out terms steps = accepted-is l w b out terms steps e in
      let gs : List Gate = gates_of l in
      let new : List Gate = (pass_by write p gs).gates in
      let short : length new ≤ length gs = output-length write p gs in
      let size : length gs ≡ length l / width = gates-length l in
      sound-accepted new w b out terms steps (output-sound p gs (accepted-sound l w b out terms steps e))
      (omega arith) a.wires a.bits (omega arith) (omega arith) (omega arith)

-- ---- document 01's pass

pub plan-sound : (w b : ℕ) (p : Plan) → KeepsSound w b (writer_of p)
unfolding writer_of lined
plan-sound w b p gs h s = stamp-sound w b (line_of gs) (resynthesis gs) (resynthesis-sound w b gs s)

pub output-accepted : (l : List ℤ) (w b out terms steps : ℕ) → verdict l w b out terms steps ≡ accepted
    → (q t : ℕ) → verdict (numbers_of (pass q t (gates_of l)).gates) w b out terms steps ≡ accepted
unfolding pass
output-accepted l w b out terms steps e q t = let p = plan_of q t in output-accepted-by w b (writer_of p) (plan-sound w b p) l out terms steps e p

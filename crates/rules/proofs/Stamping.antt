-- Lines: a stamp changes nothing else, so a writer with lines around it keeps the laws of the writer in it; where the lines of the output come from;
-- and what the pass is over the first five fields.
use mathlib.Core.Path.{◌≡◌, refl, sym, ap, ap₂, ◌∙◌, subst}
use mathlib.Core.Logic.{◌⊎◌, inl, inr}
use mathlib.Core.Bool.{true, cond}
use mathlib.Core.List.{List, [], ◌∷◌, ◌++◌, map}
use Prim.Native.Nat.{ℕ, zero, suc, ◌<◌}
use native.Mathlib.Omega.{arith}
use lib.ListN.{length, replicate}
use Rattle.rules.specs.Gate.{Gate}
use Rattle.rules.specs.Meaning.{Op, op}
use Rattle.rules.specs.Stretch.{Stretchwise}
use Rattle.rules.specs.Counts.{twos, ts, cheaper}
use Rattle.rules.specs.Fold.{empty, fold}
use Rattle.rules.specs.Synth.{block_of}
use Rattle.rules.specs.Plan.{Plan}
use Rattle.rules.specs.Scan.{takes, Piece, copied, block, closed, cut, pieces_of, Writer, Plain, Lawful, Sparing, replaces, chosen, finish, pass_by}
use Rattle.rules.specs.Lines.{with_line, stamp, line_of, lined, lines, lines_after, LineIn, LinesFrom, Lining, unlined, five_of, Blind}
use Rattle.rules.proofs.Bits.{split}
use Rattle.rules.proofs.Emitting.{map_app}
use Rattle.rules.proofs.Passing.{pass-stretches, cheaper-is}

-- ---- a stamp changes lines only

module _ (n : ℕ) where
  pub stamp-length : (gs : List Gate) → length (stamp n gs) ≡ length gs
  unfolding stamp
  stamp-length [] = refl
  stamp-length (g ∷ gs) = ap suc (stamp-length gs)

  pub stamp-op : (gs : List Gate) → map op (stamp n gs) ≡ map op gs
  unfolding stamp op
  stamp-op [] = refl
  stamp-op (g ∷ gs) = ap (λ (os : List Op). op g ∷ os) (stamp-op gs)

  pub stamp-twos : (gs : List Gate) → twos (stamp n gs) ≡ twos gs
  unfolding stamp twos
  stamp-twos [] = refl
  stamp-twos (g ∷ gs) = omega (arith, stamp-twos gs)

  pub stamp-ts : (gs : List Gate) → ts (stamp n gs) ≡ ts gs
  unfolding stamp ts
  stamp-ts [] = refl
  stamp-ts (g ∷ gs) = omega (arith, stamp-ts gs)

  pub stamp-plain : (gs : List Gate) → Plain gs → Plain (stamp n gs)
  unfolding stamp Plain op
  stamp-plain [] h = tt
  stamp-plain (g ∷ gs) h = (h.0, stamp-plain gs h.1)

  pub stamp-append : (us vs : List Gate) → stamp n (us ++ vs) ≡ stamp n us ++ stamp n vs
  unfolding stamp
  stamp-append [] vs = refl
  stamp-append (u ∷ us) vs = ap (λ (l : List Gate). with_line n u ∷ l) (stamp-append us vs)

  -- the last stamp is seen
  pub stamp-stamp : (m : ℕ) (gs : List Gate) → stamp n (stamp m gs) ≡ stamp n gs
  unfolding stamp
  stamp-stamp m [] = refl
  stamp-stamp m (g ∷ gs) = ap (λ (l : List Gate). with_line n g ∷ l) (stamp-stamp m gs)

  pub stamp-lines : (gs : List Gate) → lines (stamp n gs) ≡ replicate (length gs) n
  unfolding stamp
  stamp-lines [] = refl
  stamp-lines (g ∷ gs) = ap (λ (l : List ℕ). n ∷ l) (stamp-lines gs)

  -- the block of a run and which writing is cheaper don't depend on lines
  pub stamp-block : (gs : List Gate) → block_of (stamp n gs) ≡ block_of gs
  unfolding block_of
  stamp-block gs = ap (λ (os : List Op). fold os empty) (stamp-op gs)

  pub stamp-cheaper : (new old : List Gate) → cheaper (stamp n new) old ≡ cheaper new old
  unfolding cheaper
  stamp-cheaper new old = rw (stamp-length new, stamp-twos new)

  pub stamp-dearer : (new old : List Gate) → cheaper new (stamp n old) ≡ cheaper new old
  unfolding cheaper
  stamp-dearer new old = rw (stamp-length old, stamp-twos old)

-- ---- the laws of a writer with lines around it

module _ (write : Writer) where
  pub lined-lawful : Lawful write → Lawful (lined write)
  unfolding lined
  lined-lawful law =
      record {
        alike = λ gs h. rw (stamp-op (line_of gs) (write gs)) (law.alike gs h);
        plain = λ gs h. stamp-plain (line_of gs) (write gs) (law.plain gs h);
      }

  pub lined-sparing : Sparing write → Sparing (lined write)
  unfolding lined
  lined-sparing law = record { spares = λ gs h. rw (stamp-ts (line_of gs) (write gs)) (law.spares gs h) }

  pub lined-lining : Lining (lined write)
  unfolding lined
  lined-lining = record { takes = λ gs. stamp-stamp (line_of gs) (line_of gs) (write gs) }

  -- the same blocks are replaced
  pub lined-replaces : (gs : List Gate) → replaces (lined write) gs ≡ replaces write gs
  unfolding lined replaces
  lined-replaces gs = stamp-cheaper (line_of gs) (write gs) gs

-- ---- the lines out, gate by gate

module _ (write : Writer) (law : Lining write) where
  finish-lines : (ps : List Piece) → lines (finish write ps).gates ≡ lines_after write ps
  unfolding finish chosen lines_after
  finish-lines [] = refl
  finish-lines (copied g ∷ ps) = ap (λ (l : List ℕ). g.line ∷ l) (finish-lines ps)
  finish-lines (block gs ∷ ps) = map_app (λ (g : Gate). g.line) (chosen write gs) (finish write ps).gates ∙ ap₂ ◌++◌ here (finish-lines ps)
    where
      new : lines (write gs) ≡ replicate (length (write gs)) (line_of gs)
      new = ap lines (sym (law.takes gs)) ∙ stamp-lines (line_of gs) (write gs)

      here : lines (chosen write gs) ≡ cond (replaces write gs) (replicate (length (write gs)) (line_of gs)) (lines gs)
      here = split (replaces write gs) (λ e. rw e new) (λ e. rw e)

  pub pass-lines : (p : Plan) (gs : List Gate) → lines (pass_by write p gs).gates ≡ lines_after write (pieces_of p gs)
  unfolding pass_by
  pass-lines p gs = finish-lines (pieces_of p gs)

-- ---- each line out is that of a gate of the same stretch

line-left : (n : ℕ) (us vs : List Gate) → LineIn n us → LineIn n (us ++ vs)
unfolding LineIn
line-left n [] vs h = absurd h
line-left n (u ∷ us) vs (inl e) = inl e
line-left n (u ∷ us) vs (inr h) = inr (line-left n us vs h)

line-right : (n : ℕ) (us vs : List Gate) → LineIn n vs → LineIn n (us ++ vs)
unfolding LineIn
line-right n [] vs h = h
line-right n (u ∷ us) vs h = inr (line-right n us vs h)

from-left : (us ws vs : List Gate) → LinesFrom us ws → LinesFrom us (ws ++ vs)
unfolding LinesFrom
from-left [] ws vs h = tt
from-left (u ∷ us) ws vs h = (line-left u.line ws vs h.0, from-left us ws vs h.1)

from-right : (us ws vs : List Gate) → LinesFrom us vs → LinesFrom us (ws ++ vs)
unfolding LinesFrom
from-right [] ws vs h = tt
from-right (u ∷ us) ws vs h = (line-right u.line ws vs h.0, from-right us ws vs h.1)

from-both : (us vs ws : List Gate) → LinesFrom us ws → LinesFrom vs ws → LinesFrom (us ++ vs) ws
unfolding LinesFrom
from-both [] vs ws h k = k
from-both (u ∷ us) vs ws h k = (h.0, from-both us vs ws h.1 k)

from-same : (us : List Gate) → LinesFrom us us
unfolding LinesFrom LineIn
from-same [] = tt
from-same (u ∷ us) = (inl refl, from-right us (u ∷ []) us (from-same us))

from-append : (us us' vs vs' : List Gate) → LinesFrom us us' → LinesFrom vs vs' → LinesFrom (us ++ vs) (us' ++ vs')
from-append us us' vs vs' h k = from-both us vs (us' ++ vs') (from-left us us' vs' h) (from-right vs us' vs' k)

from-stamp : (n : ℕ) (us ws : List Gate) → LineIn n ws → LinesFrom (stamp n us) ws
unfolding LinesFrom stamp
from-stamp n [] ws h = tt
from-stamp n (u ∷ us) ws h = (h, from-stamp n us ws h)

-- a block that is replaced holds a gate, and its line is taken
from-written : (write : Writer) → Lining write → (gs : List Gate) → cheaper (write gs) gs ≡ true → LinesFrom (write gs) gs
unfolding LineIn twos
from-written write law [] e = absurd (never (cheaper-is (write []) [] e).2)
  where
    never : ((length (write []) < 0) ⊎ (twos (write []) < twos [])) → ⊥
    never (inl h) = omega arith
    never (inr h) = omega arith
from-written write law (g ∷ gs) e = subst (λ (l : List Gate). LinesFrom l (g ∷ gs)) (law.takes (g ∷ gs)) (from-stamp g.line (write (g ∷ gs)) (g ∷ gs) (inl refl))

pub traced : (write : Writer) → ((gs : List Gate) → Plain gs → Plain (write gs)) → Lining write
    → (p : Plan) (gs : List Gate) → Stretchwise LinesFrom (pass_by write p gs).gates gs
unfolding chosen replaces
traced write plain law p gs = pass-stretches write plain LinesFrom (record { same = from-same; append = from-append }) each p gs
  where
    each : (gs : List Gate) → Plain gs → LinesFrom (chosen write gs) gs
    each gs h = split (cheaper (write gs) gs) (λ e. rw e (from-written write law gs e)) (λ e. rw e (from-same gs))

-- ---- the first five fields

-- a piece without lines
abbrev bare : Piece → Piece
bare (copied g) = copied (with_line zero g)
bare (block gs) = block (unlined gs)

closed-bare : (run : List Gate) (ps : List Piece) → closed (unlined run) (map bare ps) ≡ map bare (closed run ps)
unfolding stamp
closed-bare [] ps = refl
closed-bare (g ∷ run) ps = refl

-- the list is cut at the same gates
cut-bare : (p : Plan) (run gs : List Gate) → cut p (unlined run) (unlined gs) ≡ map bare (cut p run gs)
unfolding cut stamp op
cut-bare p run [] = closed-bare run []
cut-bare p run (g ∷ gs) =
    rw (stamp-block zero run)
    (split (takes p (op g) (block_of run))
    (λ e. rw e (ap (λ (l : List Gate). cut p l (unlined gs)) (sym (stamp-append zero run (g ∷ []))) ∙ cut-bare p (run ++ (g ∷ [])) gs))
    (λ e. split (takes p (op g) empty)
    (λ f. rw (e, f) (ap (closed (unlined run)) (cut-bare p (g ∷ []) gs) ∙ closed-bare run (cut p (g ∷ []) gs)))
    (λ f. rw (e, f) (ap (λ (ps : List Piece). closed (unlined run) (copied (with_line zero g) ∷ ps)) (cut-bare p [] gs) ∙ closed-bare run (copied g ∷ cut p [] gs)))))

module _ (write : Writer) (law : Blind write) where
  bare-replaces : (gs : List Gate) → replaces write (unlined gs) ≡ replaces (lined write) gs
  unfolding replaces
  bare-replaces gs =
      ap (λ (l : List Gate). cheaper l (unlined gs)) (sym (law.sees gs)) ∙ stamp-cheaper zero (write gs) (unlined gs) ∙ stamp-dearer zero (write gs) gs
      ∙ sym (lined-replaces write gs)

  bare-chosen : (gs : List Gate) → chosen write (unlined gs) ≡ unlined (chosen (lined write) gs)
  unfolding chosen lined
  bare-chosen gs =
      rw (bare-replaces gs)
      (split (replaces (lined write) gs) (λ e. rw e (sym (stamp-stamp zero (line_of gs) (write gs) ∙ law.sees gs))) (λ e. rw e))

  bare-finish : (ps : List Piece) → finish write (map bare ps) ≡ five_of (finish (lined write) ps)
  unfolding finish stamp
  bare-finish [] = refl
  bare-finish (copied g ∷ ps) = rw (bare-finish ps)
  bare-finish (block gs ∷ ps) =
      rw (bare-finish ps, bare-chosen gs, bare-replaces gs, stamp-append zero (chosen (lined write) gs) (finish (lined write) ps).gates)

  -- with the lines left off, the pass with lines is the pass without, of the list without
  pub pass-five : (p : Plan) (gs : List Gate) → five_of (pass_by (lined write) p gs) ≡ pass_by write p (unlined gs)
  unfolding pass_by pieces_of stamp
  pass-five p gs = sym (ap (finish write) (cut-bare p [] gs) ∙ bare-finish (cut p [] gs))

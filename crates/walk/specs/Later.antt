-- Flips that wait: in place of a pass over all that waits for each CNOT, the columns that a target has had, and up to where the terms have yet to take note.
use Rattle.std.specs.Prelude.{◌≡◌, false, List, ◌++◌, ℕ, ◌≤◌, ◌<◌, take, drop, length}
use Rattle.std.proofs.Math.Seq.{slice}
use Rattle.rules.specs.Bit.{bit}
use Rattle.rules.specs.Fold.{Term}
use Rattle.rules.specs.Shortcuts.{flip_terms}
use Rattle.parity.specs.View.{val}
use Rattle.terms.specs.Terms.{Begins}
use Rattle.walk.specs.declared.Pending.{Pending}

-- the terms from a up to e have a mask's columns flipped where they have t
unfoldable pub flip_between : ℕ → ℕ → ℕ → ℕ → List Term → List Term
flip_between mask t a e ts = take a ts ++ (flip_terms mask t (slice a e ts) ++ drop e ts)

-- the terms as they are now: those before `upto` with the flips that they wait for
unfoldable pub current : Pending → List Term → List Term
current p ts = flip_terms (val p.mask) p.target (take p.upto ts) ++ drop p.upto ts

-- no flips wait
abbrev pub no_flips : Pending
no_flips = record { mask = record { lo = 0; hi = 0 }; target = 0; upto = 0 }

-- of n terms: the target is a column, but none of the mask
pub record Waits (p : Pending) (n : ℕ) : Type 0 where
  pub column : p.target < 128
  pub apart : bit (val p.mask) p.target ≡ false
  pub fits : p.upto ≤ n

-- the terms from `from` on wait for nothing, and all are now what they were
pub record Settles (from : ℕ) (p p' : Pending) (ts ts' : List Term) : Type 0 where
  pub same : current p' ts' ≡ current p ts
  pub upto : p'.upto ≤ from
  pub waits : Waits p' (length ts')

-- CNOTs to t from the columns of a mask pass the terms before `start`
pub record Deferred (mask t start : ℕ) (p p' : Pending) (ts ts' : List Term) : Type 0 where
  pub terms : Begins (flip_terms mask t (take start (current p ts))) start start (current p ts) (current p' ts')
  pub upto : p'.upto ≤ start
  pub waits : Waits p' (length ts')

-- A run over a list, gate by gate; and what the functions ask of a gate that was read.
use mathlib.Core.Path.{◌≡◌, refl, sym, ap, ◌∙◌, subst}
use mathlib.Core.Bool.{Bool}
use mathlib.Core.List.{List, [], ◌∷◌, ◌++◌, append-nil}
use Prim.Native.Nat.{ℕ, zero, suc, ◌+◌, ◌-◌, ◌/◌, ◌≤◌, ◌<◌}
use native.Mathlib.Numerals.{add-one}
use native.Mathlib.Omega.{arith}
use lib.IntN.{ℤ}
use lib.ListN.{length}
use Rattle.rules.specs.Limits.{width, max_columns}
use Rattle.rules.specs.Meaning.{Op, op}
use Rattle.rules.specs.Fold.{Term, signed}
use Rattle.rules.specs.Numbers.{gate_at, gates_from, gates_of}
use Rattle.rules.proofs.Accepting.{Fit, fit_at}
use Rattle.gate.specs.Reading.{Reads}
use Rattle.gate.specs.declared.Gate.{Gate}
use Rattle.parity.specs.declared.Parity.{Parity}
use Rattle.rows.specs.Rows.{rows_of}
use Rattle.block.proofs.Using.{wired-read}
use Rattle.acting.specs.Table.{Table, act, turns, table_of, turns_of}
use Rattle.lanes.specs.Lanes.{Notes}
use Rattle.lanes.specs.declared.Lanes.{Lanes}
use Rattle.lanes.proofs.Noting.{notes-none, notes-then}
use Rattle.compare.specs.View.{ops_of, ops_from, backed, Ready, Fine, Passes}

pub backed-append : (b : Bool) (ts us : List Term) → backed b (ts ++ us) ≡ backed b ts ++ backed b us
unfolding backed
backed-append b [] us = refl
backed-append b (t ∷ ts) us = ap (λ (l : List Term). record { parity = t.parity; turn = signed b t.turn } ∷ l) (backed-append b ts us)

module _ (i : ℕ) (back : Bool) where
  passes_none : (b : Table) (s : Lanes) → Passes [] i back b s b s
  unfolding table_of turns_of backed
  passes_none b s = record { table = refl; sums = notes-none i s }

  pub step-passes : (o : Op) (b : Table) (s : Lanes) (b' : Table) (s' : Lanes) → b' ≡ act o b → Notes i (backed back (turns o b)) s s'
      → Passes (o ∷ []) i back b s b' s'
  unfolding table_of turns_of
  step-passes o b s b' s' h k = record { table = h; sums = rw (append-nil (turns o b)) k }

  -- one operation, then others
  passes-cons : (o : Op) (os : List Op) (b : Table) (s : Lanes) (b' : Table) (s' : Lanes) (b'' : Table) (s'' : Lanes)
      → Passes (o ∷ []) i back b s b' s' → Passes os i back b' s' b'' s'' → Passes (o ∷ os) i back b s b'' s''
  unfolding table_of turns_of
  passes-cons o os b s b' s' b'' s'' f g = record {
    table = g.table ∙ ap (table_of os) f.table;
    sums = subst (λ (ts : List Term). Notes i ts s s'') joined (notes-then i (backed back (turns o b)) (backed back (turns_of os b')) s s' s'' (rw (append-nil (turns o b)) at f.sums) g.sums);
  }
    where
      joined : backed back (turns o b) ++ backed back (turns_of os b') ≡ backed back (turns o b ++ turns_of os (act o b))
      joined = ap (λ (z : Table). backed back (turns o b) ++ backed back (turns_of os z)) f.table ∙ sym (backed-append back (turns o b) (turns_of os (act o b)))

-- what is left of a list, from place k on, ends where the whole does
pub record Left (l : List ℤ) (n i : ℕ) (back : Bool) (b₀ : Table) (s₀ : Lanes) (k : ℕ) (b : Table) (s : Lanes) : Type 0 where
  pub on : (b' : Table) (s' : Lanes) → Passes (ops_from l (n - k) k) i back b s b' s' → Passes (ops_from l n zero) i back b₀ s₀ b' s'

module _ (l : List ℤ) (n i : ℕ) (back : Bool) (b₀ : Table) (s₀ : Lanes) where
  pub left-start : Left l n i back b₀ s₀ zero b₀ s₀
  left-start = let e : n - zero ≡ n = omega arith in record { on = λ b' s' h. rw e at h }

  ops-next : (k : ℕ) → k < n → ops_from l (n - k) k ≡ op (gate_at l k) ∷ ops_from l (n - (k + 1)) (k + 1)
  unfolding ops_from gates_from
  ops-next k h = let e : n - k ≡ suc (n - (k + 1)) = omega arith in rw (e, add-one k)

  pub left-next : (k : ℕ) (o : Op) (b : Table) (s : Lanes) (b' : Table) (s' : Lanes) → k < n → o ≡ op (gate_at l k)
      → Passes (o ∷ []) i back b s b' s' → Left l n i back b₀ s₀ k b s → Left l n i back b₀ s₀ (k + 1) b' s'
  left-next k o b s b' s' h e f g =
      let rest : List Op = ops_from l (n - (k + 1)) (k + 1) in
      let os : ops_from l (n - k) k ≡ o ∷ rest = ops-next k h ∙ ap (λ (z : Op). z ∷ rest) (sym e) in
      record { on = λ b'' s'' p. g.on b'' s'' (rw os (passes-cons i back o rest b s b' s' b'' s'' f p)) }

  pub left_end : (k : ℕ) (b : Table) (s : Lanes) → n ≤ k → n ≡ length l / width → Left l n i back b₀ s₀ k b s → Passes (ops_of l) i back b₀ s₀ b s
  unfolding ops_from gates_from ops_of gates_of
  left_end k b s h e f = let z : n - k ≡ zero = omega arith in rw (← e) (f.on b s (rw z (passes_none i back b s)))

pub ready : (l : List ℤ) (w k : ℕ) (g : Gate) (rows : List Parity) → Fine l w → k < length l / width → Reads (gate_at l k) g → length (rows_of rows) ≡ w → w ≤ max_columns → Ready g rows
ready l w k g rows f h r e m =
    let t : Fit w zero (gate_at l k).code (gate_at l k).first (gate_at l k).second (gate_at l k).third (gate_at l k).turn = fit_at l w zero k (f.sound k h) in
    record {
      wired = wired-read w zero (gate_at l k) g (rows_of rows) t r e;
      least = omega (arith, t.least, r.code);
      most = omega (arith, f.plain k h, r.code);
      few = omega arith;
    }

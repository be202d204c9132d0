-- Document 01's resynthesis is a lawful and sparing writer that looks at no line, so all that holds of such a writer's pass holds of the pass.
use mathlib.Core.Path.{◌≡◌, refl, sym, ap, ap₂, ◌∙◌, subst}
use mathlib.Core.List.{List, [], ◌∷◌, ◌++◌, map}
use mathlib.Core.Option.{Option, none, some}
use Prim.Native.Nat.{ℕ, zero, suc, ◌%◌, ◌≤◌}
use lib.ListN.{get_or}
use Rattle.rules.specs.Gate.{Gate, gate1, gate2, code_x, code_cnot}
use Rattle.rules.specs.Meaning.{op, Alike}
use Rattle.rules.specs.Fold.{Row, Block, empty, fold}
use Rattle.rules.specs.Walk.{Step, cn, rot}
use Rattle.rules.specs.Synth.{rotation, emit, flips_of, synth, block_of, or_else, resynthesis}
use Rattle.rules.specs.Scan.{Writer, Plain, Lawful, Sparing, pass_by}
use Rattle.rules.specs.Lines.{stamp, Lining, unlined, five_of, Blind}
use Rattle.rules.specs.Promise.{Promised}
use Rattle.rules.specs.Plan.{Plan, plan_of}
use Rattle.rules.specs.Pass.{writer_of, pass, counts}
use Rattle.rules.proofs.Bits.{split}
use Rattle.rules.proofs.Folding.{wires_of}
use Rattle.rules.proofs.Blocks.{walk_of, synth-of, block-alike}
use Rattle.rules.proofs.Passing.{plain-append, alike_refl, exactly, stretches, stretch-by-stretch, spared, no_more}
use Rattle.rules.proofs.Stamping.{stamp-append, stamp-block, lined-lawful, lined-sparing, lined-lining, pass-lines, traced, pass-five}
use Rattle.rules.proofs.Odd.{sparing}

-- ---- what is emitted is of the fragment

plain-rotation : (k q : ℕ) → Plain (rotation k q)
unfolding Plain rotation op
plain-rotation zero q = tt
plain-rotation (suc zero) q = (refl, tt)
plain-rotation (suc (suc zero)) q = (refl, tt)
plain-rotation (suc (suc (suc zero))) q = (refl, (refl, tt))
plain-rotation (suc (suc (suc (suc zero)))) q = (refl, tt)
plain-rotation (suc (suc (suc (suc (suc zero))))) q = (refl, (refl, tt))
plain-rotation (suc (suc (suc (suc (suc (suc zero)))))) q = (refl, tt)
plain-rotation (suc (suc (suc (suc (suc (suc (suc zero))))))) q = (refl, tt)
plain-rotation (suc (suc (suc (suc (suc (suc (suc (suc k)))))))) q = tt

plain-emit : (ws : List ℕ) (ss : List Step) → Plain (emit ws ss)
unfolding Plain emit op
plain-emit ws [] = tt
plain-emit ws (cn p t ∷ ss) = (refl, plain-emit ws ss)
plain-emit ws (rot q k ∷ ss) = plain-append (rotation (k % 8) (get_or ws q zero)) (emit ws ss) (plain-rotation (k % 8) (get_or ws q zero)) (plain-emit ws ss)

plain-flips : (rs : List Row) → Plain (flips_of rs)
unfolding Plain flips_of op
plain-flips [] = tt
plain-flips (r ∷ rs) = split r.flips (λ e. rw e (refl, plain-flips rs)) (λ e. rw e (plain-flips rs))

pub plain-synth : (b : Block) (gs : List Gate) → synth b ≡ some gs → Plain gs
plain-synth b gs e =
    let k = synth-of b gs e in
    let ws : List ℕ = wires_of b.rows in
    let all : List Step = walk_of b ++ k.steps in
    subst Plain k.gates (plain-append (emit ws all) (flips_of b.rows) (plain-emit ws all) (plain-flips b.rows))

-- ---- the law

pub lawful : Lawful resynthesis
unfolding resynthesis block_of
lawful =
    record {
      alike = λ gs h. alike gs (synth (fold (map op gs) empty)) refl;
      plain = λ gs h. plain gs h (synth (fold (map op gs) empty)) refl;
    }
  where
    alike : (gs : List Gate) (o : Option (List Gate)) → synth (fold (map op gs) empty) ≡ o → Alike (map op (or_else o gs)) (map op gs)
    alike gs none e = alike_refl (map op gs)
    alike gs (some new) e = block-alike (map op gs) new e

    plain : (gs : List Gate) → Plain gs → (o : Option (List Gate)) → synth (fold (map op gs) empty) ≡ o → Plain (or_else o gs)
    plain gs h none e = h
    plain gs h (some new) e = plain-synth (fold (map op gs) empty) new e

-- whatever the plan
pub plan-lawful : (p : Plan) → Lawful (writer_of p)
unfolding writer_of
plan-lawful p = lined-lawful resynthesis lawful

pub plan-sparing : (p : Plan) → Sparing (writer_of p)
unfolding writer_of
plan-sparing p = lined-sparing resynthesis sparing

pub plan-lining : (p : Plan) → Lining (writer_of p)
unfolding writer_of
plan-lining p = lined-lining resynthesis

-- ---- demand 3, T and lines, for any writer that keeps the three laws

pub promised-by : (write : Writer) → Lawful write → Sparing write → Lining write → (p : Plan) (gs : List Gate) → Promised write p gs (pass_by write p gs)
promised-by write law sparing lining p gs =
    let s = spared write law.plain sparing p gs in
    record {
      alike = stretches write law p gs;
      thrifty = stretch-by-stretch write law.plain p gs;
      exactly = exactly write p gs;
      sparing = s;
      spent = no_more (pass_by write p gs).gates gs s;
      lines = pass-lines write lining p gs;
      traced = traced write law.plain lining p gs;
    }

-- of document 01's pass, for every list and any two caps
pub promised : (q t : ℕ) (gs : List Gate) → let p = plan_of q t in Promised (writer_of p) p gs (pass q t gs)
unfolding pass
promised q t gs = let p = plan_of q t in promised-by (writer_of p) (plan-lawful p) (plan-sparing p) (plan-lining p) p gs

-- so of the counts that are told
pub counts-spent : (q t : ℕ) (gs : List Gate) → let c = counts gs (pass q t gs) in c.t_out ≤ c.t_in
unfolding counts
counts-spent q t gs = (promised q t gs).spent

-- ---- the first five fields

five-rotation : (k q : ℕ) → unlined (rotation k q) ≡ rotation k q
unfolding stamp rotation
five-rotation zero q = refl
five-rotation (suc zero) q = refl
five-rotation (suc (suc zero)) q = refl
five-rotation (suc (suc (suc zero))) q = refl
five-rotation (suc (suc (suc (suc zero)))) q = refl
five-rotation (suc (suc (suc (suc (suc zero))))) q = refl
five-rotation (suc (suc (suc (suc (suc (suc zero)))))) q = refl
five-rotation (suc (suc (suc (suc (suc (suc (suc zero))))))) q = refl
five-rotation (suc (suc (suc (suc (suc (suc (suc (suc k)))))))) q = refl

five-emit : (ws : List ℕ) (ss : List Step) → unlined (emit ws ss) ≡ emit ws ss
unfolding stamp emit
five-emit ws [] = refl
five-emit ws (cn p t ∷ ss) = ap (λ (l : List Gate). gate2 code_cnot (get_or ws p zero) (get_or ws t zero) ∷ l) (five-emit ws ss)
five-emit ws (rot q k ∷ ss) =
    let r : List Gate = rotation (k % 8) (get_or ws q zero) in
    stamp-append zero r (emit ws ss) ∙ ap₂ ◌++◌ (five-rotation (k % 8) (get_or ws q zero)) (five-emit ws ss)

five-flips : (rs : List Row) → unlined (flips_of rs) ≡ flips_of rs
unfolding stamp flips_of
five-flips [] = refl
five-flips (r ∷ rs) = split r.flips (λ e. rw e (ap (λ (l : List Gate). gate1 code_x r.wire ∷ l) (five-flips rs))) (λ e. rw e (five-flips rs))

five-synth : (b : Block) (gs : List Gate) → synth b ≡ some gs → unlined gs ≡ gs
five-synth b gs e =
    let k = synth-of b gs e in
    let ws : List ℕ = wires_of b.rows in
    let all : List Step = walk_of b ++ k.steps in
    subst (λ (l : List Gate). unlined l ≡ l) k.gates
    (stamp-append zero (emit ws all) (flips_of b.rows) ∙ ap₂ ◌++◌ (five-emit ws all) (five-flips b.rows))

pub blind : Blind resynthesis
unfolding resynthesis
blind = record { sees = λ gs. go gs (synth (block_of gs)) refl ∙ ap (λ (b : Block). or_else (synth b) (unlined gs)) (sym (stamp-block zero gs)) }
  where
    go : (gs : List Gate) (o : Option (List Gate)) → synth (block_of gs) ≡ o → unlined (or_else (synth (block_of gs)) gs) ≡ or_else (synth (block_of gs)) (unlined gs)
    go gs none e = rw e
    go gs (some new) e = rw e (five-synth (block_of gs) new e)

-- demand 2 reads over the first five fields: there the pass is that of document 01, which has no lines
pub five : (q t : ℕ) (gs : List Gate) → five_of (pass q t gs) ≡ pass_by resynthesis (plan_of q t) (unlined gs)
unfolding pass writer_of
five q t gs = pass-five resynthesis blind (plan_of q t) gs

-- One piece of the list, written behind those before it.
use mathlib.Core.Path.{◌≡◌, refl, sym, ap, ◌∙◌}
use mathlib.Core.Bool.{Bool, true, false, cond}
use mathlib.Core.List.{List, [], ◌∷◌, ◌++◌, append_assoc, append-nil}
use Prim.Native.Nat.{ℕ, zero, suc, ◌+◌, ◌-◌, ◌≤◌, ◌<◌}
use native.Mathlib.Omega.{arith}
use lib.IntN.{ℤ}
use lib.ListN.{length, get_or, length-append}
use Rattle.rules.specs.Gate.{Gate}
use Rattle.rules.specs.Numbers.{gate_at, gates_from, gates_of, numbers, numbers_of}
use Rattle.rules.specs.Meaning.{op}
use Rattle.rules.specs.Fold as Fold
use Rattle.rules.specs.Fold.{empty}
use Rattle.rules.specs.Synth.{block_of}
use Rattle.rules.specs.Plan.{Plan}
use Rattle.rules.specs.Scan.{takes, cut, pieces_of, Writer, chosen, replaces, Result, finish, pass_by}
use Rattle.rules.proofs.Bits.{split}
use Rattle.rules.proofs.Flags.{byte-cond, byte_le}
use Rattle.rules.proofs.Reading.{numbers-append, from-length}
use Rattle.rules.proofs.Passing.{chosen-thrifty, thrifty-le}
use Rattle.rules.proofs.Scanning.{nothing, alone, onto, shut, onto-none, none-onto, scan-end, scan-on, scan-anew, scan-alone}
use Rattle.scan.specs.Scanning.{gates_in, run, rest, made, onward, Checked, Unjoined, Stops, Closes, Low, Stands, Advances, Scans}
use Rattle.parity.specs.declared.Parity.{Parity}
use Rattle.block.specs.View.{Holds}
use Rattle.block.specs.declared.Block as State
use Rattle.block.proofs.Entering.{wires-are}
use Rattle.flush.specs.declared.Flushed.{Flushed}
use Rattle.scan.specs.declared.Tally.{Tally}
use Rattle.scan.proofs.Folding.{run_none, rest-next, rest-none, rest_all, block_none, folded-none}

shut_none : (write : Writer) → shut write [] ≡ nothing
unfolding shut
shut_none write = refl

-- the block ends, and the gate is tried again
scan-again : (write : Writer) (p : Plan) (r : List Gate) (g : Gate) (gs : List Gate) → takes p (op g) (block_of r) ≡ false
    → finish write (cut p r (g ∷ gs)) ≡ onto (shut write r) (finish write (cut p [] (g ∷ gs)))
scan-again write p r g gs e = split (takes p (op g) empty) anew lone
  where
    at_none : {v : Bool} → takes p (op g) empty ≡ v → takes p (op g) (block_of []) ≡ v
    at_none f = ap (takes p (op g)) block_none ∙ f

    anew : takes p (op g) empty ≡ true → finish write (cut p r (g ∷ gs)) ≡ onto (shut write r) (finish write (cut p [] (g ∷ gs)))
    anew f = scan-anew write p r g gs e f ∙ ap (onto (shut write r)) (sym (scan-on write p [] g gs (at_none f)))

    lone : takes p (op g) empty ≡ false → finish write (cut p r (g ∷ gs)) ≡ onto (shut write r) (finish write (cut p [] (g ∷ gs)))
    lone f =
        let last : Result = onto (alone g) (finish write (cut p [] gs)) in
        scan-alone write p r g gs e f
        ∙ ap (onto (shut write r)) (sym (scan-alone write p [] g gs (at_none f) f ∙ ap (λ d. onto d last) (shut_none write) ∙ none-onto last))

module _ (write : Writer) (p : Plan) (l : List ℤ) (i : ℕ) where
  -- a gate that an empty block can't take
  pub piece-copied : i < gates_in l → takes p (op (gate_at l i)) (block_of (run l i i)) ≡ false → onward write p l i ≡ onto (alone (gate_at l i)) (onward write p l (i + 1))
  piece-copied h e =
      let f : takes p (op (gate_at l i)) empty ≡ false = ap (takes p (op (gate_at l i))) (sym (ap block_of (run_none l i) ∙ block_none)) ∙ e in
      let last : Result = onto (alone (gate_at l i)) (onward write p l (i + 1)) in
      ap (λ (gs : List Gate). finish write (cut p [] gs)) (rest-next l i h)
      ∙ scan-alone write p [] (gate_at l i) (rest l (i + 1)) (ap (takes p (op (gate_at l i))) block_none ∙ f) f
      ∙ ap (λ d. onto d last) (shut_none write) ∙ none-onto last

  -- a run that ends where the block can't take the next gate, or with the list
  pub piece-block : (j : ℕ) → j ≤ gates_in l → cut p [] (rest l i) ≡ cut p (run l i j) (rest l j)
      → (j < gates_in l → takes p (op (gate_at l j)) (block_of (run l i j)) ≡ false) → onward write p l i ≡ onto (shut write (run l i j)) (onward write p l j)
  piece-block j h c f = ap (finish write) c ∙ by (gates_in l - j) refl
    where
      by : (k : ℕ) → gates_in l - j ≡ k → finish write (cut p (run l i j) (rest l j)) ≡ onto (shut write (run l i j)) (onward write p l j)
      by zero e =
          let none : rest l j ≡ [] = rest-none l j (omega arith) in
          rw none (scan-end write p (run l i j) ∙ sym (onto-none (shut write (run l i j)))
          ∙ ap (onto (shut write (run l i j))) (sym (scan-end write p [] ∙ shut_none write)))
      by (suc k) e =
          let m : j < gates_in l = omega arith in
          rw (rest-next l j m) (scan-again write p (run l i j) (gate_at l j) (rest l (j + 1)) (f m))

  -- a run of one gate or more is a block
  pub shut-run : (j : ℕ) → i < j
      → shut write (run l i j) ≡ record { gates = chosen write (run l i j); blocks = 1; replaced = cond (replaces write (run l i j)) 1 0 }
  unfolding gates_from shut
  shut-run j h = let e : j - i ≡ suc (j - i - 1) = omega arith in rw e refl

  pub chosen-run : (j : ℕ) → length (chosen write (run l i j)) ≤ j - i
  chosen-run j = omega (arith, (thrifty-le (chosen-thrifty write (run l i j))).0, from-length l (j - i) i)

-- an empty run has joined no wire
none-clear : (l : List ℤ) (i : ℕ) {b : State.Block} {table room : List ℕ} → Holds (block_of (run l i i)) b table room → Unjoined table
none-clear l i {b} {table} h w = by (get_or table w 0) refl
  where
    none : b.wires ≡ 0
    none = sym (wires-are h.rows_are) ∙ ap (λ (p : Fold.Block). length p.rows) (folded-none l i)

    by : (v : ℕ) → get_or table w 0 ≡ v → get_or table w 0 ≡ 0
    by zero e = e
    by (suc k) e = absurd (omega (arith, (h.rows_are.joins.back w k e).0, none))

pub low : {write : Writer} {p : Plan} {w : ℕ} {l out : List ℤ} {s : Tally} → Checked l w → Stands write p l s out → Low s
low o st = record {
  at = omega (arith, o.few, st.inside);
  gates = omega (arith, o.few, st.inside, st.behind);
  blocks = omega (arith, o.few, st.inside, st.few);
  replaced = omega (arith, o.few, st.inside, st.fewer);
}

-- what stands in the output, with a piece behind it
pub advance : (write : Writer) (p : Plan) (l : List ℤ) (s r : Tally) (out out' : List ℤ) (d : Result) → Stands write p l s out
    → onward write p l s.at ≡ onto d (onward write p l r.at) → s.at < r.at → r.at ≤ gates_in l
    → length d.gates ≤ r.at - s.at → d.blocks ≤ 1 → d.replaced ≤ 1
    → made out' r.gates ≡ made out s.gates ++ numbers_of d.gates
    → r.gates ≡ s.gates + length d.gates → r.blocks ≡ s.blocks + d.blocks → r.replaced ≡ s.replaced + d.replaced
    → Stands write p l r out'
advance write p l s r out out' d st e h k few one less text gates blocks replaced = record {
  inside = k;
  behind = omega (arith, st.behind);
  few = omega (arith, st.few);
  fewer = omega (arith, st.fewer);
  so_far = st.so_far ++ d.gates;
  text = text ∙ ap (λ m. m ++ numbers_of d.gates) st.text ∙ sym (numbers-append st.so_far d.gates);
  size = length-append st.so_far d.gates ∙ ap (λ (n : ℕ). n + length d.gates) st.size ∙ sym gates;
  gates = append_assoc st.so_far d.gates (onward write p l r.at).gates ∙ ap (λ (x : Result). st.so_far ++ x.gates) (sym e) ∙ st.gates;
  blocks = omega (arith, ap (λ (x : Result). x.blocks) e, st.blocks);
  replaced = omega (arith, ap (λ (x : Result). x.replaced) e, st.replaced);
}

module _ (write : Writer) (p : Plan) (l : List ℤ) (s r : Tally) (out out' : List ℤ) {b : State.Block} (end : ℕ) {table room : List ℕ}
    (st : Stands write p l s out) (stop : Stops p l s.at b end table room) where
  -- the run is empty: the gate was copied
  pub copied-stands : end ≡ s.at → s.at < gates_in l → made out' (suc s.gates) ≡ made out s.gates ++ numbers (gate_at l end)
      → r ≡ record { at = s.at + 1; gates = s.gates + 1; blocks = s.blocks; replaced = s.replaced }
      → Advances write p l s r out' table
  unfolding numbers_of
  copied-stands e h text is =
      let at : r.at ≡ s.at + 1 = ap (λ (x : Tally). x.at) is in
      let gates : r.gates ≡ s.gates + 1 = ap (λ (x : Tally). x.gates) is in
      let blocks : r.blocks ≡ s.blocks + 0 = ap (λ (x : Tally). x.blocks) is ∙ omega arith in
      let replaced : r.replaced ≡ s.replaced + 0 = ap (λ (x : Tally). x.replaced) is ∙ omega arith in
      let next : r.gates ≡ suc s.gates = omega arith in
      let one : onward write p l s.at ≡ onto (alone (gate_at l s.at)) (onward write p l (s.at + 1)) = piece-copied write p l s.at h (ap (λ (j : ℕ). takes p (op (gate_at l j)) (block_of (run l s.at j))) (sym e) ∙ stop.full (omega arith)) in
      let behind : made out' r.gates ≡ made out s.gates ++ numbers_of (gate_at l s.at ∷ []) = ap (made out') next ∙ text ∙ ap (λ (j : ℕ). made out s.gates ++ numbers (gate_at l j)) e in
      record {
        onward = omega arith;
        stands = advance write p l s r out out' (alone (gate_at l s.at)) st (one ∙ ap (λ (j : ℕ). onto (alone (gate_at l s.at)) (onward write p l j)) (sym at))
            (omega arith) (omega arith) (omega arith) (omega arith) (omega arith) behind gates blocks replaced;
        clear = none-clear l s.at (rw e at stop).holds;
      }

  -- a block was closed
  pub closed-stands : {g : Flushed} {table' : List ℕ} → s.at < end → Closes write l s.at end out s.gates out' table' g
      → r ≡ record { at = end; gates = s.gates + g.gates; blocks = s.blocks + 1; replaced = s.replaced + cond g.replaced 1 0 }
      → Advances write p l s r out' table'
  closed-stands {g} h c is =
      let ours : List Gate = run l s.at end in
      let d : Result = record { gates = chosen write ours; blocks = 1; replaced = cond (replaces write ours) 1 0 } in
      let at : r.at ≡ end = ap (λ (x : Tally). x.at) is in
      let gates : r.gates ≡ s.gates + g.gates = ap (λ (x : Tally). x.gates) is in
      let blocks : r.blocks ≡ s.blocks + 1 = ap (λ (x : Tally). x.blocks) is in
      let replaced : r.replaced ≡ s.replaced + cond g.replaced 1 0 = ap (λ (x : Tally). x.replaced) is in
      let one : onward write p l s.at ≡ onto d (onward write p l end) =
      piece-block write p l s.at end stop.inside stop.cuts stop.full
      ∙ ap (λ (x : Result). onto x (onward write p l end)) (shut-run write p l s.at end h) in
      record {
        onward = omega arith;
        stands = advance write p l s r out out' d st (one ∙ ap (λ (j : ℕ). onto d (onward write p l j)) (sym at)) (omega arith) (omega (arith, stop.inside))
            (omega (arith, chosen-run write p l s.at end)) (omega arith) (rw (← byte-cond (replaces write ours)) (byte_le (replaces write ours)))
            (ap (made out') gates ∙ c.text) (gates ∙ ap (λ (n : ℕ). s.gates + n) c.gates) blocks (replaced ∙ ap (λ (b : Bool). s.replaced + cond b 1 0) c.replaced);
        clear = c.clear;
      }

-- ---- before the first piece, and behind the last

pub begins : (write : Writer) (p : Plan) (l out : List ℤ) (s : Tally) → s ≡ record { at = 0; gates = 0; blocks = 0; replaced = 0 } → Stands write p l s out
unfolding numbers_of
begins write p l out s is =
    let at : s.at ≡ 0 = ap (λ (t : Tally). t.at) is in
    let gates : s.gates ≡ 0 = ap (λ (t : Tally). t.gates) is in
    let blocks : s.blocks ≡ 0 = ap (λ (t : Tally). t.blocks) is in
    let replaced : s.replaced ≡ 0 = ap (λ (t : Tally). t.replaced) is in
    record {
      inside = omega arith;
      behind = omega arith;
      few = omega arith;
      fewer = omega arith;
      so_far = [];
      text = ap (made out) gates;
      size = sym gates;
      gates = ap (λ (i : ℕ). (onward write p l i).gates) at;
      blocks = omega (arith, ap (λ (i : ℕ). (onward write p l i).blocks) at);
      replaced = omega (arith, ap (λ (i : ℕ). (onward write p l i).replaced) at);
    }

pub ends : (write : Writer) (p : Plan) (l out : List ℤ) (table : List ℕ) (s : Tally) → Stands write p l s out → Unjoined table → gates_in l ≤ s.at → Scans write p l out table s
unfolding pass_by pieces_of
ends write p l out table s st clear h =
    let none : onward write p l s.at ≡ nothing = ap (λ (gs : List Gate). finish write (cut p [] gs)) (rest-none l s.at h) ∙ scan-end write p [] ∙ shut_none write in
    let all : onward write p l 0 ≡ pass_by write p (gates_of l) = ap (λ (gs : List Gate). finish write (cut p [] gs)) (rest_all l) in
    let gates : st.so_far ≡ (pass_by write p (gates_of l)).gates =
    sym (append-nil st.so_far) ∙ ap (λ (x : Result). st.so_far ++ x.gates) (sym none) ∙ st.gates ∙ ap (λ (x : Result). x.gates) all in
    record {
      text = st.text ∙ ap numbers_of gates;
      gates = sym st.size ∙ ap length gates;
      blocks = omega (arith, st.blocks, ap (λ (x : Result). x.blocks) none, ap (λ (x : Result). x.blocks) all);
      replaced = omega (arith, st.replaced, ap (λ (x : Result). x.replaced) none, ap (λ (x : Result). x.replaced) all);
      clear = clear;
    }

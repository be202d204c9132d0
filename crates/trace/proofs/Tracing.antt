-- One piece, by what the pass makes of it; and piece by piece.
use mathlib.Core.Path.{◌≡◌, refl, sym, ap, ◌∙◌}
use mathlib.Core.List.{List, [], ◌∷◌, ◌++◌, map, append-nil}
use Prim.Native.Nat.{ℕ, suc, ◌+◌, ◌-◌, ◌*◌, ◌/◌, ◌≤◌, ◌<◌}
use native.Mathlib.Omega.{arith}
use lib.IntN.{ℤ, pos}
use lib.ListN.{length, get_or, take, drop, replicate, length-drop, length-replicate}
use lib.Seq.{length-take-le, get_or-take, get_or-drop}
use Rattle.rules.specs.Limits.{width, max_wires, max_columns, term_width, step_width, term_entries, step_entries}
use Rattle.rules.specs.Gate.{Gate}
use Rattle.rules.specs.Numbers.{nat_of, field, gate_at, gates_from, gates_of, numbers_of}
use Rattle.rules.specs.Refusal.{accepted, Fault, fault_at}
use Rattle.rules.specs.Plan.{Plan, plan_of}
use Rattle.rules.specs.Scan.{Piece, copied, block, text_of, Writer, replaces, chosen, Result, finish, pass_by, cut, pieces_of}
use Rattle.rules.specs.Lines.{line_of}
use Rattle.rules.specs.Pass as Paper
use Rattle.rules.specs.Pass.{pass, writer_of}
use Rattle.rules.proofs.Bits.{split}
use Rattle.rules.proofs.Passing.{pieces-cut}
use Rattle.rules.proofs.Reading.{from-append, gates-length, length-numbers}
use Rattle.rules.proofs.Accepting.{write_read}
use Rattle.terms.proofs.Room.{room-length}
use Rattle.cnot_min.specs.declared.Counts.{Counts}
use Rattle.cnot_min.specs.Minimizing.{Lent}
use Rattle.cnot_min.proofs.Rooms.{lent, scannable}
use Rattle.spelling.specs.Sizes.{list_gates}
use Rattle.spelling.specs.Texts.{Head}
use Rattle.saying.specs.Answer.{exact}
use Rattle.saying.proofs.Checking.{exact-fits, right-exact}
use Rattle.fitting.specs.Clauses.{Made}
use Rattle.fitting.proofs.Made.{made-few}
use Rattle.scan.specs.Scanning.{gates_in, run, rest, Foldable, Scannable}
use Rattle.scan.proofs.Folding.{rest-none}
use Rattle.scan.proofs.Writing.{part}
use Rattle.origin.specs.Origins.{kept, made, last_from, last_line, origins, origins_text}
use Rattle.origin.specs.declared.Source.TheVariants.{Copied, Again}
use Rattle.origin.specs.Clauses.{rows_text}
use Rattle.origin.proofs.Origins.{text-append, made-rows, kept-rows, last_snoc}
use Rattle.trace.specs.Clauses.{Right, Single, Cuts}

-- ---- one piece

kept-one : (write : Writer) (q : Piece) → (finish write (q ∷ [])).replaced ≡ 0 → origins write (q ∷ []) ≡ map kept (text_of (q ∷ []))
unfolding origins finish text_of
kept-one write (copied g) e = refl
kept-one write (block b) e =
    split (replaces write b)
    (λ f. let z = rw f at e in absurd (omega arith))
    (λ f. rw (f, append-nil (map kept b), append-nil b))

made_one : (write : Writer) (q : Piece) → 1 ≤ (finish write (q ∷ [])).replaced
    → origins write (q ∷ []) ≡ map (made (line_of (text_of (q ∷ []))) (last_line (text_of (q ∷ [])))) (finish write (q ∷ [])).gates
unfolding origins finish text_of chosen
made_one write (copied g) h = absurd (omega arith)
made_one write (block b) h =
    split (replaces write b)
    (λ f. rw (f, append-nil b, append-nil (write b), append-nil (map (made (line_of b) (last_line b)) (write b))))
    (λ f. let z = rw f at h in absurd (omega arith))

module _ (write : Writer) (p : Plan) (gs : List Gate) (s : Single p gs) where
  -- its gates are those of the list
  whole : text_of (s.piece ∷ []) ≡ gs
  whole = ap text_of (sym s.is) ∙ (pieces-cut p gs).whole

  is-pass : pass_by write p gs ≡ finish write (s.piece ∷ [])
  unfolding pass_by
  is-pass = ap (finish write) s.is

  -- kept, or copied outside any block
  pub piece-kept : (pass_by write p gs).replaced ≡ 0 → origins write (pieces_of p gs) ≡ map kept gs
  piece-kept e = ap (origins write) s.is ∙ kept-one write s.piece (ap (λ (r : Result). r.replaced) (sym is-pass) ∙ e) ∙ ap (map kept) whole

  -- written again
  pub piece-made : 1 ≤ (pass_by write p gs).replaced → origins write (pieces_of p gs) ≡ map (made (line_of gs) (last_line gs)) (pass_by write p gs).gates
  piece-made h =
      ap (origins write) s.is ∙ made_one write s.piece (rw is-pass at h)
      ∙ ap (λ (r : Result). map (made (line_of (text_of (s.piece ∷ []))) (last_line (text_of (s.piece ∷ [])))) r.gates) (sym is-pass)
      ∙ ap (λ (us : List Gate). map (made (line_of us) (last_line us)) (pass_by write p gs).gates) whole

-- ---- piece by piece

origins-cons : (write : Writer) (q : Piece) (ps : List Piece) → origins write (q ∷ ps) ≡ origins write (q ∷ []) ++ origins write ps
unfolding origins
origins-cons write (copied g) ps = refl
origins-cons write (block b) ps = rw (append-nil _)

pub text-next : (write : Writer) (p : Plan) (l : List ℤ) (i j : ℕ) → Cuts p l i j
    → origins_text (origins write (pieces_of p (rest l i))) ≡ origins_text (origins write (pieces_of p (run l i j))) ++ origins_text (origins write (pieces_of p (rest l j)))
text-next write p l i j c =
    ap (λ (ps : List Piece). origins_text (origins write ps)) c.splits
    ∙ ap origins_text (origins-cons write c.piece (pieces_of p (rest l j)))
    ∙ text-append (origins write (c.piece ∷ [])) (origins write (pieces_of p (rest l j)))
    ∙ ap (λ (ps : List Piece). origins_text (origins write ps) ++ origins_text (origins write (pieces_of p (rest l j)))) (sym c.alone)

pub text-none : (write : Writer) (p : Plan) (l : List ℤ) (i : ℕ) → gates_in l ≤ i → origins_text (origins write (pieces_of p (rest l i))) ≡ []
unfolding origins_text origins pieces_of cut
text-none write p l i h = rw (rest-none l i h)

-- ---- the line of the last gate

pub last-is : (ns : List ℤ) (k : ℕ) → length ns / width ≡ suc k → nat_of (get_or ns (width * k + 5) (pos 0)) ≡ last_line (gates_of ns)
unfolding gates_of gates_from gate_at
last-is ns k e =
    let one : suc k ≡ k + 1 = omega arith in
    let z : 0 + k ≡ k = omega arith in
    sym (ap (λ (m : ℕ). last_line (gates_from ns m 0)) (e ∙ one) ∙ ap last_line (from-append ns k 1 0 ∙ ap (λ (m : ℕ). gates_from ns k 0 ++ gates_from ns 1 m) z) ∙ last_snoc 0 (gates_from ns k 0) (gate_at ns k))

pub last_none : (ns : List ℤ) → length ns / width ≡ 0 → 0 ≡ last_line (gates_of ns)
unfolding gates_of gates_from last_from
last_none ns e = rw e

-- ---- a part of a list that is right

module _ (h : Head) (l : List ℤ) (r : Right h l) where
  pub natural : numbers_of (gates_of l) ≡ l
  unfolding exact
  natural = write_read l h.wires h.bits (length l) _ _ r.exact

  module _ (i j : ℕ) (k : i ≤ j) (m : j ≤ gates_in l) where
    size : width * j - width * i ≡ width * (j - i)
    size = omega arith

    pub part-size : length (part l i j) ≡ width * (j - i)
    part-size = length-take-le (width * j - width * i) (drop (width * i) l) (omega (arith, length-drop (width * i) l)) ∙ size

    part_field : (n f : ℕ) → n < j - i → f < width → field (part l i j) n f ≡ field l (i + n) f
    part_field n f a b =
        let e : width * i + (width * n + f) ≡ width * (i + n) + f = omega arith in
        get_or-take (width * j - width * i) (drop (width * i) l) (width * n + f) (pos 0) (omega arith) ∙ get_or-drop (width * i) l (width * n + f) (pos 0) ∙ ap (λ (x : ℕ). get_or l x (pos 0)) e

    part-fault : (n : ℕ) → n < j - i → fault_at (part l i j) h.wires h.bits n ≡ fault_at l h.wires h.bits (i + n)
    unfolding fault_at
    part-fault n a =
        rw (part_field n 0 a (omega arith), part_field n 1 a (omega arith), part_field n 2 a (omega arith), part_field n 3 a (omega arith), part_field n 4 a (omega arith), part_field n 5 a (omega arith))

    pub part_right : Right h (part l i j)
    part_right =
        let a = exact-fits h l r.exact in
        let n : length (part l i j) / width ≡ j - i = omega (arith, part-size) in
        let w : width * (length (part l i j) / width) ≡ length (part l i j) = omega (arith, part-size) in
        record {
          few = record { whole = w; few = omega (arith, r.few.few) };
          exact = right-exact h (part l i j) w (omega (arith, a.few)) a.wires a.bits (λ x y. ap (λ (f : Fault). f.number) (part-fault x (omega (arith, n))) ∙ a.each (i + x) (omega (arith, n)));
        }

-- ---- what the pass made of one piece

module _ (h : Head) (l : List ℤ) (c : Counts) (room' : List ℤ) (m : Made h l c room') where
  abbrev plan : Plan
  plan = plan_of h.qubits h.terms

  abbrev write : Writer
  write = writer_of plan

  abbrev new : List ℤ
  new = take (width * c.gatesout) room'

  result : pass_by write plan (gates_of l) ≡ pass h.qubits h.terms (gates_of l)
  unfolding pass
  result = refl

  replaced-is : c.replaced ≡ (pass_by write plan (gates_of l)).replaced
  unfolding Paper.counts
  replaced-is = ap (λ (x : Paper.Counts). x.replaced) m.counts ∙ ap (λ (r : Result). r.replaced) (sym result)

  new_is : new ≡ numbers_of (pass_by write plan (gates_of l)).gates
  new_is = m.numbers ∙ ap (λ (r : Result). numbers_of r.gates) (sym result)

  new-count : length new / width ≡ length (pass_by write plan (gates_of l)).gates
  new-count = omega (arith, ap length new_is, length-numbers (pass_by write plan (gates_of l)).gates)

  pub again-few : exact h l ≡ accepted → length new / width ≤ length l / width
  again-few e = omega (arith, new-count, ap (λ (r : Result). length r.gates) result, made-few h l e)

  module _ (s : Single plan (gates_of l)) where
    pub kept-text : Right h l → c.replaced ≡ 0 → rows_text Copied (length l / width) l ≡ origins_text (origins write (pieces_of plan (gates_of l)))
    kept-text r e =
        ap (rows_text Copied (length l / width)) (sym (natural h l r))
        ∙ ap (λ (k : ℕ). rows_text Copied k (numbers_of (gates_of l))) (sym (gates-length l))
        ∙ kept-rows (gates_of l) ∙ ap origins_text (sym (piece-kept write plan (gates_of l) s (sym replaced-is ∙ e)))

    pub again-text : 1 ≤ c.replaced → rows_text (Again (line_of (gates_of l)) (last_line (gates_of l))) (length new / width) new ≡ origins_text (origins write (pieces_of plan (gates_of l)))
    again-text some =
        let a : ℕ = line_of (gates_of l) in
        let b : ℕ = last_line (gates_of l) in
        let gs : List Gate = (pass_by write plan (gates_of l)).gates in
        ap (λ (k : ℕ). rows_text (Again a b) k new) new-count ∙ ap (rows_text (Again a b) (length gs)) new_is
        ∙ made-rows a b gs ∙ ap origins_text (sym (piece-made write plan (gates_of l) s (omega (arith, some, replaced-is))))

-- ---- a block can be folded

module _ (h : Head) (l : List ℤ) (r : Right h l) (p : Plan) (capped : p.qubits ≤ max_columns) where
  fit : Lent l h.wires (length l) (term_width * term_entries (gates_in l)) (step_width * step_entries (gates_in l))
  unfolding exact
  fit = lent l h.wires h.bits (length l) _ _ r.exact

  -- the scan's own rooms
  scan : Scannable p l l (take h.wires (replicate max_wires 0)) (replicate (term_width * term_entries (gates_in l)) 0) (replicate (step_width * step_entries (gates_in l)) 0)
  scan =
      scannable p h.wires l l _ _
      (record { capped = capped; checked = fit.checked; out-fits = refl; terms-fit = length-replicate {A = ℕ} (term_width * term_entries (gates_in l)) 0; steps-fit = length-replicate {A = ℕ} (step_width * step_entries (gates_in l)) 0 })

  pub wires-few : h.wires ≤ max_wires
  wires-few = (exact-fits h l r.exact).wires

  pub foldable : (i : ℕ) (room : List ℕ) → i ≤ gates_in l → length room ≡ term_width * term_entries list_gates
      → Foldable p l i (take h.wires (replicate max_wires 0)) room
  foldable i room k d = record {
    checked = scan.checked;
    capped = capped;
    inside = k;
    clear = record { clear = scan.clear.clear; terms = omega (arith, d, room-length room, r.few.few) };
  }

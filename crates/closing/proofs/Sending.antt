-- The additions of a step room sent as CNOTs, the last first; and what a limit that is passed says.
use mathlib.Core.Path.{◌≡◌, refl, sym, ap, ap₂, ◌∙◌, subst}
use mathlib.Core.Bool.{Bool, true, false, false≢true, true≢false}
use mathlib.Core.List.{List, [], ◌∷◌, ◌++◌, map, reverse, reverse-cons, reverse-append}
use mathlib.Core.Option.{Option, none, some, none-ne-some, some-injective}
use Prim.Native.Nat.{ℕ, zero, suc, ◌+◌, ◌-◌, ◌*◌, ◌≤◌, ◌<◌, min}
use native.Mathlib.Omega.{arith}
use lib.IntN.{ℤ}
use lib.ListN.{length, get_or, take, drop, length-append, length-map, length-reverse, take-append-drop}
use lib.Dec.{ltb}
use lib.Seq.{length-take-le, drop-cons, get_or-take, drop-length}
use borrow.Author.Tests.{ltb-true, ltb-false}
use Rattle.rules.specs.Gate.{Gate, gate2, code_cnot}
use Rattle.rules.specs.Walk.{Step, cn}
use Rattle.rules.specs.Close.{Adds, times, eq_rows, inverse, and_then, reduce_from, closing}
use Rattle.rules.specs.Synth.{emit}
use Rattle.rules.specs.Budget.{Budget}
use Rattle.rules.proofs.Bits.{split}
use Rattle.rules.proofs.Closing.{anywhere, Pure}
use Rattle.rules.proofs.Counting.{reduce-size}
use Rattle.rules.proofs.Passing.{twos-append}
use Rattle.rules.proofs.Steps.{emit-append, emit-one, pure-count, within-back, Ends, within-at, closing_same, closing-stuck, closing-by, closing-steps}
use Rattle.emit.specs.Emitted.{Holds, Ready, Passes, dear, long, Emits}
use Rattle.emit.proofs.Appending.{emits_none, emits_then, emits-stop}
use Rattle.parity.specs.declared.Parity.{Parity}
use Rattle.rows.specs.Rows.{rows_of, given}
use Rattle.rows.proofs.Room.{row_count}
use Rattle.closing.specs.Additions.{steps_of, wanted, Over, Made}
use Rattle.closing.specs.Emission.{left_of, Wired, Sent, backwards, reversed, needed_rows, Sendable, Sends, Rooms, Closes}
use Rattle.closing.proofs.Entries.{step_count, step_get}

-- more CNOTs than the budget has left
pub emits-lost : (ws : List ℕ) (c : List Step) (out : List ℤ) (b : Budget) → Pure c → left_of b < length c → Emits (emit ws c) out b out b false
emits-lost ws c out b p l =
    record {
      made = λ e. absurd (false≢true e);
      spent = λ _ gs h. past gs h;
      ready = λ e. absurd (false≢true e);
      max_two = refl;
      max_all = refl;
      size = refl;
    }
  where
    past : (gs : List Gate) → Holds out b gs → Passes b (gs ++ emit ws c)
    past gs h =
        let n = pure-count ws c p in
        split (ltb (b.max_two - b.two) (length c))
        (λ f. dear (omega (arith, ltb-true (b.max_two - b.two) (length c) f, twos-append gs (emit ws c), h.two)))
        (λ f. long (omega (arith, ltb-false (b.max_two - b.two) (length c) f, length-append gs (emit ws c), h.all)))

-- ---- entry by entry

abbrev pub gate_at : List ℕ → List ℕ → ℕ → Gate
gate_at ws steps i = gate2 code_cnot (get_or ws (get_or steps (2 * i) 0) 0) (get_or ws (get_or steps (2 * i + 1) 0) 0)

-- the gates of the entries from i to k, the last first
abbrev pub sent : List ℕ → List ℕ → ℕ → ℕ → List Gate
sent ws steps k i = emit ws (reverse (drop i (take k (steps_of steps))))

module _ (ws steps : List ℕ) (k : ℕ) (fits : 2 * k ≤ length steps) where
  few : length (take k (steps_of steps)) ≡ k
  few = length-take-le k (steps_of steps) (omega (arith, step_count steps))

  pub sent-none : sent ws steps k k ≡ []
  unfolding emit
  sent-none = ap (λ (l : List Step). emit ws (reverse l)) (ap (λ (j : ℕ). drop j (take k (steps_of steps))) (sym few) ∙ drop-length (take k (steps_of steps)))

  entry : (i : ℕ) → i < k → get_or (take k (steps_of steps)) i (cn 0 0) ≡ cn (get_or steps (2 * i) 0) (get_or steps (2 * i + 1) 0)
  entry i l = get_or-take k (steps_of steps) i (cn 0 0) l ∙ step_get steps i (cn 0 0) (omega (arith, step_count steps))

  pub sent-next : (i : ℕ) → 0 < i → i ≤ k → sent ws steps k (i - 1) ≡ sent ws steps k i ++ (gate_at ws steps (i - 1) ∷ [])
  sent-next i p l =
      let all : List Step = take k (steps_of steps) in
      let e : suc (i - 1) ≡ i = omega arith in
      let h : drop (i - 1) all ≡ get_or all (i - 1) (cn 0 0) ∷ drop (suc (i - 1)) all = drop-cons all (i - 1) (cn 0 0) (omega (arith, few)) in
      ap (λ (m : List Step). emit ws (reverse m)) (h ∙ ap₂ (λ (s : Step) (j : ℕ). s ∷ drop j all) (entry (i - 1) (omega arith)) e)
      ∙ ap (emit ws) (reverse-cons (cn (get_or steps (2 * (i - 1)) 0) (get_or steps (2 * (i - 1) + 1) 0)) (drop i all))
      ∙ emit-append ws (reverse (drop i all)) (cn (get_or steps (2 * (i - 1)) 0) (get_or steps (2 * (i - 1) + 1) 0) ∷ [])
      ∙ ap (λ (g : List Gate). sent ws steps k i ++ g) (emit-one ws (get_or steps (2 * (i - 1)) 0) (get_or steps (2 * (i - 1) + 1) 0))

  -- what the entries before i would have added
  pub sent-rest : (i : ℕ) → emit ws (backwards steps k) ≡ sent ws steps k i ++ emit ws (reverse (take i (take k (steps_of steps))))
  sent-rest i =
      let all : List Step = take k (steps_of steps) in
      ap (λ (l : List Step). emit ws (reverse l)) (sym (take-append-drop i all))
      ∙ ap (emit ws) (reverse-append (take i all) (drop i all))
      ∙ emit-append ws (reverse (drop i all)) (reverse (take i all))

  module _ {o o₁ o₂ : List ℤ} {b b₁ b₂ : Budget} {w : Bool} (i : ℕ) (p : 0 < i) (l : i ≤ k) (before : Emits (sent ws steps k i) o b o₁ b₁ true)
      (one : Emits (gate_at ws steps (i - 1) ∷ []) o₁ b₁ o₂ b₂ w) where
    -- one entry more is emitted
    pub sent-more : Emits (sent ws steps k (i - 1)) o b o₂ b₂ w
    sent-more = rw (sent-next i p l) (emits_then before one)

    -- or the budget was spent by it
    pub sent-stop : w ≡ false → Emits (emit ws (backwards steps k)) o b o₂ b₂ false
    sent-stop e = rw (sent-rest (i - 1)) (emits-stop (sent ws steps k (i - 1)) _ _ _ _ _ (subst (Emits (sent ws steps k (i - 1)) o b o₂ b₂) e sent-more))

-- ---- the reduction's answer, as the closing map

module _ (from to rows : List ℕ) (l : length from ≡ length to) (is : closing from to ≡ reversed rows) where
  -- it ended: the closing map is its additions in reverse
  pub closing-made : (limit k : ℕ) (steps : List ℕ) → Made limit k (wanted rows) steps → reversed rows ≡ some (backwards steps k)
  closing-made limit k steps m =
      ap (λ (o : Option Adds). and_then o (λ m. some (reverse m.adds))) m.whole ∙ ap (λ (a : List Step). some (reverse a)) (sym m.listed)

  pub made-sent : (limit k : ℕ) (names steps : List ℕ) → Made limit k (wanted rows) steps → 2 * k ≤ length steps → length names ≡ length to → Wired names → Sent names steps k
  made-sent limit k names steps m fits n w =
      let all : List Step = take k (steps_of steps) in
      let h = within-back (length to) anywhere anywhere all (closing-steps from to (reverse all) l (is ∙ closing-made limit k steps m)).0 in
      record {
        wired = w;
        fits = fits;
        inside = λ i p. subst (λ (z : ℕ). Ends z (cn (get_or steps (2 * i) 0) (get_or steps (2 * i + 1) 0))) (sym n)
            (subst (Ends (length to)) (entry names steps k fits i p) (within-at (length to) anywhere anywhere all i (cn 0 0) h (omega (arith, few names steps k fits))));
      }

  -- it was lost: no closing map, or one of more CNOTs than the limit
  closing-lost : (limit : ℕ) (c : List Step) → Over limit (wanted rows) → reversed rows ≡ some c → (limit < length c) × Pure c
  closing-lost limit c o q = (go (wanted rows) o q, (closing-steps from to c l (is ∙ q)).1)
    where
      go : (z : Option Adds) → Over limit z → and_then z (λ m. some (reverse m.adds)) ≡ some c → limit < length c
      go none o r = absurd (none-ne-some c r)
      go (some d) o r = omega (arith, ap length (some-injective (reverse d.adds) c r), length-reverse d.adds)

  module _ (names : List ℕ) (out : List ℤ) (b : Budget) where
    pub sends-lost : Over (left_of b) (wanted rows) → Sends (reversed rows) names out b out b false
    sends-lost o = record { emits = λ c q. let h = closing-lost (left_of b) c o q in emits-lost names c out b h.1 h.0; lost = λ q. refl }

    pub sends-made : (limit k : ℕ) (steps : List ℕ) (out' : List ℤ) (b' : Budget) (w : Bool) → Made limit k (wanted rows) steps
        → Emits (emit names (backwards steps k)) out b out' b' w → Sends (reversed rows) names out b out' b' w
    sends-made limit k steps out' b' w m h =
        let made = closing-made limit k steps m in
        record {
          emits = λ c q. subst (λ (s : List Step). Emits (emit names s) out b out' b' w) (some-injective (backwards steps k) c (sym made ∙ q)) h;
          lost = λ q. absurd (none-ne-some (backwards steps k) (sym q ∙ made));
        }

-- n rows never take more than n squared additions, so that many are no limit
pub over-square : (limit : ℕ) (rows : List ℕ) → Over (min limit (length rows * length rows)) (wanted rows) → Over limit (wanted rows)
over-square limit rows o = go (wanted rows) refl o
  where
    go : (z : Option Adds) → wanted rows ≡ z → Over (min limit (length rows * length rows)) z → Over limit z
    go none e o = tt
    go (some d) e o = omega (arith, reduce-size (length rows) (length rows) zero (record { rows = rows; adds = [] }) d (omega arith) e)

-- ---- the map that is needed, of the inversion's answer

pub given-as : (b d : Bool) (rows : List ℕ) (o : Option (List ℕ)) → given b rows ≡ o → b ≡ d → given d rows ≡ o
given-as b d rows o e f = ap (λ (z : Bool). given z rows) (sym f) ∙ e

pub needed-none : (b : Bool) (inv from rows to : List ℕ) → given b inv ≡ inverse from → b ≡ false → given false rows ≡ needed_rows (inverse from) to
unfolding given
needed-none true inv from rows to e f = absurd (true≢false f)
needed-none false inv from rows to e f = ap (λ (o : Option (List ℕ)). needed_rows o to) e

pub needed-some : (b : Bool) (inv from rows to : List ℕ) → given b inv ≡ inverse from → b ≡ true → rows ≡ map (λ v. times v 0 inv) to → given true rows ≡ needed_rows (inverse from) to
unfolding given
needed-some true inv from rows to e f g = ap some g ∙ ap (λ (o : Option (List ℕ)). needed_rows o to) e
needed-some false inv from rows to e f g = absurd (false≢true f)

-- the map that is needed is reduced
pub closes-needed : (from to rows : List ℕ) → eq_rows from to ≡ false → given true rows ≡ needed_rows (inverse from) to
    → (closing from to ≡ reversed rows) × (length rows ≡ length to)
unfolding given
closes-needed from to rows e f = go (inverse from) refl f
  where
    go : (o : Option (List ℕ)) → inverse from ≡ o → given true rows ≡ needed_rows o to → (closing from to ≡ reversed rows) × (length rows ≡ length to)
    go none h f = absurd (none-ne-some rows (sym f))
    go (some inv) h f =
        let g : rows ≡ map (λ v. times v 0 inv) to = some-injective rows (map (λ v. times v 0 inv) to) f in (
          closing-by from to inv e h
              ∙ ap (λ (n : ℕ). and_then (reduce_from n n zero (record { rows = map (λ v. times v 0 inv) to; adds = [] })) (λ m. some (reverse m.adds))) (sym (length-map to (λ v. times v 0 inv)))
              ∙ ap reversed (sym g),
          ap length g ∙ length-map to (λ v. times v 0 inv),
        )

-- and what it takes to send it is there
pub needed-sendable : (from to spare m : List Parity) (names room : List ℕ) (most : ℕ) → Rooms from to spare names room most → eq_rows (rows_of from) (rows_of to) ≡ false
    → given true (rows_of m) ≡ needed_rows (inverse (rows_of from)) (rows_of to) → Sendable m names room most
needed-sendable from to spare m names room most p e f =
    let n = closes-needed (rows_of from) (rows_of to) (rows_of m) e f in
    record {
      few = rw n.1 p.matrices.few;
      named = p.named ∙ sym n.1;
      wired = p.wired;
      steps = rw n.1 p.steps;
      from = rows_of from;
      to = rows_of to;
      square = omega (arith, p.matrices.held, row_count from, row_count to);
      sized = sym n.1;
      closes = n.0;
    }

-- no map is needed that could be had
pub stuck-none : (from to rows : List ℕ) → eq_rows from to ≡ false → given false rows ≡ needed_rows (inverse from) to → closing from to ≡ none
unfolding given
stuck-none from to rows e f = closing-stuck from to e (go (inverse from) f)
  where
    go : (o : Option (List ℕ)) → given false rows ≡ needed_rows o to → o ≡ none
    go none f = refl
    go (some inv) f = absurd (none-ne-some _ f)

-- ---- each way out

module _ (from to names : List ℕ) (out : List ℤ) (b : Budget) where
  pub closes-same : eq_rows from to ≡ true → Ready out b → Closes from to names out b out b true
  unfolding emit
  closes-same e r =
      record {
        emits = λ c q. subst (λ (l : List Step). Emits (emit names l) out b out b true) (some-injective [] c (sym (closing_same from to e) ∙ q)) (emits_none out b r);
        lost = λ q. absurd (none-ne-some [] (sym q ∙ closing_same from to e));
      }

  pub closes-stuck : (rows : List ℕ) → eq_rows from to ≡ false → given false rows ≡ needed_rows (inverse from) to → Closes from to names out b out b false
  closes-stuck rows e f = record { emits = λ c q. absurd (none-ne-some c (sym (stuck-none from to rows e f) ∙ q)); lost = λ q. refl }

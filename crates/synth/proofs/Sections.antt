-- A block by its rooms: its names, its parities and its constants; and its resynthesis in three parts, which may stop after each.
use mathlib.Core.Path.{◌≡◌, refl, sym, ap, ap₂, ◌∙◌, subst}
use mathlib.Core.Bool.{Bool, true, false, true≢false}
use mathlib.Core.List.{List, ◌∷◌, ◌++◌, map, append_assoc}
use mathlib.Core.Option.{Option, none, some, none-ne-some, some-injective}
use Prim.Native.Nat.{ℕ, zero, suc, ◌+◌}
use native.Mathlib.Omega.{arith}
use lib.IntN.{ℤ}
use lib.ListN.{length, get_or, drop}
use lib.Seq.{drop-cons, drop-length}
use Rattle.rules.specs.Bit.{bit}
use Rattle.rules.specs.Gate.{Gate, gate1, code_x}
use Rattle.rules.specs.Fold.{Row, Term, Block}
use Rattle.rules.specs.Walk.{Step, phase_walk, held}
use Rattle.rules.specs.Close.{units, closing}
use Rattle.rules.specs.Synth.{emit, flips_of, with_steps, synth}
use Rattle.rules.specs.Budget.{Budget}
use Rattle.rules.proofs.Bits.{split}
use Rattle.rules.proofs.Steps.{emit-append}
use Rattle.emit.specs.Emitted.{Emits}
use Rattle.emit.proofs.Appending.{emits_then, emits-stop}
use Rattle.closing.specs.Emission.{Closes}
use Rattle.block.specs.View.{rows_from, row_at}
use Rattle.block.proofs.Rowing.{rows-length}
use Rattle.synth.specs.Flips.{flips_from}
use Rattle.synth.specs.Resynthesis.{Synthesizes}

-- ---- the rows

-- a column of the rows, listed by place
column-from : (k : Row → ℕ) (f : ℕ → Row) (xs : List ℕ) → ((i : ℕ) → k (f i) ≡ get_or xs i 0) → (n i : ℕ) → i + n ≡ length xs → map k (rows_from f n i) ≡ drop i xs
unfolding rows_from
column-from k f xs h zero i l =
    let e : length xs ≡ i = omega arith in
    sym (ap (λ (j : ℕ). drop j xs) (sym e) ∙ drop-length xs)
column-from k f xs h (suc n) i l =
    ap₂ (λ (x : ℕ) (ys : List ℕ). x ∷ ys) (h i) (column-from k f xs h n (suc i) (omega arith)) ∙ sym (drop-cons xs i 0 (omega arith))

pub flips-rows : (names hs : List ℕ) (v n i : ℕ) → flips_of (rows_from (row_at names hs v) n i) ≡ flips_from names v n i
unfolding rows_from flips_of flips_from
flips-rows names hs v zero i = refl
flips-rows names hs v (suc n) i =
    let h = flips-rows names hs v n (suc i) in
    split (bit v i) (λ e. rw e (ap (λ (l : List Gate). gate1 code_x (get_or names i 0) ∷ l) h)) (λ e. rw e h)

-- ---- the three parts

module _ (names hs : List ℕ) (v n : ℕ) (ts : List Term) (ln : length names ≡ n) (lh : length hs ≡ n) where
  abbrev pub whole : Block
  whole = record { rows = rows_from (row_at names hs v) n 0; terms = ts }

  abbrev pub walked : List Step
  walked = phase_walk n ts

  abbrev pub begun : List ℕ
  begun = held walked (units n 0)

  pub synth-parts : synth whole ≡ with_steps (closing begun hs) (λ c. emit names (walked ++ c) ++ flips_from names v n 0)
  unfolding synth
  synth-parts =
      let row : ℕ → Row = row_at names hs v in
      let rs : List Row = rows_from row n 0 in
      let from : ℕ → List Step → List ℕ → List ℕ → List Gate → Option (List Gate) =
      λ k w ws ps fl. with_steps (closing (held w (units k 0)) ps) (λ c. emit ws (w ++ c) ++ fl) in
      ap (λ (k : ℕ). from k (phase_walk k ts) (map (λ r. r.wire) rs) (map (λ r. r.parity) rs) (flips_of rs)) (rows-length row n 0)
      ∙ ap (λ (ws : List ℕ). from n walked ws (map (λ r. r.parity) rs) (flips_of rs)) (column-from (λ r. r.wire) row names (λ i. refl) n 0 (omega arith))
      ∙ ap (λ (ps : List ℕ). from n walked names ps (flips_of rs)) (column-from (λ r. r.parity) row hs (λ i. refl) n 0 (omega arith))
      ∙ ap (from n walked names hs) (flips-rows names hs v n 0)

  -- a closing map gives the gates, part by part
  parted : (gs : List Gate) → synth whole ≡ some gs → (c : List Step) → closing begun hs ≡ some c → gs ≡ emit names walked ++ (emit names c ++ flips_from names v n 0)
  parted gs e c f =
      let made : synth whole ≡ some (emit names (walked ++ c) ++ flips_from names v n 0) = synth-parts ∙ ap (λ (o : Option (List Step)). with_steps o (λ c. emit names (walked ++ c) ++ flips_from names v n 0)) f in
      some-injective gs (emit names (walked ++ c) ++ flips_from names v n 0) (sym e ∙ made)
      ∙ ap (λ (l : List Gate). l ++ flips_from names v n 0) (emit-append names walked c)
      ∙ append_assoc (emit names walked) (emit names c) (flips_from names v n 0)

  pub unmade : closing begun hs ≡ none → synth whole ≡ none
  unmade f = synth-parts ∙ ap (λ (o : Option (List Step)). with_steps o (λ c. emit names (walked ++ c) ++ flips_from names v n 0)) f

  closed : (gs : List Gate) → synth whole ≡ some gs → (o : Option (List Step)) → closing begun hs ≡ o → (c : List Step) × (closing begun hs ≡ some c)
  closed gs e none f = absurd (none-ne-some gs (sym (unmade f) ∙ e))
  closed gs e (some c) f = (c, f)

  -- whatever the closing map is, if it makes the gates
  by : (P : List Gate → Type 0) → ((c : List Step) → closing begun hs ≡ some c → P (emit names walked ++ (emit names c ++ flips_from names v n 0)))
      → (gs : List Gate) → synth whole ≡ some gs → P gs
  by P h gs e = let c = closed gs e (closing begun hs) refl in subst P (sym (parted gs e c.0 c.1)) (h c.0 c.1)

  module _ (out out₁ : List ℤ) (b b₁ : Budget) where
    -- the walk was stopped
    pub stops-walk : Emits (emit names walked) out b out₁ b₁ false → Synthesizes whole out b out₁ b₁ false
    stops-walk h =
        record {
          emits = by (λ g. Emits g out b out₁ b₁ false) (λ c f. emits-stop (emit names walked) (emit names c ++ flips_from names v n 0) out out₁ b b₁ h);
          lost = λ e. refl;
        }

    module _ (h : Emits (emit names walked) out b out₁ b₁ true) (out₂ : List ℤ) (b₂ : Budget) where
      -- the closing map was, or there is none
      pub stops-closing : Closes begun hs names out₁ b₁ out₂ b₂ false → Synthesizes whole out b out₂ b₂ false
      stops-closing k =
          record {
            emits = by (λ g. Emits g out b out₂ b₂ false) (λ c f. emits_then h (emits-stop (emit names c) (flips_from names v n 0) out₁ out₂ b₁ b₂ (k.emits c f)));
            lost = λ e. refl;
          }

      -- all three
      pub synthesizes : Closes begun hs names out₁ b₁ out₂ b₂ true → (out₃ : List ℤ) (b₃ : Budget) (w : Bool)
          → Emits (flips_from names v n 0) out₂ b₂ out₃ b₃ w → Synthesizes whole out b out₃ b₃ w
      synthesizes k out₃ b₃ w f =
          record {
            emits = by (λ g. Emits g out b out₃ b₃ w) (λ c e. emits_then h (emits_then (k.emits c e) f));
            lost = λ e. none-lost e (closing begun hs) refl;
          }
        where
          none-lost : synth whole ≡ none → (o : Option (List Step)) → closing begun hs ≡ o → w ≡ false
          none-lost e none q = absurd (true≢false (k.lost q))
          none-lost e (some c) q =
              absurd (none-ne-some (emit names (walked ++ c) ++ flips_from names v n 0)
              (sym e ∙ synth-parts ∙ ap (λ (o : Option (List Step)). with_steps o (λ c. emit names (walked ++ c) ++ flips_from names v n 0)) q))

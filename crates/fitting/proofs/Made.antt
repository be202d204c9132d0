-- What the pass makes of an accepted list whose numbers fit a text: an accepted list, no longer, whose numbers fit too.
use mathlib.Core.Path.{◌≡◌, ap}
use mathlib.Core.List.{List, [], ◌∷◌}
use Prim.Native.Nat.{ℕ, zero, suc, ◌+◌, ◌*◌, ◌/◌, ◌≤◌, ◌<◌}
use native.Mathlib.Omega.{arith}
use lib.IntN.{ℤ, pos, negsuc}
use lib.ListN.{length, get_or}
use lib.Signed.{mag}
use Rattle.rules.specs.Limits.{width, max_wires, max_bits, term_width, step_width, term_entries, step_entries}
use Rattle.rules.specs.Gate.{Gate, second, bitted, third}
use Rattle.rules.specs.Numbers.{nat_of, gate_at, gates_of, numbers_of}
use Rattle.rules.specs.Refusal.{accepted, fault_at}
use Rattle.rules.specs.Plan.{plan_of}
use Rattle.rules.specs.Scan.{Result}
use Rattle.rules.specs.Pass.{pass, writer_of}
use Rattle.rules.proofs.Bits.{split}
use Rattle.rules.proofs.Reading.{gates-length, read-written}
use Rattle.rules.proofs.Accepting.{accepted-is, Fit, fit, SoundAll, accepted-sound}
use Rattle.rules.proofs.Output.{output-length, output-sound, output-accepted, plan-sound}
use Rattle.text.specs.Reading.{largest}
use Rattle.spelling.specs.Texts.{Head}
use Rattle.spelling.proofs.Forms.{Shown}
use Rattle.spelling.proofs.Spelling.{Ranged}
use Rattle.saying.specs.Answer.{exact}
use Rattle.saying.proofs.Checking.{exact-fits}
use Rattle.fitting.proofs.Each.{Each, Plain, each-pass, each_line, each-gates}
use Rattle.fitting.proofs.Unsaid.{Hidden, hidden-none, shown-lines, lines-shown}

-- ---- every turn and every line fits 32 signed bits: the pass makes none of its own

abbrev pub Short : Gate → Type 0
Short g = mag g.turn ≤ largest

ranged-at : (ns : List ℤ) → Ranged ns → (j : ℕ) → mag (get_or ns j (pos 0)) ≤ largest
unfolding Ranged
ranged-at [] h j = omega arith
ranged-at (v ∷ vs) h zero = h.0
ranged-at (v ∷ vs) h (suc j) = ranged-at vs h.1 j

short-gates : (ns : List ℤ) → Ranged ns → Each Short (gates_of ns)
unfolding gate_at
short-gates ns h = each-gates Short ns (λ j k. ranged-at ns h (width * j + 4))

-- and every line: each is that of a gate in
abbrev pub Near : Gate → Type 0
Near g = g.line ≤ largest

nat-small : (v : ℤ) → mag v ≤ largest → nat_of v ≤ largest
nat-small (pos n) h = h
nat-small (negsuc n) h = omega arith

near-gates : (ns : List ℤ) → Ranged ns → Each Near (gates_of ns)
unfolding gate_at
near-gates ns h = each-gates Near ns (λ j k. nat-small (get_or ns (width * j + 5) (pos 0)) (ranged-at ns h (width * j + 5)))

short-plain : (g : Gate) → Plain g → Short g
short-plain g p = rw p.turnless (omega arith)

-- ---- sound gates with such turns: every number fits

second-small : (w b c x y z : ℕ) (t : ℤ) → w ≤ max_wires → b ≤ max_bits → Fit w b c x y z t → y ≤ largest
second-small w b c x y z t hw hb f =
    split (second c) (λ e. omega (arith, f.second-in e))
    (λ e. split (bitted c) (λ k. omega (arith, f.bit_in k)) (λ k. omega (arith, f.no_second e k)))

third-small : (w b c x y z : ℕ) (t : ℤ) → w ≤ max_wires → Fit w b c x y z t → z ≤ largest
third-small w b c x y z t hw f = split (third c) (λ e. omega (arith, f.third-in e)) (λ e. omega (arith, f.no_third e))

ranged-numbers : (w b : ℕ) (gs : List Gate) → w ≤ max_wires → b ≤ max_bits → SoundAll w b gs → Each Short gs → Each Near gs → Ranged (numbers_of gs)
unfolding Ranged SoundAll Each numbers_of
ranged-numbers w b [] hw hb s h k = tt
ranged-numbers w b (g ∷ gs) hw hb s h k =
    let f : Fit w b g.code g.first g.second g.third g.turn = fit w b (pos g.code) (pos g.first) (pos g.second) (pos g.third) g.turn (pos g.line) s.0 in (
      omega (arith, f.most),
      (
        omega (arith, f.first-in),
        (
          second-small w b g.code g.first g.second g.third g.turn hw hb f,
          (third-small w b g.code g.first g.second g.third g.turn hw f, (h.0, (k.0, ranged-numbers w b gs hw hb s.1 h.1 k.1))),
        ),
      ),
    )

-- ---- a list that was accepted

module _ (h : Head) (ns : List ℤ) (e : exact h ns ≡ accepted) where
  abbrev new : Result
  new = pass h.qubits h.terms (gates_of ns)

  made-sound : SoundAll h.wires h.bits new.gates
  unfolding exact pass
  made-sound =
      let p = plan_of h.qubits h.terms in
      output-sound h.wires h.bits (writer_of p) (plan-sound h.wires h.bits p) p (gates_of ns)
      (accepted-sound ns h.wires h.bits (length ns) (term_width * term_entries (length ns / width)) (step_width * step_entries (length ns / width)) e)

  pub made-right : (i : ℕ) → i < length (numbers_of new.gates) / width → (fault_at (numbers_of new.gates) h.wires h.bits i).number ≡ 0
  unfolding exact
  made-right =
      let t : ℕ = term_width * term_entries (length ns / width) in
      let s : ℕ = step_width * step_entries (length ns / width) in
      (accepted-is (numbers_of new.gates) h.wires h.bits (length ns) t s (output-accepted ns h.wires h.bits (length ns) t s e h.qubits h.terms)).each

  pub made-few : length new.gates ≤ length ns / width
  unfolding pass
  made-few = let p = plan_of h.qubits h.terms in omega (arith, output-length (writer_of p) p (gates_of ns), gates-length ns)

  pub made-ranged : Ranged ns → Ranged (numbers_of new.gates)
  made-ranged r =
      ranged-numbers h.wires h.bits new.gates (exact-fits h ns e).wires (exact-fits h ns e).bits made-sound
      (each-pass Short short-plain (λ n g k. k) h.qubits h.terms (gates_of ns) (short-gates ns r))
      (each_line (λ n. n ≤ largest) (omega arith) h.qubits h.terms (gates_of ns) (near-gates ns r))

  -- what the form doesn't show is 0 as it was
  pub made-shown : Shown h.form (length ns / width) ns → Shown h.form (length new.gates) (numbers_of new.gates)
  made-shown s = lines-shown h.form new.gates (each_line (Hidden h.form) (hidden-none h.form) h.qubits h.terms (gates_of ns) (shown-lines h.form ns s))

  pub same-result : record { gates = gates_of (numbers_of new.gates); blocks = new.blocks; replaced = new.replaced } ≡ new
  same-result = ap (λ (us : List Gate). record { gates = us; blocks = new.blocks; replaced = new.replaced }) (read-written new.gates)

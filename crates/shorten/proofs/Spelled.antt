-- What the pass makes of a list that came from a laboratory's text is spelled: the gates that it copies were read, and those of the fragment all have a spelling.
use mathlib.Core.Path.{◌≡◌, refl, sym, ◌∙◌}
use mathlib.Core.Bool.{true}
use mathlib.Core.List.{List}
use Prim.Native.Nat.{ℕ, zero, suc, ◌/◌, ◌≤◌}
use native.Mathlib.Nat.{zero-add}
use native.Mathlib.Omega.{arith}
use lib.IntN.{ℤ}
use lib.ListN.{length}
use Rattle.rules.specs.Limits.{width}
use Rattle.rules.specs.Gate.{Gate}
use Rattle.rules.specs.Numbers.{gate_at, gates_of, numbers_of}
use Rattle.rules.specs.Refusal.{accepted}
use Rattle.rules.specs.Pass.{pass}
use Rattle.rules.proofs.Reading.{length-numbers, read-written}
use Rattle.spelling.specs.Sizes.{list_gates}
use Rattle.saying.specs.Answer.{exact}
use Rattle.saying.proofs.Checking.{right-exact}
use Rattle.fitting.proofs.Each.{Each, each-gates, gates-each, each-pass}
use Rattle.fitting.proofs.Made.{made-right, made-few, made-ranged}
use Rattle.qasm.specs.Table.{spelled}
use Rattle.qasm.specs.Export.{unspelled}
use Rattle.qasm.proofs.Gates.{all-spelled, spelled-all}
use Rattle.qasm.proofs.Trips.{Spellable}
use Rattle.import.specs.Answer.{head_for}
use Rattle.import.proofs.Taking.{imported-exact}

abbrev Spelled : Gate → Type 0
Spelled g = spelled g.code ≡ true

-- codes 1 to 9
fragment : (c : ℕ) → 1 ≤ c → c ≤ 9 → spelled c ≡ true
unfolding spelled
fragment zero h k = absurd (omega arith)
fragment (suc zero) h k = refl
fragment (suc (suc zero)) h k = refl
fragment (suc (suc (suc zero))) h k = refl
fragment (suc (suc (suc (suc zero)))) h k = refl
fragment (suc (suc (suc (suc (suc zero))))) h k = refl
fragment (suc (suc (suc (suc (suc (suc zero)))))) h k = refl
fragment (suc (suc (suc (suc (suc (suc (suc zero))))))) h k = refl
fragment (suc (suc (suc (suc (suc (suc (suc (suc zero)))))))) h k = refl
fragment (suc (suc (suc (suc (suc (suc (suc (suc (suc zero))))))))) h k = refl
fragment (suc (suc (suc (suc (suc (suc (suc (suc (suc (suc c)))))))))) h k = absurd (omega arith)

spelled-gates : (ns : List ℤ) → unspelled ns ≡ length ns / width → Each Spelled (gates_of ns)
unfolding unspelled gate_at
spelled-gates ns e = each-gates Spelled ns (λ j h. spelled-all ns (length ns / width) zero (e ∙ sym (zero-add (length ns / width))) j (omega arith) (omega arith))

gates-spelled : (ns : List ℤ) → Each Spelled (gates_of ns) → unspelled ns ≡ length ns / width
unfolding unspelled gate_at
gates-spelled ns e = all-spelled ns (length ns / width) zero (λ j h k. gates-each Spelled ns e j (omega arith)) ∙ zero-add (length ns / width)

-- what the pass makes of a list that import gives can be exported
pub made-spellable : (w b : ℕ) (ns : List ℤ) → Spellable list_gates w b ns → Spellable list_gates w b (numbers_of (pass 128 512 (gates_of ns)).gates)
made-spellable w b ns s =
    let e = imported-exact w b ns s in
    let new : List Gate = (pass 128 512 (gates_of ns)).gates in
    let size = length-numbers new in
    let few = made-few (head_for w b) ns e in
    let each : Each Spelled new = each-pass Spelled (λ g p. fragment g.code p.least p.most) (λ n g s. s) 128 512 (gates_of ns) (spelled-gates ns s.known) in
    record {
      whole = omega arith;
      few = omega (arith, s.few);
      wires-fit = s.wires-fit;
      bits_fit = s.bits_fit;
      each = made-ranged (head_for w b) ns e s.each;
      right = made-right (head_for w b) ns e;
      known = gates-spelled (numbers_of new) (rw (read-written new) each);
    }

-- `trace::last_line` meets its contract: the last row's sixth number, where there is a row.
use mathlib.Core.Path.{◌≡◌, sym, ap, ◌∙◌}
use mathlib.Core.List.{List, []}
use mathlib.Core.Logic.{inl, inr}
use Prim.Native.Nat.{ℕ, ◌-◌, ◌/◌, ◌≤◌, ◌<◌}
use native.Mathlib.Omega.{arith}
use borrow.Author.Rules.{rules}
use lib.IntN.{ℤ, pos}
use lib.ListN.{length, get_or}
use Rattle.std.specs.Prelude.{Some, None, slice_get}
use Rattle.std.proofs.lemmas.Option.{get_or_from_slice_get, slice_get_cases}
use Rattle.rules.specs.Limits.{width}
use Rattle.rules.specs.Numbers.{nat_of}
use Rattle.spelling.proofs.Chunks.{chunk_at}
use Rattle.qasm.proofs.Gates.{row_at, row_field}
use Rattle.trace.proofs.Tracing.{last-is, last_none}
use Rattle.trace.proofs.last_line.Goals as goal

inside : {A : Type 0} (xs : List A) (i : ℕ) (x : A) → slice_get xs i ≡ Some x → i < length xs
inside xs i x e = elim (slice_get_cases xs i).1 [ inl w ↦ w.1 | inr w ↦ let no = w.1 in absurd (cc) ]

outside : {A : Type 0} (d : A) (xs : List A) (i : ℕ) → slice_get xs i ≡ None → length xs ≤ i
outside d xs i e = elim (slice_get_cases xs i).1 [ inl w ↦ let some = w.2 in absurd (cc) | inr w ↦ w.0 ]

pub returns-in-Some : goal.returns-in-Some
returns-in-Some c =
    let ns : List ℤ = c.args.numbers.now in
    let k : ℕ = length ns / width - 1 in
    let chunks = c.as_chunks.result.0.now in
    let long = c.as_chunks.ensures.front_len in
    let some = sym c.in-Some.ensures.value in
    let in_range : k < length ns / width = omega (arith, long, inside chunks _ c.in-Some.row.now some) in
    let last : c.in-Some.row.now ≡ row_at ns k =
    let at : length chunks - 1 ≡ k = omega (arith, long) in
    sym (get_or_from_slice_get chunks _ c.in-Some.row.now [] some) ∙ rw (at, c.as_chunks.ensures.front) (chunk_at width (length ns / width) ns k in_range) in
    let own : c.nat.result ≡ nat_of (get_or c.in-Some.row.now 5 (pos 0)) = search rules in
    own ∙ ap (λ (r : List ℤ). nat_of (get_or r 5 (pos 0))) last ∙ ap nat_of (row_field ns k 5 (omega arith)) ∙ last-is ns k (omega arith)

pub returns-in-None : goal.returns-in-None
returns-in-None c = last_none c.args.numbers.now (omega (arith, c.as_chunks.ensures.front_len, outside [] c.as_chunks.result.0.now _ (sym c.in-None.ensures.value)))

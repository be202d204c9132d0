-- What a program says of a text, with the refusal as a number and the length in a room.
use mathlib.Core.Path.{◌≡◌, sym, ap, ◌∙◌}
use mathlib.Core.Bool.{Bool, cond}
use mathlib.Core.List.{List}
use Prim.Native.Nat.{ℕ}
use Rattle.std.proofs.Common.{subst}
use Rattle.saying.specs.Answer as Text
use Rattle.saying.specs.declared.Said.{Said}
use Rattle.dilkovan.specs.Doors.{Promises, ExportsText}

pub handed : (answer : List ℕ → Text.Answer) (Says : Promises) (text room : List ℕ) (said : Said) (room' : List ℕ) (r size : ℕ)
    → r ≡ cond said.refused 1 0 → size ≡ said.length → said.refused ≡ (answer text).refused → Says text room said room' → ExportsText answer Says text room r room' size
handed answer Says text room said room' r size told is refused says =
    let same : ◌≡◌ {A = Said} said (record { length = size; refused = (answer text).refused }) = λ i. record { length = sym is i; refused = refused i } in
    record {
      number = told ∙ ap (λ (b : Bool). cond {A = ℕ} b 1 0) refused;
      says = subst (λ s. Says text room s room') same says;
    }

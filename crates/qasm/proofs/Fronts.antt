-- What the reading functions come to, over plain variables: a register, and the lines before the gates.
use mathlib.Core.Path.{◌≡◌, refl, ◌∙◌}
use mathlib.Core.List.{List}
use Prim.Native.Nat.{ℕ, suc, ◌+◌, ◌<◌}
use native.Mathlib.Omega.{arith}
use borrow.Author.Tests.{lt-ltb, eqb-false}
use lib.Dec.{eqb, ltb}
use lib.IntN.{pos}
use lib.ListN.{get_or}
use mir.Val.{bool_byte}
use Rattle.std.specs.Prelude.{Option, None, Some, unwrap_or, Result, Err}
use Rattle.std.specs.Option.{ok_or}
use Rattle.std.specs.Borrow.{Bor}
use Rattle.rules.specs.Numbers.{nat_of}
use Rattle.rules.proofs.Bits.{split}
use Rattle.text.specs.Reading.{none, found}
use Rattle.text.specs.Clauses.{Reads}
use Rattle.text.proofs.Lines.{absent, goes_on}
use Rattle.qasm.specs.Statement.{bare, read_by}
use Rattle.spelling.specs.Lines.{good}
use Rattle.text.specs.Reading.{word}
use Rattle.qasm.specs.Import.{version_line, include_line, wires_line, bits_line, register, perhaps, opening}

abbrev failed : {A E : Type 0} → E → Result A E
failed e = Err e

-- the error that takes the place of nothing
pub err_or : {A E : Type 0} (o : Option A) (d e : E) → o ≡ None → failed {A = A} e ≡ ok_or o d → e ≡ d
err_or o d e is h = let same = rw is at h in cc

-- a register that is there has a size
register-some : (t bs : List ℕ) (n : ℕ) (left : List ℕ) → register t bs ≡ found n left → 0 < n
unfolding register
register-some t bs n left e =
    let o = goes_on (read_by t bs (bare 0)) _ n left e in
    let size : ℕ = nat_of (get_or o.0 1 (pos 0)) in
    split (eqb size 0)
    (λ z. let no : none ≡ found n left = rw z at o.1.1.1 in absent n left no)
    (λ z. let is : found size o.1.0 ≡ found n left = rw z at o.1.1.1 in let same : size ≡ n = cc in omega (arith, eqb-false size 0 z))

-- one that is left out has size 0, and the line is read as what comes next
pub size-goes : {B : Type 0} (t : List ℕ) (rest : Bor (List ℕ)) (r : Option (ℕ × Bor (List ℕ))) (k : ℕ) (f : ℕ → ℕ → List ℕ → B) → Reads r (register t rest.now)
    → perhaps k (register t rest.now) rest.now f ≡ f (unwrap_or r (0, rest)).0 (k + bool_byte (ltb 0 (unwrap_or r (0, rest)).0)) (unwrap_or r (0, rest)).1.now
size-goes t rest None k f e = let j : k + 0 ≡ k = omega arith in rw (e, j)
size-goes t rest (Some x) k f e = let j : k + 1 ≡ suc k = omega arith in rw (e, lt-ltb 0 x.0 (register-some t rest.now x.0 x.1.now e), j)

-- both registers, each perhaps left out
pub opened-as : (text : List ℕ) (a b : Bor (List ℕ)) (q c : Option (ℕ × Bor (List ℕ))) (x y : ℕ × Bor (List ℕ)) → word version_line text ≡ found tt a.now → word include_line a.now ≡ found tt b.now
    → Reads q (register wires_line b.now) → x ≡ unwrap_or q (0, b) → Reads c (register bits_line x.1.now) → y ≡ unwrap_or c (0, x.1)
    → opening text ≡ good (record { wires = x.0; bits = y.0 }) (3 + bool_byte (ltb 0 x.0) + bool_byte (ltb 0 y.0)) y.1.now
unfolding opening
opened-as text a b q c x y version include wires ex bits ey =
    rw (version, include) (size-goes wires_line b q 3 _ wires ∙ rw (← ex) (size-goes bits_line x.1 c _ _ bits ∙ rw (← ey) refl))

-- The three forms: what their numbers come to, and what each gate's line shows.
use mathlib.Core.Path.{◌≡◌, refl, sym}
use mathlib.Core.List.{List, ◌++◌, append-nil}
use Prim.Native.Nat.{ℕ, zero, suc, ◌+◌, ◌≤◌, ◌<◌}
use native.Mathlib.Omega.{arith}
use borrow.Author.Tests.{lt-ltb, le-ltb}
use lib.Dec.{ltb}
use lib.IntN.{ℤ}
use lib.ListN.{length, take, drop}
use Rattle.rules.specs.Limits.{width}
use Rattle.rules.proofs.Bits.{split}
use Rattle.spelling.specs.Texts.{Form, four, five, six, per_gate, unsaid, fifth, form_of}

-- ---- by number

pub four-numbers : (n : ℕ) → n < 5 → 4 ≡ 4 + length (fifth (form_of n))
four-numbers n h = rw (lt-ltb n 5 h)

pub five-numbers : (n : ℕ) → 5 ≤ n → 5 ≡ 4 + length (fifth (form_of n))
five-numbers n h = rw (le-ltb n 5 h) (split (ltb n 6) (λ e. rw e refl) (λ e. rw e refl))

pub five-shown : (n : ℕ) → n < 6 → 5 ≡ per_gate (form_of n)
five-shown n h = rw (lt-ltb n 6 h) (split (ltb n 5) (λ e. rw e refl) (λ e. rw e refl))

pub six-shown : (n : ℕ) → 6 ≤ n → 6 ≡ per_gate (form_of n)
six-shown n h =
    let far : 5 ≤ n = omega arith in
    rw (le-ltb n 5 far, le-ltb n 6 h)

-- ---- a gate's numbers: those that its line shows, and the others

pub per-gate-le : (f : Form) → per_gate f ≤ width
per-gate-le four = omega arith
per-gate-le five = omega arith
per-gate-le six = omega arith

pub all_said : (f : Form) → per_gate f + length (unsaid f) ≡ width
all_said four = refl
all_said five = refl
all_said six = refl

-- of n gates, the numbers that their lines don't show are 0
unfoldable pub Shown : Form → ℕ → List ℤ → Type 0
Shown f zero ns = Unit {0}
Shown f (suc n) ns = (take width ns ≡ take (per_gate f) ns ++ unsaid f) × Shown f n (drop width ns)

-- six show all
pub shown-six : (n : ℕ) (ns : List ℤ) → Shown six n ns
unfolding Shown
shown-six zero ns = tt
shown-six (suc n) ns = (sym (append-nil (take width ns)), shown-six n (drop width ns))

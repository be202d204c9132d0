-- Where the form shows no lines they are 0, and stay 0: so the new list reads back in the form of the old one.
use mathlib.Core.Path.{◌≡◌, refl, ap}
use mathlib.Core.List.{List, [], ◌∷◌, ◌++◌}
use Prim.Native.Nat.{ℕ, zero, suc, ◌+◌, ◌*◌, ◌/◌, ◌<◌}
use native.Mathlib.Omega.{arith}
use lib.IntN.{ℤ, pos}
use lib.ListN.{length, get_or, take, drop}
use lib.Seq.{get_or-drop}
use Rattle.rules.specs.Limits.{width}
use Rattle.rules.specs.Gate.{Gate}
use Rattle.rules.specs.Numbers.{nat_of, gate_at, gates_of, numbers_of}
use Rattle.spelling.specs.Texts.{Form, four, five, six}
use Rattle.spelling.proofs.Forms.{Shown}
use Rattle.fitting.proofs.Each.{Each, each-gates}

-- a line that the form doesn't show is 0
abbrev pub Hidden : Form → ℕ → Type 0
Hidden four n = n ≡ 0
Hidden five n = n ≡ 0
Hidden six n = Unit {0}

pub hidden-none : (f : Form) → Hidden f 0
hidden-none four = refl
hidden-none five = refl
hidden-none six = tt

-- ---- of numbers that are read

last-number : (ns : List ℤ) → take 6 ns ≡ take 5 ns ++ (pos 0 ∷ []) → get_or ns 5 (pos 0) ≡ pos 0
last-number [] h = refl
last-number (a ∷ []) h = refl
last-number (a ∷ b ∷ []) h = refl
last-number (a ∷ b ∷ c ∷ []) h = refl
last-number (a ∷ b ∷ c ∷ d ∷ []) h = refl
last-number (a ∷ b ∷ c ∷ d ∷ e ∷ []) h = refl
last-number (a ∷ b ∷ c ∷ d ∷ e ∷ l ∷ ns) h = ap (λ (vs : List ℤ). get_or vs 5 (pos 0)) h

hidden-first : (f : Form) (n : ℕ) (ns : List ℤ) → Shown f (suc n) ns → Hidden f (nat_of (get_or ns 5 (pos 0)))
unfolding Shown
hidden-first four n ns s = ap nat_of (last-number ns s.0)
hidden-first five n ns s = ap nat_of (last-number ns s.0)
hidden-first six n ns s = tt

hidden_at : (f : Form) (n j : ℕ) (ns : List ℤ) → Shown f n ns → j < n → Hidden f (nat_of (get_or ns (width * j + 5) (pos 0)))
unfolding Shown
hidden_at f zero j ns s h = absurd (omega arith)
hidden_at f (suc n) zero ns s h = hidden-first f n ns s
hidden_at f (suc n) (suc j) ns s h =
    let at : width * suc j + 5 ≡ width + (width * j + 5) = omega arith in
    rw (at, ← get_or-drop width ns (width * j + 5) (pos 0)) (hidden_at f n j (drop width ns) s.1 (omega arith))

pub shown-lines : (f : Form) (ns : List ℤ) → Shown f (length ns / width) ns → Each (λ g. Hidden f g.line) (gates_of ns)
unfolding gate_at
shown-lines f ns s = each-gates (λ g. Hidden f g.line) ns (λ j h. hidden_at f (length ns / width) j ns s h)

-- ---- of gates that are written

pub lines-shown : (f : Form) (gs : List Gate) → Each (λ g. Hidden f g.line) gs → Shown f (length gs) (numbers_of gs)
unfolding Shown Each numbers_of
lines-shown f [] h = tt
lines-shown four (g ∷ gs) h = (rw h.0, lines-shown four gs h.1)
lines-shown five (g ∷ gs) h = (rw h.0, lines-shown five gs h.1)
lines-shown six (g ∷ gs) h = (refl, lines-shown six gs h.1)

-- The gates of a list, one by one: right and spelled, by their rows and by their places.
use mathlib.Core.Path.{◌≡◌, sym, ap, ◌∙◌, subst}
use mathlib.Core.Bool.{true, false}
use mathlib.Core.List.{List, [], ◌++◌}
use Prim.Native.Nat.{ℕ, zero, suc, ◌+◌, ◌-◌, ◌*◌, ◌/◌, ◌≤◌, ◌<◌}
use native.Mathlib.Nat.{add-zero}
use native.Mathlib.Numerals.{add-one}
use native.Mathlib.Omega.{arith}
use lib.IntN.{ℤ, pos}
use lib.ListN.{length, get_or, take, drop, length-drop}
use lib.Seq.{length-take-le, take_at, drop_at, get_or-take, get_or-drop, drop-drop}
use Rattle.rules.specs.Limits.{width}
use Rattle.rules.specs.Numbers.{nat_of, field}
use Rattle.rules.specs.Refusal.{fault_at}
use Rattle.rules.proofs.Bits.{split, same}
use Rattle.qasm.specs.Table.{spelled}
use Rattle.qasm.specs.Statement.{statement_text}
use Rattle.qasm.specs.Export.{statements_text, unspelled_from}
use Rattle.qasm.proofs.Statements.{code_of, Gated}

-- ---- by rows

unfoldable pub Each : ℕ → ℕ → ℕ → List ℤ → Type 0
Each w b zero ns = Unit {0}
Each w b (suc g) ns = Gated w b (take width ns) × Each w b g (drop width ns)

pub each-cons : (w b g : ℕ) (row ns : List ℤ) → Gated w b row → Each w b g ns → Each w b (suc g) (row ++ ns)
unfolding Each
each-cons w b g row ns r e = (rw (take_at row ns width r.size) r, rw (drop_at row ns width r.size) e)

-- the row of gate i
abbrev pub row_at : List ℤ → ℕ → List ℤ
row_at ns i = take width (drop (width * i) ns)

pub each_at : (w b g : ℕ) (ns : List ℤ) (i : ℕ) → Each w b g ns → i < g → Gated w b (row_at ns i)
unfolding Each
each_at w b zero ns i e h = absurd (omega arith)
each_at w b (suc g) ns zero e h = e.0
each_at w b (suc g) ns (suc i) e h =
    let k : width + width * i ≡ width * suc i = omega arith in
    subst (λ (l : List ℤ). Gated w b (take width l)) (drop-drop (width * i) width ns ∙ ap (λ (j : ℕ). drop j ns) k) (each_at w b g (drop width ns) i e.1 (omega arith))

pub at_each : (w b g i : ℕ) (ns : List ℤ) → ((j : ℕ) → i ≤ j → j < i + g → Gated w b (row_at ns j)) → Each w b g (drop (width * i) ns)
unfolding Each
at_each w b zero i ns f = tt
at_each w b (suc g) i ns f =
    let k : width * i + width ≡ width * suc i = omega arith in
    (f i (omega arith) (omega arith), subst (Each w b g) (sym (drop-drop width (width * i) ns ∙ ap (λ (j : ℕ). drop j ns) k)) (at_each w b g (suc i) ns (λ j h l. f j (omega arith) (omega arith))))

-- ---- by places

pub row_field : (ns : List ℤ) (i k : ℕ) → k < width → get_or (row_at ns i) k (pos 0) ≡ field ns i k
row_field ns i k h = get_or-take width (drop (width * i) ns) k (pos 0) h ∙ get_or-drop (width * i) ns k (pos 0)

pub row-fault : (ns : List ℤ) (w b i : ℕ) → fault_at (row_at ns i) w b 0 ≡ fault_at ns w b i
unfolding fault_at
row-fault ns w b i = rw (row_field ns i 0 (omega arith), row_field ns i 1 (omega arith), row_field ns i 2 (omega arith), row_field ns i 3 (omega arith), row_field ns i 4 (omega arith), row_field ns i 5 (omega arith))

pub row-code : (ns : List ℤ) (i : ℕ) → code_of (row_at ns i) ≡ nat_of (field ns i 0)
row-code ns i = ap nat_of (row_field ns i 0 (omega arith))

pub row-size : (ns : List ℤ) (i : ℕ) → i < length ns / width → length (row_at ns i) ≡ width
row-size ns i h = length-take-le width (drop (width * i) ns) (omega (arith, length-drop (width * i) ns))

-- every gate is spelled
pub all-spelled : (l : List ℤ) (n i : ℕ) → ((j : ℕ) → i ≤ j → j < i + n → spelled (nat_of (field l j 0)) ≡ true) → unspelled_from l n i ≡ i + n
unfolding unspelled_from
all-spelled l zero i f = sym (add-zero i)
all-spelled l (suc n) i f =
    let k : suc i + n ≡ i + suc n = omega arith in
    rw (f i (omega arith) (omega arith)) (all-spelled l n (suc i) (λ j h g. f j (omega arith) (omega arith)) ∙ k)

pub spelled-all : (l : List ℤ) (n i : ℕ) → unspelled_from l n i ≡ i + n → (j : ℕ) → i ≤ j → j < i + n → spelled (nat_of (field l j 0)) ≡ true
unfolding unspelled_from
spelled-all l zero i e j h g = absurd (omega arith)
spelled-all l (suc n) i e j h g =
    split (spelled (nat_of (field l i 0)))
    (λ s.
    let k : i + suc n ≡ suc i + n = omega arith in
    let more : unspelled_from l n (suc i) ≡ suc i + n = rw s at e ∙ k in
    same i j
    (λ q t. subst (λ (m : ℕ). spelled (nat_of (field l m 0)) ≡ true) q s)
    (λ q t. spelled-all l n (suc i) more j (omega (arith, q)) (omega arith)))
    (λ s. let no : i ≡ i + suc n = rw s at e in absurd (omega arith))

-- ---- from a place on

module _ (l : List ℤ) (n i : ℕ) where
  pub unspelled-stop : i < n → spelled (nat_of (field l i 0)) ≡ false → unspelled_from l (n - i) i ≡ i
  unfolding unspelled_from
  unspelled-stop h e =
      let k : n - i ≡ suc (n - (i + 1)) = omega arith in
      rw (k, e)

  pub unspelled-more : i < n → spelled (nat_of (field l i 0)) ≡ true → unspelled_from l (n - i) i ≡ unspelled_from l (n - (i + 1)) (i + 1)
  unfolding unspelled_from
  unspelled-more h e =
      let k : n - i ≡ suc (n - (i + 1)) = omega arith in
      rw (k, e, add-one i)

  pub unspelled-end : i ≤ n → n ≤ i → unspelled_from l (n - i) i ≡ n
  unfolding unspelled_from
  unspelled-end h g =
      let k : n - i ≡ 0 = omega arith in
      rw k (omega arith)

pub statements-more : (n : ℕ) (ns : List ℤ) (i : ℕ) → i < n → statements_text (n - i) (drop (width * i) ns) ≡ statement_text (row_at ns i) ++ statements_text (n - (i + 1)) (drop (width * (i + 1)) ns)
unfolding statements_text
statements-more n ns i h =
    let s : n - i ≡ suc (n - (i + 1)) = omega arith in
    let j : width * i + width ≡ width * (i + 1) = omega arith in
    rw (s, drop-drop width (width * i) ns, j)

pub statements-none : (n : ℕ) (ns : List ℤ) (i : ℕ) → n ≤ i → statements_text (n - i) (drop (width * i) ns) ≡ []
unfolding statements_text
statements-none n ns i h =
    let s : n - i ≡ 0 = omega arith in
    rw s

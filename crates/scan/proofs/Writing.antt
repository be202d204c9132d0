-- Parts of the list and of the output: a run is the list's part, and what is written behind the first gates follows them.
use mathlib.Core.Path.{◌≡◌, refl, sym, ap, ◌∙◌}
use mathlib.Core.List.{List, [], ◌∷◌, ◌++◌}
use Prim.Native.Nat.{ℕ, zero, suc, ◌+◌, ◌-◌, ◌*◌, ◌≤◌, ◌<◌}
use native.Mathlib.Omega.{arith}
use borrow.Rule.Slice.PartMut.{put_mid}
use lib.IntN.{ℤ}
use lib.ListN.{length, take, drop, length-drop}
use lib.Seq.{length-take-le, take_all, take-append-add, take_at, drop_at}
use Rattle.rules.specs.Limits.{width}
use Rattle.rules.specs.Gate.{Gate}
use Rattle.rules.specs.Numbers.{gate_at, gates_from, gates_of, numbers_of}
use Rattle.rules.proofs.Reading.{from-append, from-length, length-numbers}
use Rattle.flush.proofs.Runs.{exact-part, gates-part}
use Rattle.scan.specs.Scanning.{gates_in, run, made}
use Rattle.scan.proofs.Folding.{run_none, run-next}

-- ---- parts of the list

take-run : (l : List ℤ) (i j : ℕ) → i ≤ j → j ≤ gates_in l → take (j - i) (drop i (gates_of l)) ≡ run l i j
unfolding gates_of
take-run l i j h k =
    let n : ℕ = gates_in l in
    let e : n ≡ i + (n - i) = omega arith in
    let f : n - i ≡ j - i + (n - j) = omega arith in
    let z : 0 + i ≡ i = omega arith in
    let front : gates_from l n 0 ≡ gates_from l i 0 ++ gates_from l (n - i) i = ap (λ (m : ℕ). gates_from l m 0) e ∙ from-append l i (n - i) 0 ∙ ap (λ (m : ℕ). gates_from l i 0 ++ gates_from l (n - i) m) z in
    let back : gates_from l (n - i) i ≡ run l i j ++ gates_from l (n - j) (i + (j - i)) = ap (λ (m : ℕ). gates_from l m i) f ∙ from-append l (j - i) (n - j) i in
    ap (λ gs. take (j - i) (drop i gs)) front ∙ ap (take (j - i)) (drop_at (gates_from l i 0) (gates_from l (n - i) i) i (from-length l i 0) ∙ back)
    ∙ take_at (run l i j) (gates_from l (n - j) (i + (j - i))) (j - i) (from-length l (j - i) i)

-- the numbers of the gates from place i to place j
abbrev pub part : List ℤ → ℕ → ℕ → List ℤ
part l i j = take (width * j - width * i) (drop (width * i) l)

module _ (l : List ℤ) (x : numbers_of (gates_of l) ≡ l) (i j : ℕ) (h : i ≤ j) where
  size : width * j - width * i ≡ width * (j - i)
  size = omega arith

  pub part-gates : j ≤ gates_in l → gates_of (part l i j) ≡ run l i j
  part-gates k = rw size (gates-part l x i (j - i) ∙ take-run l i j h k)

  pub part-exact : numbers_of (gates_of (part l i j)) ≡ part l i j
  part-exact = rw size (exact-part l x i (j - i))

  pub part-numbers : j ≤ gates_in l → part l i j ≡ numbers_of (run l i j)
  part-numbers k = sym part-exact ∙ ap numbers_of (part-gates k)

-- the place of a run behind the first m gates is as long as the run
pub part-fits : (l out : List ℤ) (i j m : ℕ) → i ≤ j → j ≤ gates_in l → m ≤ i → length out ≡ length l
    → length (take (width * m + (width * j - width * i) - width * m) (drop (width * m) out)) ≡ length (part l i j)
part-fits l out i j m h k b e =
    let d : width * m + (width * j - width * i) - width * m ≡ width * j - width * i = omega arith in
    let here : width * j - width * i ≤ length (drop (width * m) out) = omega (arith, length-drop (width * m) out, e) in
    let there : width * j - width * i ≤ length (drop (width * i) l) = omega (arith, length-drop (width * i) l) in
    rw d (length-take-le (width * j - width * i) (drop (width * m) out) here ∙ sym (length-take-le (width * j - width * i) (drop (width * i) l) there))

run-one : (l : List ℤ) (i : ℕ) → run l i (i + 1) ≡ gate_at l i ∷ []
run-one l i = run-next l i i (omega arith) ∙ ap (λ gs. gs ++ (gate_at l i ∷ [])) (run_none l i)

-- the numbers of the gate at place i
pub part-one : (l : List ℤ) → numbers_of (gates_of l) ≡ l → (i : ℕ) → i < gates_in l
    → take (width * 1) (take (width * i + width - width * i) (drop (width * i) l)) ≡ numbers_of (gate_at l i ∷ [])
part-one l x i h =
    let d : width * i + width - width * i ≡ width * (i + 1) - width * i = omega arith in
    rw d (take_all (width * 1) (part l i (i + 1)) (omega (arith, size-one)) ∙ whole)
  where
    whole : part l i (i + 1) ≡ numbers_of (gate_at l i ∷ [])
    whole = part-numbers l x i (i + 1) (omega arith) (omega arith) ∙ ap numbers_of (run-one l i)

    size-one : length (part l i (i + 1)) ≡ width * 1
    size-one = ap length whole ∙ length-numbers (gate_at l i ∷ [])

-- ---- the output

take-first : (n : ℕ) (p rest : List ℤ) → length (take n p) ≡ n → take n (p ++ rest) ≡ take n p
take-first zero p rest e = refl
take-first (suc n) [] rest e = absurd (omega arith)
take-first (suc n) (x ∷ p) rest e = ap (λ (l : List ℤ). x ∷ l) (take-first n p rest (omega arith))

-- a part that lies behind the first m gates begins with k more
pub put-behind : (m k d : ℕ) (out new : List ℤ) (gs : List Gate) → width * m ≤ length out → length gs ≡ k → take (width * k) new ≡ numbers_of gs
    → made (put_mid (width * m) d out new) (m + k) ≡ made out m ++ numbers_of gs
put-behind m k d out new gs h n e =
    let s : length (take (width * m) out) ≡ width * m = length-take-le (width * m) out h in
    let f : width * (m + k) ≡ length (take (width * m) out) + width * k = omega (arith, s) in
    let full : length (take (width * k) new) ≡ width * k = ap length e ∙ length-numbers gs ∙ ap (λ (j : ℕ). width * j) n in
    ap (λ (j : ℕ). take j (put_mid (width * m) d out new)) f
    ∙ take-append-add (take (width * m) out) _ (width * k)
    ∙ ap (λ (t : List ℤ). take (width * m) out ++ t) (take-first (width * k) new _ full ∙ e)

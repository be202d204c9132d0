-- The line of a list's first gate; and lines stored in the gates at the beginning of a list.
use mathlib.Core.Path.{◌≡◌, refl, sym, ap, ◌∙◌}
use mathlib.Core.List.{List, [], ◌∷◌, ◌++◌, append_assoc}
use Prim.Native.Nat.{ℕ, zero, suc, ◌+◌, ◌-◌, ◌*◌, ◌/◌, ◌≤◌, ◌<◌}
use native.Mathlib.Numerals.{add-one}
use native.Mathlib.Omega.{arith}
use lib.IntN.{ℤ, pos}
use lib.ListN.{length, get_or, set, take, drop, length-set, length-append, take-append-drop}
use lib.Seq.{take_at}
use Rattle.rules.specs.Limits.{width}
use Rattle.rules.specs.Gate.{Gate}
use Rattle.rules.specs.Numbers.{nat_of, gate_at, gates_from, gates_of, numbers, numbers_of}
use Rattle.rules.specs.Lines.{with_line, stamp, line_of}
use Rattle.rules.proofs.Reading.{length-numbers}
use Rattle.rules.proofs.Stamping.{stamp-length}
use Rattle.gate.specs.Writing.{stamped}

-- ---- the line of the first gate

pub line-none : (l : List ℤ) → length l < width → 0 ≡ line_of (gates_of l)
unfolding gates_of gates_from
line-none l h =
    let e : length l / width ≡ 0 = omega arith in
    rw e

pub line_first : (l : List ℤ) → width ≤ length l → nat_of (get_or l 5 (pos 0)) ≡ line_of (gates_of l)
unfolding gates_of gates_from gate_at
line_first l h =
    let e : length l / width ≡ suc (length l / width - 1) = omega arith in
    rw e

-- ---- stored one by one

module _ (line : ℕ) where
  pub stamped-next : (n i : ℕ) (l : List ℤ) → i < n → stamped line (n - i) i l ≡ stamped line (n - (i + 1)) (i + 1) (set l (width * i + 5) (pos line))
  unfolding stamped
  stamped-next n i l h =
      let k : n - i ≡ suc (n - (i + 1)) = omega arith in
      rw (k, add-one i)

  pub stamped-end : (n i : ℕ) (l : List ℤ) → n ≤ i → stamped line (n - i) i l ≡ l
  unfolding stamped
  stamped-end n i l h =
      let k : n - i ≡ 0 = omega arith in
      rw k

  pub length-stamped : (k i : ℕ) (l : List ℤ) → length (stamped line k i l) ≡ length l
  unfolding stamped
  length-stamped zero i l = refl
  length-stamped (suc k) i l = length-stamped k (suc i) (set l (width * i + 5) (pos line)) ∙ length-set l (width * i + 5) (pos line)

  set_after : (us vs : List ℤ) (k : ℕ) (x : ℤ) → set (us ++ vs) (length us + k) x ≡ us ++ set vs k x
  set_after [] vs k x = let e : 0 + k ≡ k = omega arith in rw e
  set_after (u ∷ us) vs k x =
      let e : suc (length us) + k ≡ suc (length us + k) = omega arith in
      rw e (ap (λ (l : List ℤ). u ∷ l) (set_after us vs k x))

  -- behind i gates: the next ones get the line
  stamped-rows : (us : List ℤ) (i : ℕ) → length us ≡ width * i → (gs : List Gate) (vs : List ℤ)
      → stamped line (length gs) i (us ++ (numbers_of gs ++ vs)) ≡ us ++ (numbers_of (stamp line gs) ++ vs)
  unfolding stamped stamp numbers_of
  stamped-rows us i e [] vs = refl
  stamped-rows us i e (g ∷ gs) vs =
      let more : List ℤ = numbers_of gs ++ vs in
      let row : List ℤ = numbers (with_line line g) in
      let f : length (us ++ row) ≡ width * suc i = length-append us row ∙ omega arith in
      ap (λ (l : List ℤ). stamped line (length gs) (suc i) l)
      (ap (λ (k : ℕ). set (us ++ (numbers g ++ more)) (k + 5) (pos line)) (sym e) ∙ set_after us (numbers g ++ more) 5 (pos line) ∙ sym (append_assoc us row more))
      ∙ stamped-rows (us ++ row) (suc i) f gs vs ∙ append_assoc us row (numbers_of (stamp line gs) ++ vs)

  -- a list that begins with some gates begins with them and that line
  pub stamped-gates : (gs : List Gate) (l : List ℤ) → take (width * length gs) l ≡ numbers_of gs
      → take (width * length gs) (stamped line (length gs) 0 l) ≡ numbers_of (stamp line gs)
  stamped-gates gs l e =
      let n : ℕ = width * length gs in
      let new : List ℤ = numbers_of (stamp line gs) in
      ap (λ (m : List ℤ). take n (stamped line (length gs) 0 m)) (sym (take-append-drop n l) ∙ ap (λ (m : List ℤ). m ++ drop n l) e)
      ∙ ap (take n) (stamped-rows [] 0 refl gs (drop n l))
      ∙ take_at new (drop n l) n (length-numbers (stamp line gs) ∙ ap (λ (k : ℕ). width * k) (stamp-length line gs))

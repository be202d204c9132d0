-- The join table as wires join and leave.
--     joined_once        two names below n are the same only at one index
--     joins-none         a table of zeros: no wire has joined
--     enter-joins, enters_is    one wire more
--     Leaving            what is left in the table after i of n wires have left: leave_none, leave-turn, leave-all
use mathlib.Core.Path.{◌≡◌, refl, sym, ap, ◌∙◌}
use mathlib.Core.List.{List}
use Prim.Native.Nat.{ℕ, zero, suc, ◌+◌, ◌≤◌, ◌<◌}
use native.Mathlib.Nat.{not-suc-le-zero}
use native.Mathlib.Omega.{arith}
use lib.ListN.{length, get_or, set, length-set}
use lib.Seq.{get_or-set_same, get_or-set_other}
use Rattle.rules.specs.Limits.{max_columns}
use Rattle.rules.proofs.Bits.{same}
use Rattle.join.specs.Tables.{Joins, Joinable, Enters, Leaves}

pub joined_once : {table names : List ℕ} {n : ℕ} → Joins table names n → (i j : ℕ) → i < n → j < n → get_or names i 0 ≡ get_or names j 0 → i ≡ j
joined_once {table} j a b ha hb e =
    let s : suc a ≡ suc b = sym (j.there a ha) ∙ ap (λ (q : ℕ). get_or table q 0) e ∙ j.there b hb in
    omega arith

pub joins-none : (table names : List ℕ) → max_columns ≤ length names → ((q : ℕ) → get_or table q 0 ≡ 0) → Joins table names 0
joins-none table names l z = record {
  few = omega arith;
  room = l;
  inside = λ i h. absurd (not-suc-le-zero h);
  there = λ i h. absurd (not-suc-le-zero h);
  back = λ q i e. let s : 0 ≡ suc i = sym (z q) ∙ e in absurd (omega arith);
}

module _ (table names : List ℕ) (n q : ℕ) (h : Joinable table names n q) where
  names-new : get_or (set names n q) n 0 ≡ q
  names-new = get_or-set_same names n q 0 (omega (arith, h.joins.room, h.few))

  names-old : (i : ℕ) → i < n → get_or (set names n q) i 0 ≡ get_or names i 0
  names-old i l = get_or-set_other names n i q 0 (λ e. omega arith)

  other : (i : ℕ) → i < n → get_or names i 0 ≡ q → ⊥
  other i l e =
      let s : 0 ≡ suc i = sym h.new ∙ ap (λ (p : ℕ). get_or table p 0) (sym e) ∙ h.joins.there i l in
      omega arith

  pub enter-joins : Joins (set table q (suc n)) (set names n q) (suc n)
  enter-joins = record {
    few = h.few;
    room = simp length-set h.joins.room;
    inside = λ i l.
        same i n
        (λ e t. simp length-set (rw (e, names-new) h.inside))
        (λ e t. let k : i < n = omega arith in simp length-set (rw (names-old i k) (h.joins.inside i k)));
    there = λ i l.
        same i n
        (λ e t. rw (e, names-new) (get_or-set_same table q (suc n) 0 h.inside))
        (λ e t. let k : i < n = omega arith in
        rw (names-old i k) (get_or-set_other table q (get_or names i 0) (suc n) 0 (other i k) ∙ h.joins.there i k));
    back = λ p i e.
        same p q
        (λ u t. let s : suc n ≡ suc i = sym (get_or-set_same table q (suc n) 0 h.inside) ∙ ap (λ (z : ℕ). get_or (set table q (suc n)) z 0) (sym u) ∙ e in
        let m : i ≡ n = omega arith in
        (omega arith, rw (m, names-new) (sym u)))
        (λ u t. let b = h.joins.back p i (sym (get_or-set_other table q p (suc n) 0 u) ∙ e) in
        (omega (arith, b.0), names-old i b.0 ∙ b.1));
  }

-- what the code stores; v is the entry
pub enters_is : (table names : List ℕ) (n q v : ℕ) → Joinable table names n q → v ≡ suc n → Enters table names n q (set table q v) (set names n q)
enters_is table names n q v h e = rw e (record { joins = enter-joins table names n q h; entry = refl; name = refl })

-- after i of n wires have left
pub record Leaving (start names : List ℕ) (n i : ℕ) (table : List ℕ) : Type 0 where
  pub size : length table ≡ length start
  pub rest : (q j : ℕ) → get_or table q 0 ≡ suc j → (i ≤ j) × ((j < n) × (get_or names j 0 ≡ q))

module _ (start names : List ℕ) (n : ℕ) (h : Joins start names n) where
  pub leave_none : Leaving start names n 0 start
  leave_none = record { size = refl; rest = λ q j e. (omega arith, h.back q j e) }

  pub leave-inside : (i : ℕ) (table : List ℕ) → Leaving start names n i table → i < n → get_or names i 0 < length table
  leave-inside i table l k = omega (arith, h.inside i k, l.size)

  pub leave-turn : (i : ℕ) (table : List ℕ) → Leaving start names n i table → i < n → Leaving start names n (i + 1) (set table (get_or names i 0) 0)
  leave-turn i table l k = record {
    size = simp length-set l.size;
    rest = λ q j e.
        same q (get_or names i 0)
        (λ u t. let s : 0 ≡ suc j = sym (get_or-set_same table (get_or names i 0) 0 0 (leave-inside i table l k)) ∙ ap (λ (z : ℕ). get_or (set table (get_or names i 0) 0) z 0) (sym u) ∙ e in
        absurd (omega arith))
        (λ u t. let b = l.rest q j (sym (get_or-set_other table (get_or names i 0) q 0 0 u) ∙ e) in
        same j i
        (λ v w. absurd (u (sym b.1.1 ∙ ap (λ (z : ℕ). get_or names z 0) v)))
        (λ v w. (omega (arith, b.0), b.1)));
  }

  pub leave-all : (table : List ℕ) → Leaving start names n n table → Leaves table names
  leave-all table l =
      let z : (q : ℕ) → get_or table q 0 ≡ 0 = λ q. go q (get_or table q 0) refl in
      record { clear = z; joins = joins-none table names h.room z }
    where
      go : (q k : ℕ) → get_or table q 0 ≡ k → get_or table q 0 ≡ 0
      go q zero e = e
      go q (suc j) e = let b = l.rest q j e in absurd (omega (arith, b.0, b.1.0))

-- What a reader gave, behind what was there.
use Rattle.std.proofs.Common.{◌≡◌, ℕ, ◌+◌, ◌-◌, ◌≤◌, List, ◌++◌, Option, None, Some, take, drop, slice_range, sym, ap, ◌∙◌, arith, append_assoc, take-add, take-take}
use Rattle.std.proofs.lemmas.List.{drop-drop, drop-take}
use Rattle.std.specs.Io.KnownBytes.{Consumes, Keeps, prepend_known}

-- a part of a list, cut in two, where an older list has the first
pub joined : (from end next : ℕ) (old new : List ℕ) → from ≤ end → end ≤ next → take end new ≡ take end old
    → slice_range old from end ++ slice_range new end next ≡ slice_range new from next
joined from end next old new low high front =
    let m = end - from in
    let n = next - end in
    let whole : next - from ≡ m + n = omega arith in
    let here : from + m ≡ end = omega arith in
    let part : (l : List ℕ) → take m (drop from l) ≡ drop from (take end l) = λ l. sym (drop-take from m l) ∙ ap (λ k. drop from (take k l)) here in
    let first : take m (drop from old) ≡ take m (drop from new) = part old ∙ ap (drop from) (sym front) ∙ sym (part new) in
    let second : take n (drop end new) ≡ take n (drop m (drop from new)) = ap (λ k. take n (drop k new)) (sym here) ∙ ap (take n) (sym (drop-drop m from new)) in
    ap (λ l. l ++ take n (drop end new)) first ∙ ap (λ l. take m (drop from new) ++ l) second ∙ sym (take-add m n (drop from new)) ∙ ap (λ k. take k (drop from new)) (sym whole)

pub waiting : (a b : Option (List ℕ)) (xs bs ys : List ℕ) → xs ++ bs ≡ ys → Consumes a b bs → Keeps (prepend_known xs a) (prepend_known ys b)
waiting None b xs bs ys e p = tt
waiting (Some x) None xs bs ys e p = absurd p
waiting (Some x) (Some y) xs bs ys e p = ap (λ l. l ++ y) (sym e) ∙ append_assoc xs bs y ∙ ap (λ l. xs ++ l) (sym p)

pub shorter : (from end : ℕ) (old new : List ℕ) → from ≤ end → take end new ≡ take end old → take from new ≡ take from old
shorter from end old new low front = sym (take-take from end new low) ∙ ap (take from) front ∙ take-take from end old low

-- a part that was moved to the front, and what came behind it
pub behind : (n to : ℕ) (part moved new : List ℕ) → n ≤ to → take n moved ≡ part → take n new ≡ take n moved → part ++ slice_range new n to ≡ slice_range new 0 to
behind n to part moved new high is front =
    let whole : n - 0 ≡ n = omega arith in
    ap (λ l. l ++ slice_range new n to) (sym is ∙ ap (λ k. take k moved) (sym whole)) ∙ joined 0 n to moved new (omega arith) high front

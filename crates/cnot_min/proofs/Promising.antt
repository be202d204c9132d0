-- From what the code does to what is promised: an accepted list, and a refused one.
use mathlib.Core.Path.{◌≡◌, refl, sym, ap, ◌∙◌, subst}
use mathlib.Core.Bool.{Bool, true, false, false≢true}
use mathlib.Core.List.{List, ◌++◌, append_assoc}
use Prim.Native.Nat.{ℕ, ◌-◌, ◌*◌, ◌≤◌}
use lib.IntN.{ℤ, pos}
use lib.ListN.{length, take, drop, replicate}
use lib.Seq.{take_at}
use Rattle.rules.specs.Limits.{width}
use Rattle.rules.specs.Gate.{Gate}
use Rattle.rules.specs.Numbers.{gates_of, numbers_of}
use Rattle.rules.specs.Refusal as Refusals
use Rattle.rules.specs.Plan.{plan_of}
use Rattle.std.specs.Prelude as Res
use Rattle.gate.specs.declared.Refusal.{Refusal}
use Rattle.rules.specs.Scan.{Result}
use Rattle.rules.specs.Lines.{five_of}
use Rattle.rules.specs.Promise.{Promised}
use Rattle.rules.specs.Pass as Paper
use Rattle.rules.specs.Pass.{writer_of}
use Rattle.rules.proofs.Reading.{read-written, length-numbers}
use Rattle.rules.proofs.Resynthesis.{promised, counts-spent, five}
use Rattle.cnot_min.specs.Minimizing.{told, shown, Minimizes, Minimized}
use Rattle.cnot_min.specs.declared.Counts.{Counts}

-- what the counts and the output show is the pass
shown-is : (l : List ℤ) (q t : ℕ) (out : List ℤ) → shown (Paper.counts (gates_of l) (Paper.pass q t (gates_of l))) (Paper.out_after (length (gates_of l)) (Paper.pass q t (gates_of l)).gates out) ≡ Paper.pass q t (gates_of l)
unfolding Paper.counts Paper.out_after
shown-is l q t out =
    let r : Result = Paper.pass q t (gates_of l) in
    let zeros : List ℤ = replicate (width * (length (gates_of l) - length r.gates)) (pos 0) in
    let rest : List ℤ = drop (length (numbers_of r.gates ++ zeros)) out in
    let first : take (width * length r.gates) (Paper.over (numbers_of r.gates ++ zeros) out) ≡ numbers_of r.gates =
    ap (take (width * length r.gates)) (append_assoc (numbers_of r.gates) zeros rest) ∙ take_at (numbers_of r.gates) (zeros ++ rest) (width * length r.gates) (length-numbers r.gates) in
    ap (λ (gs : List Gate). record { gates = gs; blocks = r.blocks; replaced = r.replaced }) (ap gates_of first ∙ read-written r.gates)

-- ---- the two cases of an answer

counts_or : Paper.Counts → Paper.Answer → Paper.Counts
counts_or d (Paper.refusal r) = d
counts_or d (Paper.done c) = c

done-is : (c d : Paper.Counts) → Paper.done c ≡ Paper.done d → c ≡ d
unfolding counts_or
done-is c d e = ap (counts_or c) e

is_done : Paper.Answer → Bool
is_done (Paper.refusal r) = false
is_done (Paper.done c) = true

pub not_done : (r : Refusals.Refusal) (c : Paper.Counts) → Paper.refusal r ≡ Paper.done c → false ≡ true
unfolding is_done
not_done r c e = ap is_done e

module _ (l : List ℤ) (w b q t : ℕ) (out : List ℤ) (terms steps : List ℕ) where
  after-accepted : Refusals.verdict l w b (length out) (length terms) (length steps) ≡ Refusals.accepted
      → Paper.after l w b q t out terms steps ≡ record {
        answer = Paper.done (Paper.counts (gates_of l) (Paper.pass q t (gates_of l)));
        out = Paper.out_after (length (gates_of l)) (Paper.pass q t (gates_of l)).gates out;
        terms = Paper.terms_after (length (gates_of l)) terms;
        steps = Paper.steps_after (length (gates_of l)) steps;
      }
  unfolding Paper.after
  after-accepted e = rw e refl

  after-refused : (r : Refusals.Refusal) → Refusals.verdict l w b (length out) (length terms) (length steps) ≡ Refusals.refused r
      → Paper.after l w b q t out terms steps ≡ record { answer = Paper.refusal r; out = out; terms = terms; steps = steps }
  unfolding Paper.after
  after-refused r e = rw e refl

  pub minimizes : (r : Res.Result Counts Refusal) (out' : List ℤ) (terms' steps' : List ℕ) → Refusals.verdict l w b (length out) (length terms) (length steps) ≡ Refusals.accepted
      → Minimized l q t out terms steps r out' terms' steps' → Minimizes l w b q t out terms steps r out' terms' steps'
  minimizes r out' terms' steps' e m = record {
    answer = m.answer ∙ ap (λ (x : Paper.After). x.answer) (sym (after-accepted e));
    out-is = m.out-is ∙ ap (λ (x : Paper.After). x.out) (sym (after-accepted e));
    terms-are = m.terms-are ∙ ap (λ (x : Paper.After). x.terms) (sym (after-accepted e));
    steps-are = m.steps-are ∙ ap (λ (x : Paper.After). x.steps) (sym (after-accepted e));
    alike = λ c f. (promised-of c f).alike;
    thrifty = λ c f. (promised-of c f).thrifty;
    exactly = λ c f. (promised-of c f).exactly;
    sparing = λ c f. (promised-of c f).sparing;
    spent = λ c f. subst (λ (x : Paper.Counts). x.t_out ≤ x.t_in) (sym (same c f)) (counts-spent q t (gates_of l));
    lines = λ c f. (promised-of c f).lines;
    traced = λ c f. (promised-of c f).traced;
    five = λ c f. ap five_of (whole c f) ∙ five q t (gates_of l);
  }
    where
      same : (c : Paper.Counts) → told r ≡ Paper.done c → c ≡ Paper.counts (gates_of l) (Paper.pass q t (gates_of l))
      same c f = done-is c (Paper.counts (gates_of l) (Paper.pass q t (gates_of l))) (sym f ∙ m.answer)

      whole : (c : Paper.Counts) → told r ≡ Paper.done c → shown c out' ≡ Paper.pass q t (gates_of l)
      whole c f =
          ap (λ (x : Paper.Counts). shown x out') (same c f) ∙ ap (shown (Paper.counts (gates_of l) (Paper.pass q t (gates_of l)))) m.out-is ∙ shown-is l q t out

      promised-of : (c : Paper.Counts) → told r ≡ Paper.done c → let p = plan_of q t in Promised (writer_of p) p (gates_of l) (shown c out')
      promised-of c f = let p = plan_of q t in subst (Promised (writer_of p) p (gates_of l)) (sym (whole c f)) (promised q t (gates_of l))

  pub refuses : (r : Refusals.Refusal) (a : Res.Result Counts Refusal) → told a ≡ Paper.refusal r → Refusals.verdict l w b (length out) (length terms) (length steps) ≡ Refusals.refused r
      → Minimizes l w b q t out terms steps a out terms steps
  refuses r a f e = record {
    answer = f ∙ ap (λ (x : Paper.After). x.answer) (sym (after-refused r e));
    out-is = ap (λ (x : Paper.After). x.out) (sym (after-refused r e));
    terms-are = ap (λ (x : Paper.After). x.terms) (sym (after-refused r e));
    steps-are = ap (λ (x : Paper.After). x.steps) (sym (after-refused r e));
    alike = λ c g. absurd (false≢true (not_done r c (sym f ∙ g)));
    thrifty = λ c g. absurd (false≢true (not_done r c (sym f ∙ g)));
    exactly = λ c g. absurd (false≢true (not_done r c (sym f ∙ g)));
    sparing = λ c g. absurd (false≢true (not_done r c (sym f ∙ g)));
    spent = λ c g. absurd (false≢true (not_done r c (sym f ∙ g)));
    lines = λ c g. absurd (false≢true (not_done r c (sym f ∙ g)));
    traced = λ c g. absurd (false≢true (not_done r c (sym f ∙ g)));
    five = λ c g. absurd (false≢true (not_done r c (sym f ∙ g)));
  }

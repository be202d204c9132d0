-- `scan::close` meets its contract: what `flush` says of the run, which is the list's part, at the part of the output that lies behind the first m gates.
use mathlib.Core.Path.{◌≡◌, sym, ap, ◌∙◌}
use Prim.Native.Nat.{◌+◌, ◌-◌, ◌*◌}
use native.Mathlib.Omega.{arith}
use lib.ListN.{length}
use Rattle.rules.specs.Limits.{width}
use Rattle.rules.specs.Numbers.{gates_of, numbers_of}
use Rattle.rules.specs.Scan.{Writer, chosen, replaces}
use Rattle.rules.specs.Pass.{writer_of}
use Rattle.rules.proofs.Reading.{from-length}
use Rattle.plan.specs.View.{view}
use Rattle.scan.specs.Scanning.{run}
use Rattle.scan.proofs.Writing.{part, part-gates, part-exact, put-behind, part-fits}
use Rattle.scan.proofs.close.Goals as goal

pub flush-requires-clause-flushable : goal.flush-requires-clause-flushable
flush-requires-clause-flushable g c =
    let a = c.args in
    let k = c.requires.closable in
    record {
      exact = part-exact a.list.now k.checked.exact a.start a.end k.onward;
      holds = rw (part-gates a.list.now k.checked.exact a.start a.end k.onward k.inside) k.holds;
      wires = k.checked.wires;
    }

pub flush-requires-clause-lent : goal.flush-requires-clause-lent
flush-requires-clause-lent g c =
    let a = c.args in
    let k = c.requires.closable in
    let gates : gates_of (part a.list.now a.start a.end) ≡ run a.list.now a.start a.end = part-gates a.list.now k.checked.exact a.start a.end k.onward k.inside in
    let count = ap length gates ∙ from-length a.list.now (a.end - a.start) a.start in
    record {
      many = omega (arith, count, k.inside, k.checked.few);
      fits = part-fits a.list.now a.out.now a.start a.end a.m k.onward k.inside k.behind k.fits;
      long = omega (arith, count, k.inside, c.requires.spared.long);
    }

pub flush-requires-clause-few : goal.flush-requires-clause-few
flush-requires-clause-few g c =
    let a = c.args in
    let k = c.requires.closable in
    let r = c.requires.suits in
    let gates : gates_of (part a.list.now a.start a.end) ≡ run a.list.now a.start a.end = part-gates a.list.now k.checked.exact a.start a.end k.onward k.inside in
    let count = ap length gates ∙ from-length a.list.now (a.end - a.start) a.start in
    (omega (arith, count, k.inside, r.few), r.narrow)

pub returns : goal.returns
returns g c =
    let f = c.flush in
    let a = c.args in
    let k = c.requires.closable in
    let gates : gates_of (part a.list.now a.start a.end) ≡ run a.list.now a.start a.end = part-gates a.list.now k.checked.exact a.start a.end k.onward k.inside in
    let write : Writer = writer_of (view a.plan) in
    let count = f.ensures.settles.gates ∙ ap (λ gs. length (chosen write gs)) gates in
    record {
      text = put-behind a.m f.result.gates (width * a.m + (width * a.end - width * a.start) - width * a.m) a.out.now f.new.place (chosen write (run a.list.now a.start a.end))
          (omega (arith, k.behind, k.onward, k.inside, k.fits)) (sym count) (f.ensures.settles.text ∙ ap (λ gs. numbers_of (chosen write gs)) gates);
      gates = count;
      replaced = f.ensures.settles.replaced ∙ ap (replaces write) gates;
      clear = f.ensures.leaves.clear;
    }

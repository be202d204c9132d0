use Rattle.std.proofs.Common.{◌∙◌, rules, arith, subst}
use Rattle.std.specs.Io.KnownBytes.{Consumes}
use Rattle.std.proofs.KnownBytes.{Consumes-trans}
use Rattle.flow.proofs.Coming.{joined, shorter}
use Rattle.flow.proofs.read_up.Goals as goal

pub returns-then-next-end-clause-came : goal.returns-then-next-end-clause-came
returns-then-next-end-clause-came g c =
    let l = c.loop-end in
    let new = c.read_on.new.input in
    let e = joined c.args.from l.end c.in_ok-next.next l.input new l.invariant.least c.in_ok-next.ensures.ok.0 c.in_ok-next.ensures.front in
    rw (← c.if-next-end.true) (subst (Consumes _ _) e (Consumes-trans _ _ _ _ _ l.invariant.came c.in_ok-next.ensures.came))

pub loop-end-preserved : goal.loop-end-preserved
loop-end-preserved g c =
    let l = c.loop-end in
    let new = c.read_on.new.input in
    let more = c.in_ok-next.ensures in
    record {
      least = omega (arith, l.invariant.least, more.ok.0);
      most = search rules;
      front = shorter c.args.from l.end l.input new l.invariant.least more.front ∙ l.invariant.front;
      came = subst (Consumes _ _) (joined c.args.from l.end c.in_ok-next.next l.input new l.invariant.least more.ok.0 more.front) (Consumes-trans _ _ _ _ _ l.invariant.came more.came);
    }

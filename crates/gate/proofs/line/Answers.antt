-- `gate::line` meets its contract.
use mathlib.Core.Path.{sym, ◌∙◌, ap}
use Prim.Native.Nat.{◌<◌, ◌≤◌}
use native.Mathlib.Omega.{arith}
use borrow.Author.Tests.{ltb-true, ltb-false}
use lib.IntN.{pos}
use lib.ListN.{length}
use Rattle.std.proofs.lemmas.List.{get_or_read}
use Rattle.rules.specs.Numbers.{nat_of}
use Rattle.gate.proofs.Tests.{read_small}
use Rattle.gate.proofs.Lines.{line-none, line_first}
use Rattle.gate.proofs.line.Goals as goal

pub returns-in-Some : goal.returns-in-Some
returns-in-Some c =
    let l = c.args.list.now in
    let long : 5 < length l = ltb-true 5 (length l) (sym c.in-Some.ensures.lookup.0) in
    let e = get_or_read l 5 c.in-Some.field-0.now long c.in-Some.ensures.lookup.1 (pos 0) in
    let r = read_small c.in-Some.field-0.now c.nat.result (search) c.nat.ensures in
    (r.0 ∙ ap nat_of e ∙ line_first l (omega arith), r.1)

pub returns-in-None : goal.returns-in-None
returns-in-None c =
    let l = c.args.list.now in
    let short : length l ≤ 5 = ltb-false 5 (length l) (sym c.in-None.ensures.lookup.0) in
    (line-none l (omega arith), omega arith)

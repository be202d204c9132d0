-- The first r rows are the product's.
use mathlib.Core.Path.{◌≡◌}
use mathlib.Core.List.{map}
use lib.ListN.{take}
use Rattle.rules.specs.Close.{times}
use Rattle.rows.specs.Rows.{rows_of}
use Rattle.rows.proofs.products.Given as goal

abbrev pub invariant-loop-r : goal.invariant-loop-r
invariant-loop-r l = take l.r (rows_of l.m) ≡ take l.r (map (λ v. times v 0 (rows_of l.inv)) (rows_of l.wanted))

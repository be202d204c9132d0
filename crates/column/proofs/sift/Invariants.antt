-- what is left are the candidates whose digits from k up are the largest number.
use lib.ListN.{drop}
use Rattle.parity.specs.View.{val}
use Rattle.rows.specs.Rows.{rows_of}
use Rattle.column.specs.Planes.{Sifted}
use Rattle.column.proofs.sift.Given as goal

abbrev pub invariant-loop-k : goal.invariant-loop-k
invariant-loop-k l = Sifted (val l.initial.left) (val l.flip) (drop l.k (rows_of l.planes)) (val l.left)

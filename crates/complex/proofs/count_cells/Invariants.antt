-- The cells of the degrees below k are counted.
use Rattle.std.proofs.Common.{◌≡◌}
use Rattle.linear.specs.Sums.{total}
use Rattle.complex.proofs.count_cells.Given as goal

abbrev pub invariant-loop-k : goal.invariant-loop-k
invariant-loop-k g l = l.n ≡ total l.k (g.C.Complex.meaning l.c).dim

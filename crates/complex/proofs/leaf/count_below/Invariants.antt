-- The cells before i are counted.
use Rattle.std.proofs.Common.{◌≡◌, ◌≤◌, length, take}
use Rattle.complex.specs.Starts.{below_degree}
use Rattle.complex.proofs.leaf.count_below.Given as goal

abbrev pub invariant-loop-i : goal.invariant-loop-i
invariant-loop-i g l =
    (l.n ≡ length (below_degree g.I.K.Cell.kind l.d (take l.i (g.I.Index.cells l.index)))) × (l.n ≤ l.i)

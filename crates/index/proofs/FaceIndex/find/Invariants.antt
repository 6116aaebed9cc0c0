-- The cell that is looked for stands neither below low nor from high on, if the list ascends.
use Rattle.std.proofs.Common.{◌-◌}
use Rattle.index.proofs.Halves.{Between}
use Rattle.index.proofs.FaceIndex.find.Given as goal

abbrev pub invariant-loop-low : goal.invariant-loop-low
invariant-loop-low g l = Between g.K.Cell.kind l.self.cells.now l.c l.want l.low l.high

abbrev pub decreases-loop-low : goal.decreases-loop-low
decreases-loop-low g l = l.high - l.low

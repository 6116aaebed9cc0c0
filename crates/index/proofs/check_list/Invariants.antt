-- The cells before n have passed.
use Rattle.index.proofs.Turns.{Passed}
use Rattle.index.proofs.check_list.Given as goal

abbrev pub invariant-loop-n : goal.invariant-loop-n
invariant-loop-n g l = Passed g.K.Cell.kind l.cells l.n

-- The cells before n stand in the larger list, if that list ascends.
use Rattle.std.proofs.Common.{take}
use Rattle.index.specs.Closed.{Ascending}
use Rattle.maps.specs.Inclusion.{Included}
use Rattle.maps.proofs.inclusion.check_inclusion.Given as goal

abbrev pub invariant-loop-n : goal.invariant-loop-n
invariant-loop-n g l =
    let k = g.I.K.Cell.kind in let cs = g.I.Index.cells l.larger in
    Ascending k cs → Included k (take l.n (g.I.Index.cells l.smaller)) cs

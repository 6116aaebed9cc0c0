-- The faces from f on decide, if the list ascends.
use Rattle.std.proofs.Common.{◌≡◌, drop}
use Rattle.index.specs.Closed.{Ascending}
use Rattle.index.specs.Test.{all_held}
use Rattle.index.proofs.FaceIndex.has_faces.Given as goal

abbrev pub invariant-loop-f : goal.invariant-loop-f
invariant-loop-f g l =
    let k = g.K.Cell.kind in let cs = l.self.cells.now in let fs = k.faces l.c in
    Ascending k cs → all_held k cs (drop l.f fs) ≡ all_held k cs fs

-- The pairs with their left cell in a degree below p are counted.
use Rattle.std.proofs.Common.{◌≡◌, ◌*◌, ◌≤◌}
use Rattle.linear.specs.Sums.{total}
use Rattle.linear.specs.Tensor.{block}
use Rattle.tensor.proofs.Tensor.count_pairs.Given as goal

abbrev pub invariant-loop-p : goal.invariant-loop-p
invariant-loop-p g l =
    (l.n ≡ total l.p (block (g.C.Complex.meaning l.self.left) (g.D.Complex.meaning l.self.right) l.k))
    × (l.n ≤ l.p * 1048576)

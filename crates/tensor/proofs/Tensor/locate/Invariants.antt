-- The number n lies past the blocks below p by the rest.
use Rattle.std.proofs.Common.{◌≡◌, ◌+◌}
use Rattle.linear.specs.Sums.{total}
use Rattle.linear.specs.Tensor.{block}
use Rattle.tensor.proofs.Tensor.locate.Given as goal

abbrev pub invariant-loop-p : goal.invariant-loop-p
invariant-loop-p g l =
    total l.p (block (g.C.Complex.meaning l.self.left) (g.D.Complex.meaning l.self.right) l.k) + l.rest ≡ l.n

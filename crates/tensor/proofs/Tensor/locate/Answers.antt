-- The block that holds the rest.
use Rattle.std.proofs.Common.{suc, sym, arith}
use Rattle.linear.specs.Tensor.{block}
use Rattle.linear.proofs.tensor.Locate.{locate_some}
use Rattle.tensor.proofs.Tensor.locate.Goals as goal

pub returns-then-rest-size-clause-is : goal.returns-then-rest-size-clause-is
returns-then-rest-size-clause-is g c =
    let s = c.args.self.now in let k = c.args.k in let l = c.loop-p in
    let pairs = block (g.C.Complex.meaning s.left) (g.D.Complex.meaning s.right) k in
    rw (← l.invariant) (sym (locate_some pairs (suc k) l.p l.rest (omega arith) (omega arith)))

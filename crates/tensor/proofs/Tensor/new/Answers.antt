-- The tensor of two complexes is what its law says.
use Rattle.linear.proofs.tensor.Laws.{tensor_is_tensor}
use Rattle.tensor.proofs.Tensor.new.Goals as goal

pub returns-clause-law : goal.returns-clause-law
returns-clause-law g c =
    tensor_is_tensor g.C.F.Field.codes (g.C.Complex.meaning c.args.left) (g.D.Complex.meaning c.args.right)

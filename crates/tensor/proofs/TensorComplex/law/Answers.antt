-- The tensor of two complexes is a complex.
use Rattle.linear.proofs.tensor.Laws.{tensor_is_complex}
use Rattle.tensor.proofs.TensorComplex.law.Goals as goal

pub returns-clause-complex : goal.returns-clause-complex
returns-clause-complex g c =
    tensor_is_complex g.C.F.Field.codes g.met.C.F.Field.field (g.C.Complex.meaning c.args.self.now.left)
    (g.D.Complex.meaning c.args.self.now.right) c.law.ensures.complex c.law-2.ensures.complex

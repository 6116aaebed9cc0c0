-- The law of a scalar, from the law of the complex.
use Rattle.linear.proofs.cone.Scalars.{scalar_is_chain_map}
use Rattle.maps.proofs.scalar.ScalarChainMap.law.Goals as goal

pub returns : goal.returns
returns g c =
    let s = c.args.self.now in
    scalar_is_chain_map g.C.F.Field.codes g.met.C.F.Field.field s.code (g.C.Complex.meaning s.base)
    c.law.ensures.complex

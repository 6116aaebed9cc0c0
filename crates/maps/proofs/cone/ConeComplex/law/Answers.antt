-- The law of the cone, from the law of the map.
use Rattle.linear.proofs.cone.Laws.{cone_is_complex}
use Rattle.maps.proofs.cone.ConeComplex.law.Goals as goal

pub returns-clause-complex : goal.returns-clause-complex
returns-clause-complex g c =
    cone_is_complex g.M.F.Field.codes g.met.M.F.Field.field (g.M.ChainMap.meaning c.args.self.now.map) c.law.ensures

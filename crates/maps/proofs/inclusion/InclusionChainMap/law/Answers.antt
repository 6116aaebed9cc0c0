-- The law of an inclusion, at the cells and the field of its leaves.
use Rattle.maps.proofs.inclusion.Laws.{inclusion_is_chain_map}
use Rattle.maps.proofs.inclusion.InclusionChainMap.law.Goals as goal

pub returns : goal.returns
returns g c =
    let s = c.args.self.now in let h = c.requires in
    inclusion_is_chain_map g.F.Field.codes g.met.F.Field.field g.I.K.Cell.kind g.met.I.K.Cell.cell
    (g.I.Index.cells s.smaller.index) (g.I.Index.cells s.larger.index) h.smaller.closed
    h.larger.closed h.included

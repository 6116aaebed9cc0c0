-- The law of the complex of a closed list, at the cells and the field of this leaf.
use Rattle.complex.proofs.leaf.Laws.{leaf_is_complex, leaf_within_limits}
use Rattle.complex.proofs.leaf.LeafComplex.law.Goals as goal

pub returns : goal.returns
returns g c =
    let f = g.F.Field.codes in let law = g.met.F.Field.field in
    let k = g.I.K.Cell.kind in let kind = g.met.I.K.Cell.cell in
    let cs = g.I.Index.cells c.args.self.now.index in
    record {
      complex = leaf_is_complex f law k kind cs c.requires.closed;
      limits = leaf_within_limits f law k kind cs c.requires.closed;
    }

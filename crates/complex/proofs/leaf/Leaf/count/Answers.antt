-- A degree ends where the next one starts; there are no cells past degree 3.
use Rattle.std.proofs.Common.{sym, arith}
use Rattle.complex.proofs.leaf.Places.{starts_more, none_above}
use Rattle.complex.proofs.leaf.Leaf.count.Goals as goal

pub overflow_sub-result : goal.overflow_sub-result
overflow_sub-result g c =
    let k = g.I.K.Cell.kind in let s = c.args.self.now in let cs = g.I.Index.cells s.index in
    omega (arith, starts_more k g.met.I.K.Cell.cell cs s.starts c.requires c.args.d (omega arith))

pub returns-then-d-lt4 : goal.returns-then-d-lt4
returns-then-d-lt4 g c =
    let k = g.I.K.Cell.kind in let s = c.args.self.now in let cs = g.I.Index.cells s.index in
    omega (arith, starts_more k g.met.I.K.Cell.cell cs s.starts c.requires c.args.d (omega arith))

pub returns-else-d-lt4 : goal.returns-else-d-lt4
returns-else-d-lt4 g c =
    let k = g.I.K.Cell.kind in let s = c.args.self.now in let cs = g.I.Index.cells s.index in
    sym (none_above k g.met.I.K.Cell.cell cs s.starts c.requires c.args.d (omega arith))

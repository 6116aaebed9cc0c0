-- The place of a cell that is there lies within the starts and within the list.
use Rattle.std.proofs.Common.{sym, ◌∙◌, arith, rules}
use Rattle.std.proofs.lemmas.Option.{slice_get_past}
use Rattle.complex.specs.Leaf.{of_degree}
use Rattle.complex.proofs.leaf.Places.{place}
use Rattle.complex.proofs.leaf.Leaf.cell.Goals as goal

pub offset_bounds-self-d : goal.offset_bounds-self-d
offset_bounds-self-d g c =
    let k = g.I.K.Cell.kind in let s = c.args.self.now in let cs = g.I.Index.cells s.index in
    let p = place k g.met.I.K.Cell.cell cs s.starts c.requires c.args.d c.args.i (omega arith) in
    search rules

pub bounds-self-d : goal.bounds-self-d
bounds-self-d g c =
    let k = g.I.K.Cell.kind in let s = c.args.self.now in let cs = g.I.Index.cells s.index in
    let p = place k g.met.I.K.Cell.cell cs s.starts c.requires c.args.d c.args.i (omega arith) in
    search rules

pub overflow_add-self : goal.overflow_add-self
overflow_add-self g c =
    let k = g.I.K.Cell.kind in let s = c.args.self.now in let cs = g.I.Index.cells s.index in
    let p = place k g.met.I.K.Cell.cell cs s.starts c.requires c.args.d c.args.i (omega arith) in
    search rules

pub returns-then-i-count : goal.returns-then-i-count
returns-then-i-count g c =
    let k = g.I.K.Cell.kind in let s = c.args.self.now in let cs = g.I.Index.cells s.index in
    let p = place k g.met.I.K.Cell.cell cs s.starts c.requires c.args.d c.args.i (omega arith) in
    c.at.ensures ∙ sym p.is

pub returns-else-i-count : goal.returns-else-i-count
returns-else-i-count g c =
    let cs = g.I.Index.cells c.args.self.now.index in
    sym (slice_get_past (of_degree g.I.K.Cell.kind c.args.d cs) c.args.i (omega arith))

-- One cell more, and the end.
use Rattle.std.proofs.Common.{arith}
use Rattle.std.specs.List.{slice_get}
use Rattle.complex.proofs.leaf.Steps.{one_below_le, length_below_take, length_below_all}
use Rattle.complex.proofs.leaf.count_below.Goals as goal

pub loop-i-preserved : goal.loop-i-preserved
loop-i-preserved g c =
    let k = g.I.K.Cell.kind in let cs = g.I.Index.cells c.args.index.now in let l = c.loop-i in
    let more = length_below_take k c.args.d cs l.i (omega arith) in
    let one = one_below_le k c.args.d (slice_get cs l.i) in
    (omega arith, omega arith)

pub returns : goal.returns
returns g c =
    let k = g.I.K.Cell.kind in let cs = g.I.Index.cells c.args.index.now in let l = c.loop-i in
    length_below_all k c.args.d cs l.i l.n l.invariant.0 (omega arith)

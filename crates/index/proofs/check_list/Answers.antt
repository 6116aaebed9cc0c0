-- One cell more, and the cell that does not pass.
use Rattle.std.proofs.Common.{arith}
use Rattle.std.proofs.lemmas.Result.{err_from_is_err_and}
use Rattle.index.proofs.Turns.{passed_more, answer_stop}
use Rattle.index.proofs.check_list.Goals as goal

pub returns-in_err-check_cell : goal.returns-in_err-check_cell
returns-in_err-check_cell g c =
    let p = err_from_is_err_and c.from_residual.result c.from_residual.ensures.1 in
    let l = c.loop-n in let read = c.index-cells-n in let b = c.in_err-check_cell in
    let a =
    answer_stop g.K.Cell.kind g.met.K.Cell.cell c.args.cells.now (omega arith) l.n l.invariant
    read.result (omega arith) read.is b.field-0.0 (b.ensures l.invariant.closed.ascending)
    in
    rw (p.1, p.2) (record { is = a.is; closed = a.closed })

pub loop-n-preserved : goal.loop-n-preserved
loop-n-preserved g c =
    let l = c.loop-n in let read = c.index-cells-n in
    passed_more g.K.Cell.kind g.met.K.Cell.cell c.args.cells.now (omega arith) l.n l.invariant
    read.result (omega arith) read.is (c.in_ok-check_cell.ensures l.invariant.closed.ascending)

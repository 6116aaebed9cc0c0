-- The sum so far is at most that of all degrees.
use Rattle.std.proofs.Common.{suc, ◌+◌, arith, rules}
use Rattle.linear.proofs.Totals.{total_le, total_more}
use Rattle.complex.proofs.count_cells.Goals as goal

pub overflow_add-n : goal.overflow_add-n
overflow_add-n g c =
    let m = g.C.Complex.meaning c.args.c.now in let k = c.loop-k.k in
    let more = total_more k m.dim in
    let part = total_le (k + 1) (suc m.top) m.dim (omega arith) in
    let few = c.law.ensures.limits.cells in
    search rules

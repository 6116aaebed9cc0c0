use Rattle.std.proofs.Common.{arith}
use Rattle.std.proofs.lemmas.List.{take_more}
use Rattle.report.proofs.Writing.{writes_then}
use Rattle.report.proofs.Pen.put.Goals as goal

pub loop-byte-preserved : goal.loop-byte-preserved
loop-byte-preserved c =
    rw (take_more c.args.text.now c.loop-byte.byte-index 0 (omega arith))
    (writes_then c.loop-byte.invariant c.put_byte.ensures)

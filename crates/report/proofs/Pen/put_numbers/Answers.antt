use Rattle.std.proofs.Common.{arith}
use Rattle.report.proofs.Pieces.{numbers_more, numbers_within}
use Rattle.report.proofs.Writing.{writes_then}
use Rattle.report.proofs.Pen.put_numbers.Goals as goal

pub put_byte-requires : goal.put_byte-requires
put_byte-requires c =
    omega (arith, c.loop-n.invariant.puts.place, numbers_within c.args.ns.now c.loop-n.n-index (omega arith))

pub put_number-requires : goal.put_number-requires
put_number-requires c =
    omega (
      arith,
      c.loop-n.invariant.puts.place,
      c.put_byte.ensures.puts.place,
      numbers_within c.args.ns.now c.loop-n.n-index (omega arith),
    )

pub loop-n-preserved : goal.loop-n-preserved
loop-n-preserved c =
    rw (← numbers_more c.args.ns.now c.loop-n.n-index (omega arith))
    (writes_then c.loop-n.invariant (writes_then c.put_byte.ensures c.put_number.ensures))

use Rattle.std.proofs.Common.{take}
use Rattle.report.specs.Pens.{Writes}
use Rattle.report.proofs.Pen.put.Given as goal

abbrev pub invariant-loop-byte : goal.invariant-loop-byte
invariant-loop-byte l = Writes l.initial.self l.self (take l.byte-index l.text)

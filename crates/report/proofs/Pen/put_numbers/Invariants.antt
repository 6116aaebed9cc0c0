use Rattle.std.proofs.Common.{take}
use Rattle.report.specs.Lines.{numbers}
use Rattle.report.specs.Pens.{Writes}
use Rattle.report.proofs.Pen.put_numbers.Given as goal

abbrev pub invariant-loop-n : goal.invariant-loop-n
invariant-loop-n l = Writes l.initial.self l.self (numbers (take l.n-index l.ns))

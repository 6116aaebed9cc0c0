use Rattle.std.proofs.Common.{◌+◌, ◌-◌, arith}
use Rattle.report.proofs.Degrees.{length_degrees, take_degrees}
use Rattle.report.proofs.ByDegree.listed.Goals as goal

pub returns : goal.returns
returns c =
    let xs = c.args.self.now.numbers in let n = c.min.result in
    record {
      is = take_degrees xs c.args.self.now.top n (omega arith) (omega arith);
      few = length_degrees xs (n + 1 - 0) (omega arith) (omega arith);
    }

-- The law of the dual, from the law of the complex below it.
use Rattle.linear.proofs.Duals.{dual_is_complex, dual_within_limits}
use Rattle.complex.proofs.dual.DualComplex.law.Goals as goal

pub returns : goal.returns
returns g c =
    let m = g.C.Complex.meaning c.args.self.now.base in
    record {
      complex = dual_is_complex g.C.F.Field.codes g.met.C.F.Field.field m c.law.ensures.complex;
      limits = dual_within_limits m c.law.ensures.limits;
    }

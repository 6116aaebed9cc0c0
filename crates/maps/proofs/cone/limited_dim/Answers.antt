-- A degree has no more cells than the limits allow to all.
use Rattle.std.proofs.Common.{arith}
use Rattle.linear.proofs.Limits.{dim_le}
use Rattle.maps.proofs.cone.limited_dim.Goals as goal

pub returns-clause-small : goal.returns-clause-small
returns-clause-small g c =
    let law = c.law.ensures in
    omega (arith, dim_le g.C.F.Field.codes (g.C.Complex.meaning c.args.c.now) law.complex law.limits c.args.k)

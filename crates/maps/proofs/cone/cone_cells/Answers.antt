-- The cells of the source and of the target are the cells of the cone.
use Rattle.std.proofs.Common.{◌≡◌, arith}
use Rattle.linear.proofs.cone.Counts.{total_cone}
use Rattle.complex.specs.Limits.{cells}
use Rattle.maps.proofs.cone.cone_cells.Goals as goal

pub returns : goal.returns
returns g c =
    let m = g.M.ChainMap.meaning c.args.m.now in
    let source : c.count_cells.result ≡ cells m.source = cc in
    let target : c.count_cells-2.result ≡ cells m.target = cc in
    omega (arith, source, target, total_cone g.M.F.Field.codes m c.law.ensures)

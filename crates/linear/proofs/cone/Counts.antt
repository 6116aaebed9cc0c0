-- How many cells the cone has.
use Rattle.std.proofs.Common.{◌≡◌, suc, ◌+◌, arith}
use Rattle.field.specs.Codes.{Codes}
use Rattle.linear.specs.ChainMaps.{MapMeaning, IsChainMap}
use Rattle.linear.specs.Cone.{from_source, cone}
use Rattle.linear.specs.Sums.{total}
use Rattle.linear.proofs.Totals.{total_first, total_past, total_plus}

-- the cone has the cells of the source and the cells of the target
pub total_cone :
    (f : Codes) (m : MapMeaning) → IsChainMap f m →
    total (suc (cone f m).top) (cone f m).dim
    ≡ total (suc m.source.top) m.source.dim + total (suc m.target.top) m.target.dim
total_cone f m map =
    let top = (cone f m).top in
    let sources = total_first top (from_source m) in
    let same = total_past (suc m.source.top) top m.source.dim (omega arith)
    (λ k w. map.source.above_top k (omega arith)) in
    let others = total_past (suc m.target.top) (suc top) m.target.dim (omega arith)
    (λ k w. map.target.above_top k (omega arith)) in
    omega (arith, total_plus (suc top) (from_source m) m.target.dim, sources, same, others)

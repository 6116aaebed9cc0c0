use Rattle.cell.specs.SimplexLaws.{simplices_ascend}
use Rattle.cell.proofs.simplex.simplices_ascend_by_degree_then_vertices.Goals as goal

pub returns : goal.returns
returns c = simplices_ascend

use Rattle.reduction.proofs.Classes.{homotopy_fills}
use Rattle.reduction.proofs.the_homotopy_fills_a_difference.Goals as goal

pub returns : goal.returns
returns c = homotopy_fills

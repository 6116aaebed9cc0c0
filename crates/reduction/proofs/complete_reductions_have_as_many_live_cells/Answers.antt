use Rattle.reduction.proofs.Betti.{live_cells_agree}
use Rattle.reduction.proofs.complete_reductions_have_as_many_live_cells.Goals as goal

pub returns : goal.returns
returns c = live_cells_agree

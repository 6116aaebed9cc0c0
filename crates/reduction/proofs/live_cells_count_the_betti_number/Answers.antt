use Rattle.reduction.proofs.Betti.{live_cells_count}
use Rattle.reduction.proofs.live_cells_count_the_betti_number.Goals as goal

pub returns : goal.returns
returns c = live_cells_count

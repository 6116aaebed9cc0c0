use Rattle.reduction.proofs.Survivors.{live_sums_vanish}
use Rattle.reduction.proofs.boundaries_compose_over_live_cells.Goals as goal

pub returns : goal.returns
returns c = live_sums_vanish

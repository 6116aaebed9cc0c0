use Rattle.reduction.proofs.Runs.{loaded_cells_are_live}
use Rattle.reduction.proofs.all_cells_are_live_after_loading.Goals as goal

pub returns : goal.returns
returns c = loaded_cells_are_live

use Rattle.reduction.proofs.Runs.{cancels_keep}
use Rattle.reduction.proofs.each_cancel_removes_two_live_cells.Goals as goal

pub returns : goal.returns
returns c = cancels_keep

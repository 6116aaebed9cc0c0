use Rattle.reduction.proofs.Runs.{cancels_end}
use Rattle.reduction.proofs.enough_cancels_leave_no_boundary.Goals as goal

pub returns : goal.returns
returns c = cancels_end

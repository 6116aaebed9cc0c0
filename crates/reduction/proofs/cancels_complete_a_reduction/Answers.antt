use Rattle.reduction.proofs.Completing.{cancels_complete}
use Rattle.reduction.proofs.cancels_complete_a_reduction.Goals as goal

pub returns : goal.returns
returns c = cancels_complete

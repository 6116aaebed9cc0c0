use Rattle.reduction.proofs.Cancelling.{cancelling_keeps}
use Rattle.reduction.proofs.cancelling_keeps_a_reduction.Goals as goal

pub returns : goal.returns
returns c = cancelling_keeps

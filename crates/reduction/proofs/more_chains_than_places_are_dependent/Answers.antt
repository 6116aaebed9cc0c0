use Rattle.reduction.proofs.Dimensions.{more_chains_are_dependent}
use Rattle.reduction.proofs.more_chains_than_places_are_dependent.Goals as goal

pub returns : goal.returns
returns c = more_chains_are_dependent

use Rattle.reduction.proofs.Betti.{betti_is_one}
use Rattle.reduction.proofs.a_degree_has_one_betti_number.Goals as goal

pub returns : goal.returns
returns c = betti_is_one

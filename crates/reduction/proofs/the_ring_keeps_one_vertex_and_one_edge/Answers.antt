use Rattle.reduction.proofs.Ring.{ring_cancels}
use Rattle.reduction.proofs.the_ring_keeps_one_vertex_and_one_edge.Goals as goal

pub returns : goal.returns
returns c = ring_cancels

-- The worked example, by calculation.
use Rattle.std.proofs.Common.{refl}
use Rattle.reduction.specs.Ring.{RingCancels}

pub ring_cancels : RingCancels
ring_cancels = record {
  once_D = refl;
  once_F = refl;
  once_G = refl;
  once_H = refl;
  twice_D = refl;
  twice_F = refl;
  twice_G = refl;
  twice_H = refl;
  live_vertices = refl;
  live_edges = refl;
}

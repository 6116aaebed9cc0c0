use Rattle.reduction.proofs.Loading.{loading_reduces}
use Rattle.reduction.proofs.loading_starts_a_reduction.Goals as goal

pub returns : goal.returns
returns c = loading_reduces

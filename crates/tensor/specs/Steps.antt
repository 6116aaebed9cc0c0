-- Words of the private functions.
use Rattle.linear.specs.Tensor.{Pair}
use Rattle.tensor.specs.declared.Pair.{Pair as Held}

-- the pair that the code holds
abbrev pub meant : Held → Pair
meant x = record { p = x.p; i = x.i; j = x.j }

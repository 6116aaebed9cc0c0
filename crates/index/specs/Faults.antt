-- The faults of a list of cells: the number, the layer and the place of each.
use Rattle.refusal.specs.declared.Refusal.{Refusal}
use Rattle.refusal.specs.declared.Layer.TheVariants.{Leaf}
use Rattle.index.specs.declared.LeafFault.{LeafFault}
use Rattle.index.specs.declared.LeafFault.TheVariants.{OutOfRange, NotAbove, FaceMissing, TooMany}

abbrev pub leaf_refusal : LeafFault → Refusal
leaf_refusal OutOfRange = record { number = 4; layer = Leaf; place = 0 }
leaf_refusal (NotAbove cell) = record { number = 6; layer = Leaf; place = cell }
leaf_refusal (FaceMissing cell) = record { number = 7; layer = Leaf; place = cell }
leaf_refusal TooMany = record { number = 8; layer = Leaf; place = 1024 }

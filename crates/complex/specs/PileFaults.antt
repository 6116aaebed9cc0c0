-- The faults of a layer: the number, the layer and the place of each.
use Rattle.refusal.specs.declared.Refusal.{Refusal}
use Rattle.refusal.specs.declared.Layer.TheVariants.{Pile}
use Rattle.complex.specs.declared.fault.PileFault.{PileFault}
use Rattle.complex.specs.declared.fault.PileFault.TheVariants.{TooMany, TopTooHigh, NotIncluded}

abbrev pub pile_refusal : PileFault → Refusal
pile_refusal TooMany = record { number = 8; layer = Pile; place = 1024 }
pile_refusal TopTooHigh = record { number = 8; layer = Pile; place = 0 }
pile_refusal (NotIncluded cell) = record { number = 16; layer = Pile; place = cell }

-- The faults of a form: that of a list of cells or that of a layer, which keeps its number, its layer and its place.
use Rattle.refusal.specs.declared.Refusal.{Refusal}
use Rattle.index.specs.Faults.{leaf_refusal}
use Rattle.complex.specs.PileFaults.{pile_refusal}
use Rattle.forms.specs.declared.fault.FormFault.{FormFault}
use Rattle.forms.specs.declared.fault.FormFault.TheVariants.{Leaf, Pile}

abbrev pub form_refusal : FormFault → Refusal
form_refusal (Leaf fault) = leaf_refusal fault
form_refusal (Pile fault) = pile_refusal fault

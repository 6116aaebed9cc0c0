use Rattle.reduction.proofs.Classes.{classes_tell}
use Rattle.reduction.proofs.classes_differ_by_a_boundary_as_cycles_do.Goals as goal

pub returns : goal.returns
returns c = classes_tell

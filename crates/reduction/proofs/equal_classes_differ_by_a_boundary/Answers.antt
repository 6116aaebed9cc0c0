use Rattle.reduction.proofs.Classes.{equal_classes}
use Rattle.reduction.proofs.equal_classes_differ_by_a_boundary.Goals as goal

pub returns : goal.returns
returns c = equal_classes

use Rattle.reduction.proofs.Classes.{class_codes_are_reached}
use Rattle.reduction.proofs.class_codes_have_one_cycle.Goals as goal

pub returns : goal.returns
returns c = class_codes_are_reached

use Rattle.reduction.proofs.Runs.{rows_stay_zero}
use Rattle.reduction.proofs.rows_before_a_cancel_stay_zero.Goals as goal

pub returns : goal.returns
returns c = rows_stay_zero

use Rattle.reduction.proofs.Survivors.{survivors_are_a_complex}
use Rattle.reduction.proofs.survivors_are_a_complex.Goals as goal

pub returns : goal.returns
returns c = survivors_are_a_complex

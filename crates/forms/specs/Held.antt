-- What the code holds of the lists of a job, and what it hands over of the counts.
use Rattle.std.specs.Prelude.{ℕ, List, Ok, Err, Result}
use Rattle.lists.specs.Working.{Holds}
use Rattle.report.specs.declared.ByDegree.{ByDegree}
use Rattle.report.specs.Degrees.{listed}
use Rattle.forms.specs.declared.job_lists.JobLists.{JobLists}
use Rattle.forms.specs.Forms.{Lists}

-- the three working lists hold the lists of a job
pub record HoldLists (w : JobLists) (l : Lists) : Type 0 where
  pub block : Holds w.block.now l.block
  pub pads : Holds w.pads.now l.pads
  pub drawing : Holds w.drawing.now l.drawing

-- the counts that are handed over, or the fault
abbrev pub listing : {E : Type 0} → Result ByDegree E → Result (List ℕ) E
listing (Ok n) = Ok (listed n)
listing (Err e) = Err e

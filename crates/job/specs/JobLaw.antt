-- The law of a job. Where it gets a report its lists are closed, its form names a complex within the limits, and the
-- report counts the cells of it. Of the faults of a layer it meets one.
use Rattle.std.specs.Prelude.{◌≡◌, ℕ, List, length, Ok, Err, Result}
use Rattle.complex.specs.declared.fault.PileFault.{PileFault}
use Rattle.complex.specs.declared.fault.PileFault.TheVariants.{TooMany}
use Rattle.forms.specs.declared.fault.FormFault.TheVariants.{Pile}
use Rattle.forms.specs.FormLaw.{Accepted}
use Rattle.reader.specs.Reading.{read_job}
use Rattle.reader.specs.Sheets.{Contents}
use Rattle.job.specs.declared.fault.JobFault.{JobFault}
use Rattle.job.specs.declared.fault.JobFault.TheVariants.{Form}
use Rattle.job.specs.Jobs.{lists_of, text_of, verdict}

-- a job that gets a report of n bytes
pub record Reported (job : List ℕ) (n : ℕ) : Type 0 where
  pub contents : Contents
  pub counts : List ℕ
  pub read : read_job job ≡ Ok contents
  pub accepted : Accepted contents.question.form (lists_of contents) counts
  pub text : verdict job ≡ Ok (text_of contents counts)
  pub size : n ≡ length (text_of contents counts)

-- the one fault of a layer is that there are too many cells
abbrev pub OnlyTooMany : Result ℕ JobFault → Type 0
OnlyTooMany r = (e : PileFault) → r ≡ Err (Form (Pile e)) → e ≡ TooMany

-- The verdict on a job, by what is read of it and what is counted of that.
use Rattle.std.proofs.Common.{◌≡◌, ℕ, List, Ok, Err, Result, IfOk, rules, refl, ap, ◌∙◌}
use Rattle.forms.specs.declared.fault.FormFault.{FormFault}
use Rattle.reader.specs.declared.fault.ReadFault.{ReadFault}
use Rattle.reader.specs.Reading.{read_job, then}
use Rattle.reader.specs.Sheets.{Contents}
use Rattle.job.specs.declared.fault.JobFault.{JobFault}
use Rattle.job.specs.declared.fault.JobFault.TheVariants.{Read, Form}
use Rattle.job.specs.JobLaw.{Reported}
use Rattle.job.specs.Jobs.{as_form, as_read, cells_of, fitting, text_of, verdict}

-- after the reading, and after the counting
abbrev pub counted_so : Contents → Result (List ℕ) FormFault → Result (List ℕ) JobFault
counted_so k r = then (as_form r) (λ counts. Ok (text_of k counts))

abbrev pub read_so : Result Contents ReadFault → Result (List ℕ) JobFault
read_so r = then (as_read r) (λ k. counted_so k (cells_of k))

module _ (job : List ℕ) where
  pub verdict_is : verdict job ≡ read_so (read_job job)
  unfolding verdict
  verdict_is = refl

  pub verdict_unread : (e : ReadFault) → read_job job ≡ Err e → verdict job ≡ Err (Read e)
  verdict_unread e is = verdict_is ∙ ap read_so is

  module _ (k : Contents) (read : read_job job ≡ Ok k) where
    pub verdict_refused : (e : FormFault) → cells_of k ≡ Err e → verdict job ≡ Err (Form e)
    verdict_refused e is = verdict_is ∙ ap read_so read ∙ ap (counted_so k) is

    pub verdict_counted : (counts : List ℕ) → cells_of k ≡ Ok counts → verdict job ≡ Ok (text_of k counts)
    verdict_counted counts is = verdict_is ∙ ap read_so read ∙ ap (counted_so k) is

-- a length for which there is room is that of a report
pub fits_reported :
    (job : List ℕ) (room n : ℕ) (r : Result ℕ JobFault) → r ≡ fitting room n → Reported job n → IfOk r (Reported job)
fits_reported job room n r is good = search rules

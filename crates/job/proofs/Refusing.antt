-- Of the faults of a layer a job meets one: too many cells. Its pads are filled, so they stand in the block, and no
-- form has a top above 8.
use Rattle.std.proofs.Common.{◌≡◌, ℕ, List, Ok, Err, Result, rules, sym, refl, ap, ◌∙◌}
use Rattle.complex.specs.declared.fault.PileFault.{PileFault}
use Rattle.complex.specs.declared.fault.PileFault.TheVariants.{TooMany}
use Rattle.forms.specs.declared.fault.FormFault.{FormFault}
use Rattle.forms.specs.declared.fault.FormFault.TheVariants.{Pile}
use Rattle.forms.proofs.Refusing.{counted_too_many}
use Rattle.lists.proofs.Including.{all_held_block}
use Rattle.reader.specs.declared.fault.ReadFault.{ReadFault}
use Rattle.reader.specs.JobLaw.{JobLaw}
use Rattle.reader.specs.Reading.{read_job}
use Rattle.reader.specs.Sheets.{Contents}
use Rattle.reader.proofs.Padding.{pads_filled}
use Rattle.job.specs.declared.fault.JobFault.{JobFault}
use Rattle.job.specs.declared.fault.JobFault.TheVariants.{Form}
use Rattle.job.specs.JobLaw.{OnlyTooMany}
use Rattle.job.specs.Jobs.{answer, cells_of, lists_of, text_of, verdict}
use Rattle.job.proofs.Answering.{counted_so, read_so, verdict_is}

-- a length that does not fit is no fault of a layer
fitting_apart : (room : ℕ) (text : List ℕ) (e : PileFault) → answer room (Ok text) ≡ Err (Form (Pile e)) → ⊥
fitting_apart room text e is = search rules

module _ (job : List ℕ) (law : JobLaw job) (room : ℕ) (e : PileFault) where
  by_cells :
      (k : Contents) (c : Result (List ℕ) FormFault) → read_job job ≡ Ok k → cells_of k ≡ c →
      answer room (counted_so k c) ≡ Err (Form (Pile e)) → e ≡ TooMany
  by_cells k (Ok counts) read found is = absurd (fitting_apart room (text_of k counts) e is)
  by_cells k (Err x) read found is =
      let same : x ≡ Pile e = cc in
      let all = all_held_block k.pads k.filled (pads_filled job k law read) in
      counted_too_many k.order k.question.form (lists_of k) all e (found ∙ ap Err same)

  by_reading :
      (r : Result Contents ReadFault) → read_job job ≡ r → answer room (read_so r) ≡ Err (Form (Pile e)) → e ≡ TooMany
  by_reading (Ok k) read is = by_cells k (cells_of k) read refl is
  by_reading (Err x) read is = search rules

  answer_too_many : answer room (verdict job) ≡ Err (Form (Pile e)) → e ≡ TooMany
  answer_too_many is = by_reading (read_job job) refl (ap (answer room) (sym (verdict_is job)) ∙ is)

pub only_too_many :
    (job : List ℕ) → JobLaw job → (room : ℕ) (r : Result ℕ JobFault) → r ≡ answer room (verdict job) → OnlyTooMany r
only_too_many job law room r is e refused = answer_too_many job law room e (sym is ∙ refused)

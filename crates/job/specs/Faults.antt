-- The faults of a job: number, layer and place of each. A fault of its reading or of its form keeps its own.
use Rattle.refusal.specs.declared.Refusal.{Refusal}
use Rattle.refusal.specs.declared.Layer.TheVariants as layer
use Rattle.reader.specs.Faults.{read_refusal}
use Rattle.forms.specs.Faults.{form_refusal}
use Rattle.job.specs.declared.fault.JobFault.{JobFault}
use Rattle.job.specs.declared.fault.JobFault.TheVariants.{Read, Form, ReportTooLong}

abbrev pub job_refusal : JobFault → Refusal
job_refusal (Read fault) = read_refusal fault
job_refusal (Form fault) = form_refusal fault
job_refusal (ReportTooLong room) = record { number = 18; layer = layer.Job; place = room }

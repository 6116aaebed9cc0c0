-- What a job is answered by, and what it leaves in the buffers that are lent to it.
use Rattle.std.specs.Prelude.{ℕ, cond, List, length, Ok, Err, Result, nat_le}
use Rattle.forms.specs.Counted.{counted}
use Rattle.forms.specs.declared.fault.FormFault.{FormFault}
use Rattle.forms.specs.Forms.{Lists}
use Rattle.lists.specs.Block.{block}
use Rattle.reader.specs.declared.fault.ReadFault.{ReadFault}
use Rattle.reader.specs.Named.{elements, form_number}
use Rattle.reader.specs.Reading.{read_job, then}
use Rattle.reader.specs.Sheets.{Contents}
use Rattle.report.specs.Buffers.{overlay}
use Rattle.report.specs.Lines.{report_text}
use Rattle.job.specs.declared.fault.JobFault.{JobFault}
use Rattle.job.specs.declared.fault.JobFault.TheVariants.{Read, Form, ReportTooLong}

-- the three lists of what the records say
abbrev pub lists_of : Contents → Lists
lists_of k = record { block = block k.filled; pads = block k.pads; drawing = k.drawing }

-- the cells of each degree of the complex that the form names
abbrev pub cells_of : Contents → Result (List ℕ) FormFault
cells_of k = counted k.order k.question.form (lists_of k)

-- the report of contents with so many cells in each degree
abbrev pub text_of : Contents → List ℕ → List ℕ
text_of k counts = report_text (elements k.order) (form_number k.question.form) counts

-- the fault of the reading is one of the job, and so is that of the form
abbrev pub as_read : {X : Type 0} → Result X ReadFault → Result X JobFault
as_read (Ok x) = Ok x
as_read (Err e) = Err (Read e)

abbrev pub as_form : {X : Type 0} → Result X FormFault → Result X JobFault
as_form (Ok x) = Ok x
as_form (Err e) = Err (Form e)

-- the text of the report, or the first fault
unfoldable pub verdict : List ℕ → Result (List ℕ) JobFault
verdict job = then (as_read (read_job job)) (λ k. then (as_form (cells_of k)) (λ counts. Ok (text_of k counts)))

-- a length, if there is room for it
abbrev pub fitting : ℕ → ℕ → Result ℕ JobFault
fitting room n = cond (nat_le n room) (Ok n) (Err (ReportTooLong room))

-- the length of the report, if the buffer has room for it
abbrev pub answer : ℕ → Result (List ℕ) JobFault → Result ℕ JobFault
answer room (Ok text) = fitting room (length text)
answer room (Err e) = Err e

-- the report buffer afterwards: a report that is too long leaves its beginning, another fault leaves all as it was
abbrev pub written : List ℕ → Result (List ℕ) JobFault → List ℕ
written old (Ok text) = overlay old text
written old (Err e) = old

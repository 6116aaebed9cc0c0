-- What a whole job says.
use Rattle.std.specs.Prelude.{◌≡◌, Bool, List, Some, None, Ok, Err, Option, Result}
use Rattle.cell.specs.declared.simplex.Simplex.{Simplex}
use Rattle.lists.specs.Working.{Holds}
use Rattle.reader.specs.declared.fault.ReadFault.{ReadFault}
use Rattle.reader.specs.declared.order.FieldOrder.{FieldOrder}
use Rattle.reader.specs.declared.question.Question.{Question}
use Rattle.reader.specs.declared.sheet.Sheet.{Sheet}
use Rattle.reader.specs.declared.turn.Progress.{Progress}
use Rattle.reader.specs.Notes.{Notes}

-- where the job stands after its last record, the field and the question, a flag for each voxel that is filled and for
-- each that is a pad, the one of the voxel (x, y, z) at 64 z + 8 y + x, and the drawn simplices in their order
pub record Contents : Type 0 where
  pub progress : Progress
  pub order : FieldOrder
  pub question : Question
  pub filled : List Bool
  pub pads : List Bool
  pub drawing : List Simplex

-- the contents of notes with a field and a question, if both are known
abbrev pub completed_by : Option FieldOrder → Option Question → Notes → Option Contents
completed_by (Some order) (Some question) k = Some (record {
  progress = k.progress;
  order = order;
  question = question;
  filled = k.filled;
  pads = k.pads;
  drawing = k.drawing;
})
completed_by (Some order) None k = None
completed_by None asked k = None

-- what the notes come to, if they have both
abbrev pub completed : Notes → Option Contents
completed k = completed_by k.progress.order k.progress.asked k

-- what the code holds of it
pub record Shows (s : Sheet) (k : Contents) : Type 0 where
  pub progress : s.progress ≡ k.progress
  pub order : s.order ≡ k.order
  pub question : s.question ≡ k.question
  pub filled : s.filled ≡ k.filled
  pub pads : s.pads ≡ k.pads
  pub drawing : Holds s.drawing k.drawing

-- the sheet of a whole job, as it is handed over
abbrev pub Reads : Result Contents ReadFault → Result Sheet ReadFault → Type 0
Reads s (Ok sheet) = (k : Contents) × (s ≡ Ok k) × Shows sheet k
Reads s (Err e) = s ≡ Err e

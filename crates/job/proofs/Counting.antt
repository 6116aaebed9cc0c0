-- The lists of a sheet are those of the contents that it shows.
use Rattle.std.proofs.Common.{◌≡◌}
use Rattle.forms.specs.declared.job_lists.JobLists.{JobLists}
use Rattle.forms.specs.Held.{HoldLists}
use Rattle.lists.specs.Block.{block}
use Rattle.lists.specs.Working.{Holds}
use Rattle.reader.specs.declared.sheet.Sheet.{Sheet}
use Rattle.reader.specs.Sheets.{Contents, Shows}
use Rattle.job.specs.Jobs.{lists_of}

pub hold_lists : (sheet : Sheet) (k : Contents) → Shows sheet k → (w : JobLists) →
    Holds w.block.now (block sheet.filled) → Holds w.pads.now (block sheet.pads) → w.drawing.now ≡ sheet.drawing →
    HoldLists w (lists_of k)
hold_lists sheet k shows w filled pads drawing = record {
  block = rw (← shows.filled) filled;
  pads = rw (← shows.pads) pads;
  drawing = rw drawing shows.drawing;
}

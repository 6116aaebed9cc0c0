-- What the records of a job say, taken together as they come.
use Rattle.std.specs.Prelude.{Bool, true, false, List, [], ◌∷◌, ◌++◌, replicate, Ok, Err, Result, slice_set}
use Rattle.cell.specs.declared.simplex.Simplex.{Simplex}
use Rattle.reader.specs.declared.record.Flaw.{Flaw}
use Rattle.reader.specs.declared.record.Record.{Record}
use Rattle.reader.specs.declared.record.Record.TheVariants.{Filled, Pad, Drawn}
use Rattle.reader.specs.declared.turn.Progress.{Progress}
use Rattle.reader.specs.Judging.{judged, started}
use Rattle.reader.specs.Keys.{voxel_key}

-- where the job stands, a flag for each voxel that is filled and for each that is a pad, the one of the voxel
-- (x, y, z) at 64 z + 8 y + x, and the drawn simplices in their order
pub record Notes : Type 0 where
  pub progress : Progress
  pub filled : List Bool
  pub pads : List Bool
  pub drawing : List Simplex

-- before the first record
abbrev pub blank : Notes
blank = record { progress = started; filled = replicate 512 false; pads = replicate 512 false; drawing = [] }

-- what a record adds to the block, the pads and the drawing; a pad is filled too
abbrev pub noted : Notes → Record → Notes
noted k (Filled v) =
    record { progress = k.progress; filled = slice_set k.filled (voxel_key v) true; pads = k.pads; drawing = k.drawing }
noted k (Pad v) = record {
  progress = k.progress;
  filled = slice_set k.filled (voxel_key v) true;
  pads = slice_set k.pads (voxel_key v) true;
  drawing = k.drawing;
}
noted k (Drawn s) =
    record { progress = k.progress; filled = k.filled; pads = k.pads; drawing = k.drawing ++ s ∷ [] }
noted k _ = k

-- the same, where the job stands at p
abbrev pub standing : Progress → Notes → Notes
standing p k = record { progress = p; filled = k.filled; pads = k.pads; drawing = k.drawing }

-- a record after the ones before it
abbrev pub taken : Notes → Record → Result Notes Flaw
taken k r = elim (judged k.progress r) [ Ok p ↦ Ok (standing p (noted k r)) | Err f ↦ Err f ]

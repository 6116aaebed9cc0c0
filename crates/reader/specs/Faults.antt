-- The faults of a job that is read: the number, the layer and the place of each.
use Rattle.std.specs.Prelude.{ℕ}
use Rattle.refusal.specs.declared.Refusal.{Refusal}
use Rattle.refusal.specs.declared.Layer.TheVariants as layer
use Rattle.reader.specs.declared.record.Flaw.{Flaw}
use Rattle.reader.specs.declared.record.Flaw.TheVariants.{UnknownKind, CutShort, OutOfTurn, OutOfRange, NotAbove}
use Rattle.reader.specs.declared.fault.ReadFault.{ReadFault}
use Rattle.reader.specs.declared.fault.ReadFault.TheVariants.{TooLong, Flawed}

-- the number of a flaw in the refusal that tells it
abbrev pub flaw_number : Flaw → ℕ
flaw_number UnknownKind = 2
flaw_number CutShort = 3
flaw_number OutOfRange = 4
flaw_number OutOfTurn = 5
flaw_number NotAbove = 6

-- a flaw is placed at the byte where the record stands, and a job that is too long at the longest length
abbrev pub read_refusal : ReadFault → Refusal
read_refusal TooLong = record { number = 1; layer = layer.Job; place = 16384 }
read_refusal (Flawed flaw at) = record { number = flaw_number flaw; layer = layer.Job; place = at }

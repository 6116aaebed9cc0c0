-- Words of the private functions: what each step of the reading hands over.
use Rattle.std.specs.Prelude.{◌≡◌, ℕ, cond, List, [], ◌∷◌, Ok, Err, Result, ◌==◌}
use Rattle.std.specs.Borrow.{Bor}
use Rattle.lists.specs.Working.{Holds}
use Rattle.reader.specs.declared.draft.Draft.{Draft}
use Rattle.reader.specs.declared.record.Flaw.{Flaw}
use Rattle.reader.specs.declared.record.Flaw.TheVariants.{UnknownKind, CutShort, OutOfRange}
use Rattle.reader.specs.declared.record.Record.{Record}
use Rattle.reader.specs.declared.turn.Progress.{Progress}
use Rattle.reader.specs.Judging.{advanced}
use Rattle.reader.specs.Notes.{Notes, taken}
use Rattle.reader.specs.Records.{Kind}
use Rattle.reader.specs.Values.{in_range}

-- what is wrong where a byte of kind stands and no record: its body is cut short, or it is no kind
abbrev pub front_flaw : List Kind → ℕ → Flaw
front_flaw [] byte = UnknownKind
front_flaw (k ∷ ks) byte = cond (byte == k.byte) CutShort (front_flaw ks byte)

-- where the job stands after a record, if the values of the record are in range
abbrev pub advanced_in_range : Progress → Record → Result Progress Flaw
advanced_in_range p r = cond (in_range p.order r) (Ok (advanced p r)) (Err OutOfRange)

-- the notes, as a draft holds them
pub record Keeps (d : Draft) (k : Notes) : Type 0 where
  pub progress : d.progress ≡ k.progress
  pub filled : d.filled ≡ k.filled
  pub pads : d.pads ≡ k.pads
  pub drawing : Holds d.drawing k.drawing

-- a record after the ones before it, and the draft afterwards
abbrev pub Takes : Notes → Record → Draft → Result (Unit {0}) Flaw → Type 0
Takes k r d (Ok _) = (next : Notes) × (taken k r ≡ Ok next) × Keeps d next
Takes k r d (Err f) = taken k r ≡ Err f

-- the first record off the front of the bytes, and the draft afterwards
abbrev pub Steps : Result (Notes × List ℕ) Flaw → Draft → Result (Bor (List ℕ)) Flaw → Type 0
Steps s d (Ok rest) = (next : Notes) × (s ≡ Ok (next, rest.now)) × Keeps d next
Steps s d (Err f) = s ≡ Err f

-- The law of a job: it is accepted exactly if it is the bytes of records that follow one another, and a refusal says
-- what is wrong, and at which byte.
--
-- It holds of each list of bytes, numbers below 256. An empty job asks nothing, and is refused at its end, byte 0.
use Rattle.std.specs.Prelude.{◌≡◌, ℕ, ◌<◌, ◌≤◌, ◌⊎◌, ◌↔◌, List, [], ◌∷◌, ◌++◌, length, Some, None, Ok, Err}
use Rattle.std.specs.List.{flat_map}
use Rattle.reader.specs.declared.fault.ReadFault.TheVariants.{TooLong, Flawed}
use Rattle.reader.specs.declared.record.Flaw.{Flaw}
use Rattle.reader.specs.declared.record.Flaw.TheVariants.{OutOfTurn}
use Rattle.reader.specs.declared.record.Record.{Record}
use Rattle.reader.specs.Format.{bytes_of}
use Rattle.reader.specs.Judging.{judged}
use Rattle.reader.specs.Notes.{Notes, blank, taken}
use Rattle.reader.specs.Reading.{read_job}
use Rattle.reader.specs.Records.{split}
use Rattle.reader.specs.Sheets.{Contents, completed}
use Rattle.reader.specs.Telling.{IsFormed, Tells}

-- each record is taken after the ones before it, and together they lead from one state of the notes to another
abbrev pub Follows : Notes → List Record → Notes → Type 0
Follows k [] end = k ≡ end
Follows k (r ∷ records) end = (next : Notes) × (taken k r ≡ Ok next) × Follows next records end

-- a job begins with records that follow one another, which lead to k, and then has the rest
pub record Begins (job : List ℕ) (records : List Record) (k : Notes) (rest : List ℕ) : Type 0 where
  pub bytes : job ≡ flat_map bytes_of records ++ rest
  pub follow : Follows blank records k

-- a job is such records and no more, and they name its field and ask its question
pub record Says (job : List ℕ) (k : Contents) : Type 0 where
  pub short : length job ≤ 16384
  pub records : List Record
  pub notes : Notes
  pub whole : Begins job records notes []
  pub complete : completed notes ≡ Some k

-- what is wrong after k: at the end nothing was asked; elsewhere no record stands there, or one that k refuses
abbrev pub Wrong : Notes → List ℕ → Flaw → Type 0
Wrong k [] f = (k.progress.asked ≡ None) × (f ≡ OutOfTurn)
Wrong k (b ∷ bytes) f =
    (split (b ∷ bytes) ≡ Err f)
    ⊎ ((r : Record) × (rest : List ℕ) × (split (b ∷ bytes) ≡ Ok (r, rest)) × (judged k.progress r ≡ Err f))

-- a job is such records up to the byte at, and what comes there is wrong
pub record Fails (job : List ℕ) (f : Flaw) (at : ℕ) : Type 0 where
  pub short : length job ≤ 16384
  pub records : List Record
  pub notes : Notes
  pub rest : List ℕ
  pub begins : Begins job records notes rest
  pub place : at ≡ length (flat_map bytes_of records)
  pub wrong : Wrong notes rest f

-- what is read of a job, exactly then: its contents, its first flaw, or that it is too long
pub record JobLaw (job : List ℕ) : Type 0 where
  pub accepted : (k : Contents) → (read_job job ≡ Ok k) ↔ Says job k
  pub flawed : (f : Flaw) (at : ℕ) → (read_job job ≡ Err (Flawed f at)) ↔ Fails job f at
  pub too_long : (read_job job ≡ Err TooLong) ↔ (16384 < length job)
  -- every job is one of the three, and it has contents exactly if it is the bytes of well-formed records
  pub decided : ((k : Contents) × Says job k) ⊎ (((f : Flaw) × (at : ℕ) × Fails job f at) ⊎ (16384 < length job))
  pub formed : ((k : Contents) × Says job k) ↔ IsFormed job
  pub told : (k : Contents) (s : Says job k) → Tells s.records k

-- How a job is read: record by record from the front, the first fault deciding.
use Rattle.std.specs.Prelude.{ℕ, zero, suc, ◌-◌, cond, List, [], ◌∷◌, length, Ok, Err, Result, nat_lt}
use Rattle.std.specs.Option.{ok_or}
use Rattle.reader.specs.declared.fault.ReadFault.{ReadFault}
use Rattle.reader.specs.declared.fault.ReadFault.TheVariants.{TooLong, Flawed}
use Rattle.reader.specs.declared.record.Flaw.{Flaw}
use Rattle.reader.specs.declared.record.Flaw.TheVariants.{OutOfTurn}
use Rattle.reader.specs.Notes.{Notes, blank, taken}
use Rattle.reader.specs.Records.{split}
use Rattle.reader.specs.Sheets.{Contents, completed}

-- go on with what was read, unless something is wrong
abbrev pub then : {X Y E : Type 0} → Result X E → (X → Result Y E) → Result Y E
then (Ok x) next = next x
then (Err e) next = Err e

-- a flaw of the record at an offset is a fault of the job
abbrev pub flawed : {X : Type 0} → ℕ → Result X Flaw → Result X ReadFault
flawed at (Ok x) = Ok x
flawed at (Err f) = Err (Flawed f at)

-- the record at the front of the bytes, and the bytes after it
unfoldable pub step : Notes → List ℕ → Result (Notes × List ℕ) Flaw
step k bytes = then (split bytes) (λ front. then (taken k front.0) (λ next. Ok (next, front.1)))

-- at the end of a job of the given length
abbrev pub finished : ℕ → Notes → Result Contents ReadFault
finished whole k = ok_or (completed k) (Flawed OutOfTurn whole)

-- at most n records from the front of the bytes that are left of a job of the given length
unfoldable pub read_from : ℕ → ℕ → Notes → List ℕ → Result Contents ReadFault
read_from n whole k [] = finished whole k
read_from zero whole k (b ∷ bytes) = finished whole k
read_from (suc n) whole k (b ∷ bytes) =
    then (flawed (whole - length (b ∷ bytes)) (step k (b ∷ bytes))) (λ next. read_from n whole next.0 next.1)

-- the whole job: no job has more records than bytes
unfoldable pub read_job : List ℕ → Result Contents ReadFault
read_job job = cond (nat_lt 16384 (length job)) (Err TooLong) (read_from (length job) (length job) blank job)

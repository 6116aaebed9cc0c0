use Rattle.std.proofs.Common.{◌≡◌, ℕ, ◌≤◌, length}
use Rattle.reader.specs.Notes.{Notes, blank}
use Rattle.reader.specs.Reading.{read_from}
use Rattle.reader.specs.Steps.{Keeps}
use Rattle.reader.proofs.read.read.Given as goal

abbrev pub invariant-loop-rest : goal.invariant-loop-rest
invariant-loop-rest l =
    (n : ℕ) × (k : Notes) × (length l.rest ≤ n) × (length l.rest ≤ length l.job) × Keeps l.draft k
    × (read_from (length l.job) (length l.job) blank l.job ≡ read_from n (length l.job) k l.rest)

abbrev pub decreases-loop-rest : goal.decreases-loop-rest
decreases-loop-rest l = length l.rest

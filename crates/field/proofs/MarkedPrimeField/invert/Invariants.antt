-- A multiple of `a`, by a factor below the modulus, equals the rest; the rest is 0 only where `a` is.
use Rattle.std.proofs.Common.{◌≡◌, ◌*◌, ◌%◌, ◌<◌}
use Rattle.field.proofs.MarkedPrimeField.invert.Given as goal

abbrev pub invariant-loop-rest : goal.invariant-loop-rest
invariant-loop-rest g l =
    (l.factor < g.row.Q) × (l.rest < g.row.Q) × ((l.factor * l.a) % g.row.Q ≡ l.rest) × (l.rest ≡ 0 → l.a % g.row.Q ≡ 0)

abbrev pub decreases-loop-rest : goal.decreases-loop-rest
decreases-loop-rest g l = l.rest

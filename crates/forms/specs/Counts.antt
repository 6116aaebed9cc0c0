-- How many cells a complex has in each degree, if it keeps the limits.
use Rattle.std.specs.Prelude.{ℕ, suc, List, map, Ok, Err, Result}
use Rattle.std.specs.List.{range_with_len}
use Rattle.linear.specs.Complexes.{Meaning}
use Rattle.complex.specs.Limits.{cells, limits_test}
use Rattle.complex.specs.declared.fault.PileFault.{PileFault}

-- from degree 0 to the top
abbrev pub dims : Meaning → List ℕ
dims m = map m.dim (range_with_len 0 (suc m.top))

-- of a complex that keeps the limits; of another, which limit it passes first
abbrev pub measured : Meaning → Result (List ℕ) PileFault
measured m = elim (limits_test (cells m) m.top) [ Ok _ ↦ Ok (dims m) | Err e ↦ Err e ]

-- What is made once a test is passed, and refused with the fault of the test.
use Rattle.std.specs.Prelude.{Ok, Err, Result}

-- the test alone
abbrev pub tested : {X E : Type 0} → Result X E → Result (Unit {0}) E
tested (Ok _) = Ok tt
tested (Err e) = Err e

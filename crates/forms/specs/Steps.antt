-- Words of the private functions: lists that are lent, and what is tested before it is made.
use Rattle.std.specs.Prelude.{Result}
use Rattle.linear.specs.Complexes.{Meaning}
use Rattle.complex.specs.declared.fault.PileFault.{PileFault}
use Rattle.complex.specs.Limits.{cells, limits_test}
use Rattle.forms.specs.declared.job_lists.ClosedLists.{ClosedLists}
use Rattle.forms.specs.Forms.{Lists}

-- the lists that the code lends
abbrev pub viewed : ClosedLists → Lists
viewed c = record { block = c.block.cells.now; pads = c.pads.cells.now; drawing = c.drawing.cells.now }

-- whether a complex keeps the limits, or which one it passes first
abbrev pub keeps_limits : Meaning → Result (Unit {0}) PileFault
keeps_limits m = limits_test (cells m) m.top

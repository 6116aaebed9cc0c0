-- The law of what is counted: the three lists are closed, the form names a complex within the limits, over every field,
-- and the counts are those of its cells.
use Rattle.std.specs.Prelude.{◌≡◌, ℕ, List}
use Rattle.field.specs.Codes.{Codes, IsField}
use Rattle.linear.specs.Complexes.{IsComplex, WithinLimits}
use Rattle.cell.specs.Cubes.{cubes}
use Rattle.cell.specs.Simplices.{simplices}
use Rattle.index.specs.Closed.{Closed}
use Rattle.reader.specs.declared.question.Form.{Form}
use Rattle.forms.specs.Counts.{dims}
use Rattle.forms.specs.Forms.{Lists, complex_of}

-- each of the three lists is closed
pub record ClosedLists (l : Lists) : Type 0 where
  pub block : Closed cubes l.block
  pub pads : Closed cubes l.pads
  pub drawing : Closed simplices l.drawing

-- the lists of a job have passed, and the complex of the form has so many cells in each degree
pub record Accepted (form : Form) (l : Lists) (counts : List ℕ) : Type 0 where
  pub closed : ClosedLists l
  pub is_complex : (f : Codes) → IsField f → IsComplex f (complex_of f form l)
  pub within_limits : (f : Codes) → WithinLimits (complex_of f form l)
  pub cells : (f : Codes) → counts ≡ dims (complex_of f form l)

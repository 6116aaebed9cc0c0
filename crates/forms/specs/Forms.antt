-- The complexes that the forms of a job name.
use Rattle.std.specs.Prelude.{ℕ, List, Ok, Err}
use Rattle.field.specs.Codes.{Codes}
use Rattle.cell.specs.declared.cube.Cube.{Cube}
use Rattle.cell.specs.declared.simplex.Simplex.{Simplex}
use Rattle.cell.specs.Cubes.{cubes}
use Rattle.cell.specs.Simplices.{simplices}
use Rattle.linear.specs.Complexes.{Meaning}
use Rattle.linear.specs.Dual.{dual}
use Rattle.linear.specs.Cone.{cone}
use Rattle.linear.specs.Scalar.{scalar}
use Rattle.linear.specs.Tensor.{tensor}
use Rattle.complex.specs.Leaf.{leaf}
use Rattle.maps.specs.Inclusion.{inclusion}
use Rattle.reader.specs.declared.question.Form.{Form}
use Rattle.reader.specs.declared.question.Form.TheVariants.{Block, PadCone, PadConeDual}
use Rattle.reader.specs.declared.question.Form.TheVariants.{Drawing, DrawingTensorBlock, BlockCone}
use Rattle.reader.specs.Named.{form_named}

-- the form of a number; another number than 1 to 6 is taken for the drawing's
abbrev pub form_of : ℕ → Form
form_of n = elim (form_named n) [ Ok form ↦ form | Err f ↦ Drawing ]

-- the three lists of a job
pub record Lists : Type 0 where
  pub block : List Cube
  pub pads : List Cube
  pub drawing : List Simplex

-- over a field: the block, the cone of the pads included in the block, its dual, the drawing, the drawing tensor the
-- block, and the cone of the scalar 1 on the block
abbrev pub complex_of : Codes → Form → Lists → Meaning
complex_of f Block l = leaf f cubes l.block
complex_of f PadCone l = cone f (inclusion f cubes l.pads l.block)
complex_of f PadConeDual l = dual (cone f (inclusion f cubes l.pads l.block))
complex_of f Drawing l = leaf f simplices l.drawing
complex_of f DrawingTensorBlock l = tensor f (leaf f simplices l.drawing) (leaf f cubes l.block)
complex_of f BlockCone l = cone f (scalar f 1 (leaf f cubes l.block))

-- Where cells are counted, the form names a complex within the limits, over every field.
use Rattle.std.proofs.Common.{◌≡◌, ℕ, List, Ok, rules, refl, ◌∙◌}
use Rattle.field.specs.Codes.{Codes, IsField}
use Rattle.linear.specs.Complexes.{Meaning, IsComplex, WithinLimits}
use Rattle.linear.proofs.Duals.{dual_is_complex}
use Rattle.linear.proofs.cone.Laws.{cone_is_complex}
use Rattle.linear.proofs.cone.Scalars.{scalar_is_chain_map}
use Rattle.linear.proofs.tensor.Laws.{tensor_is_complex}
use Rattle.cell.specs.Cubes.{cubes}
use Rattle.cell.specs.Simplices.{simplices}
use Rattle.cell.specs.CubeLaws.{cubes_kind}
use Rattle.cell.specs.SimplexLaws.{simplices_kind}
use Rattle.complex.specs.Leaf.{leaf}
use Rattle.complex.proofs.leaf.Laws.{leaf_is_complex}
use Rattle.maps.specs.Inclusion.{inclusion}
use Rattle.maps.proofs.inclusion.Laws.{inclusion_is_chain_map}
use Rattle.maps.proofs.inclusion.Testing.{tells_inclusion}
use Rattle.reader.specs.declared.question.Form.{Form}
use Rattle.reader.specs.declared.question.Form.TheVariants.{Block, PadCone, PadConeDual}
use Rattle.reader.specs.declared.question.Form.TheVariants.{Drawing, DrawingTensorBlock, BlockCone}
use Rattle.forms.specs.Counts.{dims, measured}
use Rattle.forms.specs.Counted.{map_test, piled}
use Rattle.forms.specs.FormLaw.{Accepted, ClosedLists}
use Rattle.forms.specs.Forms.{Lists, complex_of}

-- the dimensions are the same over every field
limits_over :
    (f g : Codes) (form : Form) (l : Lists) → WithinLimits (complex_of f form l) → WithinLimits (complex_of g form l)
limits_over f g form l w = search rules

dims_over : (f g : Codes) (form : Form) (l : Lists) → dims (complex_of f form l) ≡ dims (complex_of g form l)
dims_over f g form l = search rules

-- what a count tells of the complex: it keeps the limits, and the counts are its dimensions
within_measured : (m : Meaning) (counts : List ℕ) → measured m ≡ Ok counts → WithinLimits m × (counts ≡ dims m)
within_measured m counts is = search rules

-- each form names a complex
module _ (f : Codes) (law : IsField f) (l : Lists) (closed : ClosedLists l) where
  block_is_complex : IsComplex f (leaf f cubes l.block)
  block_is_complex = leaf_is_complex f law cubes cubes_kind l.block closed.block

  drawing_is_complex : IsComplex f (leaf f simplices l.drawing)
  drawing_is_complex = leaf_is_complex f law simplices simplices_kind l.drawing closed.drawing

  pad_cone_is_complex : map_test PadCone l ≡ Ok tt → IsComplex f (complex_of f PadCone l)
  pad_cone_is_complex passed =
      cone_is_complex f law (inclusion f cubes l.pads l.block)
      (inclusion_is_chain_map f law cubes cubes_kind l.pads l.block closed.pads closed.block
      ((tells_inclusion cubes l.block l.pads (map_test PadCone l) refl).accepted.0 passed))

  form_is_complex : (form : Form) → map_test form l ≡ Ok tt → IsComplex f (complex_of f form l)
  form_is_complex Block passed = block_is_complex
  form_is_complex PadCone passed = pad_cone_is_complex passed
  form_is_complex PadConeDual passed = dual_is_complex f law (complex_of f PadCone l) (pad_cone_is_complex passed)
  form_is_complex Drawing passed = drawing_is_complex
  form_is_complex DrawingTensorBlock passed =
      tensor_is_complex f law (leaf f simplices l.drawing) (leaf f cubes l.block) drawing_is_complex
      block_is_complex
  form_is_complex BlockCone passed =
      cone_is_complex f law _ (scalar_is_chain_map f law 1 (leaf f cubes l.block) block_is_complex)

-- where the cells of a form are counted it has passed the test of its map, and is accepted
module _ (g : Codes) (form : Form) (l : Lists) (counts : List ℕ) (is : piled g form l ≡ Ok counts) where
  passed : map_test form l ≡ Ok tt
  passed = search rules

  measured_piled : measured (complex_of g form l) ≡ Ok counts
  measured_piled = let first = passed in search rules

  pub accepted_piled : ClosedLists l → Accepted form l counts
  accepted_piled closed =
      let w = within_measured (complex_of g form l) counts measured_piled in
      record {
        closed = closed;
        is_complex = λ f law. form_is_complex f law l closed form passed;
        within_limits = λ f. limits_over g f form l w.0;
        cells = λ f. w.1 ∙ dims_over g f form l;
      }

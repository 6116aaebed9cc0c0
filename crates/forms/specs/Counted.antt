-- What is counted of a job: its lists are tested, the complex that its form names is made, and its cells are counted.
use Rattle.std.specs.Prelude.{ℕ, List, Ok, Err, Result}
use Rattle.field.specs.Codes.{Codes}
use Rattle.cell.specs.Cubes.{cubes}
use Rattle.cell.specs.Simplices.{simplices}
use Rattle.index.specs.declared.LeafFault.{LeafFault}
use Rattle.index.specs.Test.{and_then, list_test}
use Rattle.complex.specs.declared.fault.PileFault.{PileFault}
use Rattle.maps.specs.InclusionTest.{inclusion_test}
use Rattle.reader.specs.declared.order.FieldOrder.{FieldOrder}
use Rattle.reader.specs.declared.question.Form.{Form}
use Rattle.reader.specs.declared.question.Form.TheVariants.{Block, PadCone, PadConeDual}
use Rattle.reader.specs.declared.question.Form.TheVariants.{Drawing, DrawingTensorBlock, BlockCone}
use Rattle.forms.specs.declared.fault.FormFault.{FormFault}
use Rattle.forms.specs.declared.fault.FormFault.TheVariants.{Leaf, Pile}
use Rattle.forms.specs.Counts.{measured}
use Rattle.forms.specs.Fields.{codes_of}
use Rattle.forms.specs.Forms.{Lists, complex_of}

-- the lists in their order, whatever the form: the block, the pads, the drawing
abbrev pub lists_test : Lists → Result (Unit {0}) LeafFault
lists_test l =
    and_then (list_test cubes l.block) (and_then (list_test cubes l.pads) (list_test simplices l.drawing))

-- whether the pads stand in the block, where the form asks for the map
abbrev pub map_test : Form → Lists → Result (Unit {0}) PileFault
map_test Block l = Ok tt
map_test PadCone l = inclusion_test cubes l.pads l.block
map_test PadConeDual l = inclusion_test cubes l.pads l.block
map_test Drawing l = Ok tt
map_test DrawingTensorBlock l = Ok tt
map_test BlockCone l = Ok tt

-- the cells of each degree of the complex that the form names over a field
abbrev pub piled : Codes → Form → Lists → Result (List ℕ) PileFault
piled f form l = elim (map_test form l) [ Ok _ ↦ measured (complex_of f form l) | Err e ↦ Err e ]

-- the fault of a layer is one of the form
abbrev pub as_pile : {X : Type 0} → Result X PileFault → Result X FormFault
as_pile (Ok x) = Ok x
as_pile (Err e) = Err (Pile e)

-- the same of lists that are not tested yet, over the field of an order
abbrev pub counted : FieldOrder → Form → Lists → Result (List ℕ) FormFault
counted q form l = elim (lists_test l) [ Ok _ ↦ as_pile (piled (codes_of q) form l) | Err e ↦ Err (Leaf e) ]

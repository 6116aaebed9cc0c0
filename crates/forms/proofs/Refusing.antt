-- Where each cell of the pads stands in the block, the only fault of a layer is that there are too many cells.
use Rattle.std.proofs.Common.{◌≡◌, ◌≤◌, Ok, Err, rules}
use Rattle.field.specs.Codes.{Codes}
use Rattle.linear.specs.Complexes.{Meaning}
use Rattle.cell.specs.Cubes.{cubes}
use Rattle.complex.specs.declared.fault.PileFault.{PileFault}
use Rattle.complex.specs.declared.fault.PileFault.TheVariants.{TooMany}
use Rattle.maps.specs.Inclusion.{Included}
use Rattle.maps.proofs.inclusion.Testing.{test_included}
use Rattle.reader.specs.declared.order.FieldOrder.{FieldOrder}
use Rattle.reader.specs.declared.question.Form.{Form}
use Rattle.forms.specs.declared.fault.FormFault.TheVariants.{Pile}
use Rattle.forms.specs.Counted.{counted, map_test, piled}
use Rattle.forms.specs.Counts.{measured}
use Rattle.forms.specs.Fields.{codes_of}
use Rattle.forms.specs.Forms.{Lists, complex_of}

-- no form has a top above 8
top_low : (f : Codes) (form : Form) (l : Lists) → (complex_of f form l).top ≤ 8
top_low f form l = search rules

map_test_included : (form : Form) (l : Lists) → Included cubes l.pads l.block → map_test form l ≡ Ok tt
map_test_included form l all = let test = test_included cubes l.block l.pads all in search rules

-- below a top of 8 only the cells can be too many
measured_too_many : (m : Meaning) (e : PileFault) → m.top ≤ 8 → measured m ≡ Err e → e ≡ TooMany
measured_too_many m e low is = search rules

piled_too_many :
    (f : Codes) (form : Form) (l : Lists) (e : PileFault) → map_test form l ≡ Ok tt → piled f form l ≡ Err e →
    e ≡ TooMany
piled_too_many f form l e passed is =
    let only = measured_too_many (complex_of f form l) e (top_low f form l) in search rules

pub counted_too_many :
    (q : FieldOrder) (form : Form) (l : Lists) → Included cubes l.pads l.block → (e : PileFault) →
    counted q form l ≡ Err (Pile e) → e ≡ TooMany
counted_too_many q form l all e is =
    let only = piled_too_many (codes_of q) form l e (map_test_included form l all) in search rules

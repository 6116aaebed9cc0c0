-- Which values of a record are in range. A term is in range of no field where none has been named.
use Rattle.std.specs.Prelude.{Bool, false, ◌&&◌, Some, None, Option, is_ok, nat_le, nat_lt}
use Rattle.cell.specs.Simplices.{simplices}
use Rattle.reader.specs.declared.order.FieldOrder.{FieldOrder}
use Rattle.reader.specs.declared.record.Record.{Record}
use Rattle.reader.specs.declared.record.Record.TheVariants.{Field, Filled, Pad, Drawn, Question, First, Second}
use Rattle.reader.specs.declared.record.Term.{Term}
use Rattle.reader.specs.declared.record.Voxel.{Voxel}
use Rattle.reader.specs.Named.{elements, order_named, question_named}

-- a voxel stands in the block of 8 by 8 by 8
abbrev pub voxel_in_range : Voxel → Bool
voxel_in_range v = nat_le v.x 7 && (nat_le v.y 7 && nat_le v.z 7)

-- a coefficient is a code of the field, and not 0
abbrev pub term_in_range : FieldOrder → Term → Bool
term_in_range order t = nat_lt 0 t.coefficient && nat_lt t.coefficient (elements order)

-- the same of the field that has been named, if one has
abbrev pub term_in_field : Option FieldOrder → Term → Bool
term_in_field (Some order) t = term_in_range order t
term_in_field None t = false

-- whether the values of a record are in range, in a job over a field, if one has been named
abbrev pub in_range : Option FieldOrder → Record → Bool
in_range order (Field b) = is_ok (order_named b)
in_range order (Filled v) = voxel_in_range v
in_range order (Pad v) = voxel_in_range v
in_range order (Drawn s) = simplices.valid s
in_range order (Question form degree) = is_ok (question_named form degree)
in_range order (First t) = term_in_field order t
in_range order (Second t) = term_in_field order t

-- What each record says on its own, as a list of none or one.
use Rattle.std.specs.Prelude.{ℕ, ◌==◌, cond, List, [], ◌∷◌, Option}
use Rattle.std.specs.Result.{result_ok}
use Rattle.cell.specs.declared.simplex.Simplex.{Simplex}
use Rattle.reader.specs.declared.order.FieldOrder.{FieldOrder}
use Rattle.reader.specs.declared.question.Question as question
use Rattle.reader.specs.declared.record.Record.{Record}
use Rattle.reader.specs.declared.record.Record.TheVariants.{Field, Filled, Pad, Drawn, Question}
use Rattle.reader.specs.Keys.{voxel_key}
use Rattle.reader.specs.Named.{order_named, question_named}

-- the field that a record names; None where its byte names no field
abbrev pub orders_by : Record → List (Option FieldOrder)
orders_by (Field b) = result_ok (order_named b) ∷ []
orders_by _ = []

-- how many elements the byte of a record gives the field: as many as it says, and 256 for 0
abbrev pub sizes_by : Record → List ℕ
sizes_by (Field b) = cond (b == 0) 256 b ∷ []
sizes_by _ = []

-- the question that a record asks; None where its bytes ask none
abbrev pub questions_by : Record → List (Option question.Question)
questions_by (Question form degree) = result_ok (question_named form degree) ∷ []
questions_by _ = []

-- the two bytes of a record that asks: the number of a form, and a degree
abbrev pub asked_by : Record → List (ℕ × ℕ)
asked_by (Question form degree) = (form, degree) ∷ []
asked_by _ = []

-- the numbers of the voxels that a record fills; a pad is filled too
abbrev pub filled_by : Record → List ℕ
filled_by (Filled v) = voxel_key v ∷ []
filled_by (Pad v) = voxel_key v ∷ []
filled_by _ = []

-- the numbers of the voxels that a record makes pads
abbrev pub pads_by : Record → List ℕ
pads_by (Pad v) = voxel_key v ∷ []
pads_by _ = []

-- the simplices that a record draws
abbrev pub drawn_by : Record → List Simplex
drawn_by (Drawn s) = s ∷ []
drawn_by _ = []

-- Which records make a job, and what they tell, taken together.
--
-- The voxels ascend, so none is named twice. A job may have no voxels, no drawing and no terms.
use Rattle.std.specs.Prelude.{◌≡◌, ℕ, ◌<◌, ◌≤◌, true, false, ◌↔◌, List, [], ◌∷◌, map, length, Some, slice_index_or}
use Rattle.std.specs.List.{ContainsAt, flat_map, AllByRecursion}
use Rattle.cell.specs.Simplices.{simplices}
use Rattle.index.specs.Closed.{Ascending}
use Rattle.reader.specs.declared.order.FieldOrder.{FieldOrder}
use Rattle.reader.specs.declared.record.Record.{Record}
use Rattle.reader.specs.Format.{InOrder, bytes_of}
use Rattle.reader.specs.Keys.{key_of}
use Rattle.reader.specs.Named.{elements, form_number}
use Rattle.reader.specs.Saying.{asked_by, drawn_by, filled_by, orders_by, pads_by, questions_by, sizes_by}
use Rattle.reader.specs.Sheets.{Contents}
use Rattle.reader.specs.Turns.{group_of}
use Rattle.reader.specs.Values.{in_range}

-- each record stands above the one before it, if both are of one group
abbrev pub Ascend : List Record → Type 0
Ascend [] = Unit {0}
Ascend (r ∷ []) = Unit {0}
Ascend (r ∷ s ∷ records) = (group_of r ≡ group_of s → key_of r < key_of s) × Ascend (s ∷ records)

-- the records of a job over a field
pub record WellFormed (order : FieldOrder) (records : List Record) : Type 0 where
  pub groups : InOrder (map group_of records)
  -- one record names the field
  pub field : flat_map orders_by records ≡ Some order ∷ []
  -- every value is in range, and a coefficient is one of the field
  pub ranged : AllByRecursion (λ r. in_range (Some order) r ≡ true) records
  pub ascend : Ascend records

-- a job is the bytes of well-formed records
pub record IsFormed (job : List ℕ) : Type 0 where
  pub short : length job ≤ 16384
  pub order : FieldOrder
  pub records : List Record
  pub bytes : job ≡ flat_map bytes_of records
  pub formed : WellFormed order records

-- what such records tell of the contents k
pub record Tells (records : List Record) (k : Contents) : Type 0 where
  pub formed : WellFormed k.order records
  -- where the job stands after them, the field and the question are known
  pub order_known : k.progress.order ≡ Some k.order
  pub question_known : k.progress.asked ≡ Some k.question
  -- the field has as many elements as the byte of its record gives it
  pub size : flat_map sizes_by records ≡ elements k.order ∷ []
  -- one record asks the question
  pub question : flat_map questions_by records ≡ Some k.question ∷ []
  -- the bytes of that record are the number of the form and the degree
  pub asked : flat_map asked_by records ≡ (form_number k.question.form, k.question.degree) ∷ []
  pub filled : (n : ℕ) → (slice_index_or k.filled n false ≡ true) ↔ ContainsAt (flat_map filled_by records) n
  pub pads : (n : ℕ) → (slice_index_or k.pads n false ≡ true) ↔ ContainsAt (flat_map pads_by records) n
  pub drawing : k.drawing ≡ flat_map drawn_by records
  pub valid : AllByRecursion (λ s. simplices.valid s ≡ true) k.drawing
  pub ascending : Ascending simplices k.drawing

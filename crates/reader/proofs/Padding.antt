-- The voxels that records name as pads are filled.
use Rattle.std.proofs.Common.{◌≡◌, ℕ, true, false, List, [], ◌∷◌, get_or, Ok, inl, inr}
use Rattle.std.specs.List.{ContainsAt, flat_map}
use Rattle.reader.specs.declared.record.Record.{Record}
use Rattle.reader.specs.declared.record.Record.TheVariants.{Filled, Pad}
use Rattle.reader.specs.JobLaw.{JobLaw}
use Rattle.reader.specs.Saying.{filled_by, pads_by}
use Rattle.reader.proofs.Marks.{has_cases, has_here, has_there}
use Rattle.reader.specs.Keys.{voxel_key}
use Rattle.reader.specs.Sheets.{Contents}
use Rattle.reader.specs.Reading.{read_job}

has_filled :
    (records : List Record) (n : ℕ) → ContainsAt (flat_map pads_by records) n → ContainsAt (flat_map filled_by records) n
has_filled [] n h = h
has_filled (Filled v ∷ rs) n h = has_there (voxel_key v) n (flat_map filled_by rs) (has_filled rs n h)
has_filled (Pad v ∷ rs) n h =
    elim (has_cases (voxel_key v) n (flat_map pads_by rs) h) [
      | inl e ↦ has_here (voxel_key v) n (flat_map filled_by rs) e
      | inr t ↦ has_there (voxel_key v) n (flat_map filled_by rs) (has_filled rs n t)
    ]
has_filled (_ ∷ rs) n h = has_filled rs n h

pub pads_filled :
    (job : List ℕ) (k : Contents) → JobLaw job → read_job job ≡ Ok k → (n : ℕ) →
    get_or k.pads n false ≡ true → get_or k.filled n false ≡ true
pads_filled job k law is n pad =
    let says = (law.accepted k).0 is in let told = law.told k says in
    (told.filled n).1 (has_filled says.records n ((told.pads n).0 pad))

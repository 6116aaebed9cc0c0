-- What the records of one group ascend by.
use Rattle.std.specs.Prelude.{ℕ, ◌+◌, ◌*◌}
use Rattle.cell.specs.Simplices.{simplices}
use Rattle.reader.specs.declared.record.Record.{Record}
use Rattle.reader.specs.declared.record.Record.TheVariants.{Field, Filled, Pad, Drawn, Question, First, Second}
use Rattle.reader.specs.declared.record.Voxel.{Voxel}

-- the number of a voxel in the order by z, y, x
abbrev pub voxel_key : Voxel → ℕ
voxel_key v = 64 * v.z + 8 * v.y + v.x

-- a field and a question stand alone in their groups
abbrev pub key_of : Record → ℕ
key_of (Field b) = 0
key_of (Filled v) = voxel_key v
key_of (Pad v) = voxel_key v
key_of (Drawn s) = simplices.rank s
key_of (Question form degree) = 0
key_of (First t) = t.cell
key_of (Second t) = t.cell

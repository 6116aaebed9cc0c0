-- The format of a job: the bytes of each record, and the order in which the groups of records come.
use Rattle.std.specs.Prelude.{◌≡◌, ℕ, ◌/◌, ◌%◌, List, [], ◌∷◌, ◌++◌, replicate}
use Rattle.cell.specs.declared.simplex.Simplex.TheVariants.{Vertex, Edge, Triangle, Tetrahedron}
use Rattle.reader.specs.declared.record.Group.{Group}
use Rattle.reader.specs.declared.record.Group.TheVariants as group
use Rattle.reader.specs.declared.record.Record.{Record}
use Rattle.reader.specs.declared.record.Record.TheVariants.{Field, Filled, Pad, Drawn, Question, First, Second}

-- the bytes of a record: its kind, then its body; a cell's number in two bytes, high first
abbrev pub bytes_of : Record → List ℕ
bytes_of (Field b) = 0x46 ∷ b ∷ []
bytes_of (Filled v) = 0x56 ∷ v.x ∷ v.y ∷ v.z ∷ []
bytes_of (Pad v) = 0x50 ∷ v.x ∷ v.y ∷ v.z ∷ []
bytes_of (Drawn (Vertex a)) = 0x61 ∷ a ∷ []
bytes_of (Drawn (Edge a b)) = 0x62 ∷ a ∷ b ∷ []
bytes_of (Drawn (Triangle a b c)) = 0x63 ∷ a ∷ b ∷ c ∷ []
bytes_of (Drawn (Tetrahedron a b c d)) = 0x64 ∷ a ∷ b ∷ c ∷ d ∷ []
bytes_of (Question form degree) = 0x51 ∷ form ∷ degree ∷ []
bytes_of (First t) = 0x5a ∷ t.cell / 256 ∷ t.cell % 256 ∷ t.coefficient ∷ []
bytes_of (Second t) = 0x59 ∷ t.cell / 256 ∷ t.cell % 256 ∷ t.coefficient ∷ []

-- the groups in the order of the format: the field, voxels, a drawing, the question, and two lists of terms
abbrev pub InOrder : List Group → Type 0
InOrder groups =
    (a : ℕ) × (b : ℕ) × (c : ℕ) × (d : ℕ)
    × (groups ≡ group.Field ∷ (replicate a group.Voxels ++ (replicate b group.Drawing
    ++ (group.Question ∷ (replicate c group.First ++ replicate d group.Second)))))

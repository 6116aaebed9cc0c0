-- The cubes of a block of voxels.
--
-- The voxels are flags, the one of voxel (x, y, z) at 64 z + 8 y + x, each coordinate from 0 to 7. Voxel (x, y, z)
-- is the solid cube (2x + 1, 2y + 1, 2z + 1), and what lies within 1 of it in each coordinate.
use Rattle.std.specs.Prelude.{◌≡◌, ℕ, ◌+◌, ◌-◌, ◌*◌, ◌/◌, min, Bool, false, ◌||◌, List, slice_index_or}
use Rattle.cell.specs.declared.cube.Cube.{Cube}
use Rattle.lists.specs.Ranks.{block_below}

-- the least and the greatest coordinate of a voxel within 1 of a cube's coordinate
abbrev pub low : ℕ → ℕ
low n = (n - 1) / 2

abbrev pub high : ℕ → ℕ
high n = min (n / 2) 7

-- whether a voxel is filled
abbrev pub filled : List Bool → ℕ → ℕ → ℕ → Bool
filled flags a b c = slice_index_or flags (64 * c + 8 * b + a) false

-- no voxel is filled
abbrev pub Blank : List Bool → Type 0
Blank flags = (n : ℕ) → slice_index_or flags n false ≡ false

abbrev pub either : (ℕ → Bool) → ℕ → Bool
either test n = test (low n) || test (high n)

-- the rule by which a cube belongs to a block: some voxel within 1 of it in each coordinate is filled
abbrev pub belongs : List Bool → Cube → Bool
belongs flags c = either (λ k. either (λ j. either (λ i. filled flags i j k) c.x) c.y) c.z

-- the block, ascending: ranks of cubes are below 4 × 17³
abbrev pub block : List Bool → List Cube
block flags = block_below (belongs flags) 19652

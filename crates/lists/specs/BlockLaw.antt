-- The law of a block: which cubes stand in it, and in which order.
--
-- Nothing is assumed of the flags; a voxel past their end is not filled. Of cubes that are not valid none stands in
-- the list. A block with no filled voxel is the empty list.
use Rattle.std.specs.Prelude.{◌≡◌, ℕ, ◌+◌, ◌*◌, ◌≤◌, Bool, true, ◌↔◌, List, length}
use Rattle.std.specs.List.{AllByRecursion}
use Rattle.cell.specs.declared.cube.Cube.{Cube}
use Rattle.cell.specs.Cubes.{cubes}
use Rattle.index.specs.Closed.{held, Ascending, HasFaces, Closed}
use Rattle.lists.specs.Block.{filled}

-- i is the coordinate of a voxel, whose middle 2 i + 1 is within 1 of a cube's coordinate n
abbrev pub Touches : ℕ → ℕ → Type 0
Touches n i = (i ≤ 7) × (2 * i ≤ n) × (n ≤ 2 * i + 2)

-- some filled voxel is within 1 of a cube in each coordinate
pub record Near (flags : List Bool) (c : Cube) : Type 0 where
  pub i : ℕ
  pub j : ℕ
  pub k : ℕ
  pub along_x : Touches c.x i
  pub along_y : Touches c.y j
  pub along_z : Touches c.z k
  pub is_filled : filled flags i j k ≡ true

pub record IsBlock (flags : List Bool) (cs : List Cube) : Type 0 where
  -- a cube stands in the list exactly if a filled voxel is near
  pub exact : (c : Cube) → cubes.valid c ≡ true → (held cubes (cubes.rank c) cs ≡ true) ↔ Near flags c
  pub valid : AllByRecursion (λ c. cubes.valid c ≡ true) cs
  pub ascending : Ascending cubes cs
  pub faces : AllByRecursion (HasFaces cubes cs) cs
  -- so a block that is not closed has more than 1,024 cubes
  pub closed : (length cs ≤ 1024) ↔ Closed cubes cs

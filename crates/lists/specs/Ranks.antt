-- Rank by rank, the cubes that pass a test: words by which a block is listed.
--
-- Nothing is assumed of the test. Most ranks are no cube's.
use Rattle.std.specs.Prelude.{ℕ, zero, suc, ◌+◌, ◌*◌, ◌/◌, ◌%◌, Bool, cond, ◌&&◌, List, [], ◌∷◌, ◌++◌, ◌==◌}
use Rattle.cell.specs.declared.cube.Cube.{Cube}
use Rattle.cell.specs.Cubes.{cubes}

-- the cube of rank n, if there is one
abbrev pub cube_of : ℕ → Cube
cube_of n = record { x = n % 17; y = n / 17 % 17; z = n / 289 % 17 }

-- whether there is a cube of rank n, and it passes
abbrev pub chosen : (Cube → Bool) → ℕ → Bool
chosen test n = cubes.rank (cube_of n) == n && test (cube_of n)

-- the cube of rank n, if there is one and it passes
abbrev pub cubes_at : (Cube → Bool) → ℕ → List Cube
cubes_at test n = cond (chosen test n) (cube_of n ∷ []) []

-- the cubes that pass with a rank below n, ascending
unfoldable pub block_below : (Cube → Bool) → ℕ → List Cube
block_below test zero = []
block_below test (suc n) = block_below test n ++ cubes_at test n

-- where the ranks of a row begin: of the cubes of a degree with the coordinates y and z
abbrev pub row : ℕ → ℕ → ℕ → ℕ
row degree y z = ((degree * 17 + z) * 17 + y) * 17

-- The orders of cubes and of simplices by rank, in the words of the subject.
--
-- They are told of valid cells only.
use Rattle.std.specs.Prelude.{◌≡◌, ◌<◌, true, ◌↔◌, [], ◌∷◌}
use Rattle.cell.specs.declared.cube.Cube.{Cube}
use Rattle.cell.specs.declared.simplex.Simplex.{Simplex}
use Rattle.cell.specs.Digits.{Before}
use Rattle.cell.specs.Cubes.{cube_valid, cube_degree, cube_rank}
use Rattle.cell.specs.Simplices.{simplex_valid, simplex_degree, simplex_rank, vertices}

-- cubes ascend by degree, then z, then y, then x
abbrev pub CubesAscend : Type 0
CubesAscend =
    (c d : Cube) → cube_valid c ≡ true → cube_valid d ≡ true
    → (cube_rank c < cube_rank d)
    ↔ Before (cube_degree c ∷ c.z ∷ c.y ∷ c.x ∷ []) (cube_degree d ∷ d.z ∷ d.y ∷ d.x ∷ [])

-- simplices ascend by degree, then the vertices from the first
abbrev pub SimplicesAscend : Type 0
SimplicesAscend =
    (s t : Simplex) → simplex_valid s ≡ true → simplex_valid t ≡ true
    → (simplex_rank s < simplex_rank t) ↔ Before (simplex_degree s ∷ vertices s) (simplex_degree t ∷ vertices t)

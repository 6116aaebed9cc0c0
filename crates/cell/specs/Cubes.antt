-- Cubes: the cells of a grid, by three coordinates from 0 to 16.
--
-- A cube reaches along each coordinate that is odd, from the number before it to the number after.
-- Where a coordinate is past 16 there is no cube, and the faces are none.
use Rattle.std.specs.Prelude.{ℕ, ◌+◌, ◌-◌, ◌%◌, Bool, cond, ◌&&◌, List, [], ◌∷◌, ◌++◌, ◌==◌, nat_le}
use Rattle.cell.specs.declared.Sign.{Sign}
use Rattle.cell.specs.declared.Sign.TheVariants.{Plus, Minus}
use Rattle.cell.specs.declared.Face.{Face}
use Rattle.cell.specs.declared.cube.Cube.{Cube}
use Rattle.cell.specs.Digits.{numeral}
use Rattle.cell.specs.Kind.{Kind, product}

abbrev pub odd : ℕ → Bool
odd n = n % 2 == 1

abbrev pub cube_valid : Cube → Bool
cube_valid c = nat_le c.x 16 && nat_le c.y 16 && nat_le c.z 16

-- how many coordinates are odd
abbrev pub cube_degree : Cube → ℕ
cube_degree c = c.x % 2 + c.y % 2 + c.z % 2

-- by degree, then z, then y, then x
abbrev pub cube_rank : Cube → ℕ
cube_rank c = numeral 17 (cube_degree c) (c.z ∷ c.y ∷ c.x ∷ [])

-- the sign for the next coordinate: after an odd one it is the other
abbrev pub turned : Bool → Sign → Sign
turned b s = cond b (product Minus s) s

-- the faces along a coordinate n, which is odd where b is true: put is the cube with another number there
abbrev pub ends : Bool → Sign → ℕ → (ℕ → Cube) → List (Face Cube)
ends b s n put =
    cond b (record { cell = put (n + 1); sign = s } ∷ record { cell = put (n - 1); sign = product Minus s } ∷ []) []

-- the faces along each odd coordinate, where a, b and d say whether x, y and z are odd
abbrev pub sides : Bool → Bool → Bool → Cube → List (Face Cube)
sides a b d c =
    ends a Plus c.x (λ n. record { x = n; y = c.y; z = c.z })
    ++ ends b (turned a Plus) c.y (λ n. record { x = c.x; y = n; z = c.z })
    ++ ends d (turned b (turned a Plus)) c.z (λ n. record { x = c.x; y = c.y; z = n })

abbrev pub cube_faces : Cube → List (Face Cube)
cube_faces c = cond (cube_valid c) (sides (odd c.x) (odd c.y) (odd c.z) c) []

abbrev pub cubes : Kind Cube
cubes = record { valid = cube_valid; degree = cube_degree; rank = cube_rank; faces = cube_faces }

-- Cubes are a kind of cells, and they ascend by degree, then z, then y, then x.
--
-- The faces of the faces are those of a cube with one odd coordinate less, so all is by cases on the three parities.
use Rattle.std.specs.Prelude.{◌≡◌, ℕ, ◌+◌, ◌-◌, ◌%◌, ◌<◌, Bool, true, false, List, [], ◌∷◌, refl}
use Rattle.std.proofs.Common.{arith}
use Rattle.std.proofs.lemmas.Bool.Decides.{nat_tests}
use Rattle.cell.specs.declared.Sign.TheVariants.{Plus, Minus}
use Rattle.cell.specs.declared.cube.Cube.{Cube}
use Rattle.cell.specs.Kind.{IsKind, Faces, ways}
use Rattle.cell.specs.Orders.{CubesAscend}
use Rattle.cell.specs.Cubes.{cubes, odd, sides}
use Rattle.cell.specs.Parities.{Along, at, along_more, along_less, cube_along, cube_faces_along, cube_faces_valid}
use Rattle.cell.specs.Ranks.{Ranked, rank_ascends, rank_apart}

module _ (x y z : ℕ) where
  sides_below :
      (a b d : Bool) → Along a x → Along b y → Along d z → Faces cubes (x % 2 + y % 2 + z % 2) (sides a b d (at x y z))
  sides_below false false false p q r = tt
  sides_below true false false p q r = grind (arith, nat_tests)
  sides_below false true false p q r = grind (arith, nat_tests)
  sides_below false false true p q r = grind (arith, nat_tests)
  sides_below true true false p q r = grind (arith, nat_tests)
  sides_below true false true p q r = grind (arith, nat_tests)
  sides_below false true true p q r = grind (arith, nat_tests)
  sides_below true true true p q r = grind (arith, nat_tests)

  -- the faces of the two faces along each coordinate
  x_ends :
      (b d : Bool) → Along true x → Along b y → Along d z
      → (cubes.faces (at (x + 1) y z) ≡ sides false b d (at (x + 1) y z))
      × (cubes.faces (at (x - 1) y z) ≡ sides false b d (at (x - 1) y z))
  x_ends b d p q r = (
    cube_faces_along false b d (x + 1) y z (along_more x p) q r,
    cube_faces_along false b d (x - 1) y z (along_less x p) q r,
  )

  y_ends :
      (a d : Bool) → Along a x → Along true y → Along d z
      → (cubes.faces (at x (y + 1) z) ≡ sides a false d (at x (y + 1) z))
      × (cubes.faces (at x (y - 1) z) ≡ sides a false d (at x (y - 1) z))
  y_ends a d p q r = (
    cube_faces_along a false d x (y + 1) z p (along_more y q) r,
    cube_faces_along a false d x (y - 1) z p (along_less y q) r,
  )

  z_ends :
      (a b : Bool) → Along a x → Along b y → Along true z
      → (cubes.faces (at x y (z + 1)) ≡ sides a b false (at x y (z + 1)))
      × (cubes.faces (at x y (z - 1)) ≡ sides a b false (at x y (z - 1)))
  z_ends a b p q r = (
    cube_faces_along a b false x y (z + 1) p q (along_more z r),
    cube_faces_along a b false x y (z - 1) p q (along_less z r),
  )

  -- a face of a face comes by two ways, with other signs
  sides_cancel :
      (g : Cube) (a b d : Bool) → Along a x → Along b y → Along d z
      → ways cubes Plus g (sides a b d (at x y z)) ≡ ways cubes Minus g (sides a b d (at x y z))
  sides_cancel g false false false p q r = refl
  sides_cancel g true false false p q r = let u = x_ends false false p q r in rw (u.0, u.1)
  sides_cancel g false true false p q r = let v = y_ends false false p q r in rw (v.0, v.1)
  sides_cancel g false false true p q r = let w = z_ends false false p q r in rw (w.0, w.1)
  sides_cancel g true true false p q r =
      let u = x_ends true false p q r in
      let v = y_ends true false p q r in rw (u.0, u.1, v.0, v.1) (omega arith)
  sides_cancel g true false true p q r =
      let u = x_ends false true p q r in
      let w = z_ends true false p q r in rw (u.0, u.1, w.0, w.1) (omega arith)
  sides_cancel g false true true p q r =
      let v = y_ends false true p q r in
      let w = z_ends false true p q r in rw (v.0, v.1, w.0, w.1) (omega arith)
  sides_cancel g true true true p q r =
      let u = x_ends true true p q r in
      let v = y_ends true true p q r in
      let w = z_ends true true p q r in rw (u.0, u.1, v.0, v.1, w.0, w.1) (omega arith)

cube_faces_below : (c : Cube) → cubes.valid c ≡ true → Faces cubes (cubes.degree c) (cubes.faces c)
cube_faces_below c v =
    let p = cube_along c v in
    rw (cube_faces_valid c v)
    (sides_below c.x c.y c.z (odd c.x) (odd c.y) (odd c.z) p.0 p.1 p.2)

cube_signs_cancel :
    (c g : Cube) → cubes.valid c ≡ true → ways cubes Plus g (cubes.faces c) ≡ ways cubes Minus g (cubes.faces c)
cube_signs_cancel c g v =
    let p = cube_along c v in
    rw (cube_faces_valid c v)
    (sides_cancel c.x c.y c.z g (odd c.x) (odd c.y) (odd c.z) p.0 p.1 p.2)

cube_lower_first :
    (c d : Cube) → cubes.valid c ≡ true → cubes.valid d ≡ true
    → cubes.degree c < cubes.degree d → cubes.rank c < cubes.rank d
cube_lower_first c d v w l = grind (arith, nat_tests)

abbrev coordinates : Cube → List ℕ
coordinates c = c.z ∷ c.y ∷ c.x ∷ []

-- the cube with the coordinates of a list, which are 0 where it ends
abbrev placed : List ℕ → Cube
placed [] = at 0 0 0
placed (z ∷ []) = at 0 0 z
placed (z ∷ y ∷ []) = at 0 y z
placed (z ∷ y ∷ x ∷ ns) = at x y z

cubes_ranked : Ranked cubes 17 coordinates placed
cubes_ranked =
    record {
      rank = λ c. refl;
      small = λ c v. grind (arith, nat_tests);
      sized = λ c d e. refl;
      cell = λ c. refl;
      lower_first = cube_lower_first;
    }

pub cubes_ascend : CubesAscend
cubes_ascend = rank_ascends cubes 17 coordinates placed cubes_ranked

pub cubes_kind : IsKind cubes
cubes_kind =
    record {
      degree_small = λ c v. omega arith;
      apart = rank_apart cubes 17 coordinates placed cubes_ranked;
      lower_first = cube_lower_first;
      faces_below = cube_faces_below;
      signs_cancel = cube_signs_cancel;
    }

-- Cubes by the parities of their coordinates.
use Rattle.std.specs.Prelude.{◌≡◌, ℕ, ◌+◌, ◌-◌, ◌%◌, ◌≤◌, Bool, true, false, cond}
use Rattle.std.proofs.Common.{arith}
use Rattle.std.proofs.lemmas.Bool.Decides.{nat_tests}
use Rattle.cell.specs.declared.cube.Cube.{Cube}
use Rattle.cell.specs.Cubes.{cubes, odd, sides}

-- 1 for a coordinate that is odd
abbrev pub one : Bool → ℕ
one b = cond b 1 0

-- n is a coordinate of a cube, odd where b is true
pub record Along (b : Bool) (n : ℕ) : Type 0 where
  pub small : n ≤ 16
  pub parity : n % 2 ≡ one b

pub along_more : (n : ℕ) → Along true n → Along false (n + 1)
along_more n p = omega arith

pub along_less : (n : ℕ) → Along true n → Along false (n - 1)
along_less n p = omega arith

odd_along : (b : Bool) (n : ℕ) → Along b n → odd n ≡ b
odd_along true n p = grind (arith, nat_tests)
odd_along false n p = grind (arith, nat_tests)

along_odd : (n : ℕ) → n ≤ 16 → Along (odd n) n
along_odd n h = grind (arith, nat_tests)

abbrev pub at : ℕ → ℕ → ℕ → Cube
at x y z = record { x = x; y = y; z = z }

module _ (a b d : Bool) (x y z : ℕ) (p : Along a x) (q : Along b y) (r : Along d z) where
  cube_valid_along : cubes.valid (at x y z) ≡ true
  cube_valid_along = grind (arith, nat_tests)

  pub cube_faces_along : cubes.faces (at x y z) ≡ sides a b d (at x y z)
  cube_faces_along = rw (cube_valid_along, odd_along a x p, odd_along b y q, odd_along d z r)

module _ (c : Cube) (v : cubes.valid c ≡ true) where
  pub cube_along : Along (odd c.x) c.x × Along (odd c.y) c.y × Along (odd c.z) c.z
  cube_along =
      let h : (c.x ≤ 16) × (c.y ≤ 16) × (c.z ≤ 16) = grind (arith, nat_tests) in
      (along_odd c.x h.0, along_odd c.y h.1, along_odd c.z h.2)

  pub cube_faces_valid : cubes.faces c ≡ sides (odd c.x) (odd c.y) (odd c.z) c
  cube_faces_valid = rw v

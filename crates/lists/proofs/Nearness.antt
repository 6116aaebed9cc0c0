-- A cube belongs to a block exactly if a filled voxel is near, and then its faces belong to it too.
use Rattle.std.proofs.Common.{◌≡◌, ℕ, ◌+◌, ◌-◌, ◌%◌, ◌≤◌, Bool, true, false, List, Decides, sym, refl, subst, inl, inr, arith}
use Rattle.std.specs.List.{AllByRecursion}
use Rattle.std.proofs.ByRecursion.{All-append}
use Rattle.std.proofs.lemmas.Bool.{cases_eq, eqb-true, or_cases, or_left, or_right}
use Rattle.std.proofs.lemmas.Bool.Decides.{nat_tests}
use Rattle.cell.specs.declared.Sign.{Sign}
use Rattle.cell.specs.declared.Sign.TheVariants.{Plus}
use Rattle.cell.specs.declared.cube.Cube.{Cube}
use Rattle.cell.specs.Cubes.{cubes, ends, odd, turned}
use Rattle.cell.specs.Parities.{cube_faces_valid}
use Rattle.lists.specs.Block.{belongs, either, filled, high, low}
use Rattle.lists.specs.BlockLaw.{Near, Touches}

-- one of the two voxels along a coordinate passes a test exactly if one that touches the coordinate does
decides_either :
    (test : ℕ → Bool) (n : ℕ) → n ≤ 16 → Decides (either test n) ((i : ℕ) × Touches n i × (test i ≡ true))
decides_either test n small = (
  λ h. elim (or_cases (test (low n)) (test (high n)) h) [
    | inl l ↦ (low n, omega arith, l)
    | inr r ↦ (high n, omega arith, r)
  ],
  λ w. elim (cases_eq w.0 (low n)) [
    | inl e ↦ or_left (test (low n)) (test (high n)) (subst (λ m. test m ≡ true) e w.2)
    | inr e ↦ or_right (test (low n)) (test (high n))
        (let f : w.0 ≡ high n = omega arith in subst (λ m. test m ≡ true) f w.2)
  ],
)

-- whether a filled voxel is near in a row, and in a layer
abbrev in_row : List Bool → Cube → ℕ → ℕ → Bool
in_row flags c k j = either (λ i. filled flags i j k) c.x

abbrev in_layer : List Bool → Cube → ℕ → Bool
in_layer flags c k = either (in_row flags c k) c.y

module _ (flags : List Bool) (c : Cube) (valid : cubes.valid c ≡ true) where
  small : (c.x ≤ 16) × (c.y ≤ 16) × (c.z ≤ 16)
  small = grind (arith, nat_tests)

  near_from_belongs : belongs flags c ≡ true → Near flags c
  near_from_belongs h =
      let z = (decides_either (in_layer flags c) c.z small.2).0 h in
      let y = (decides_either (in_row flags c z.0) c.y small.1).0 z.2 in
      let x = (decides_either (λ i. filled flags i y.0 z.0) c.x small.0).0 y.2 in
      record { i = x.0; j = y.0; k = z.0; along_x = x.1; along_y = y.1; along_z = z.1; is_filled = x.2 }

  belongs_from_near : Near flags c → belongs flags c ≡ true
  belongs_from_near w =
      let in-this-row = decides_either (λ i. filled flags i w.j w.k) c.x small.0 in
      let x = in-this-row.1 (w.i, w.along_x, w.is_filled) in
      let y = (decides_either (in_row flags c w.k) c.y small.1).1 (w.j, w.along_y, x) in
      (decides_either (in_layer flags c) c.z small.2).1 (w.k, w.along_z, y)

  pub decides_belongs : Decides (belongs flags c) (Near flags c)
  decides_belongs = (near_from_belongs, belongs_from_near)

-- a voxel that touches an odd coordinate touches both ends along it
touches_ends : (n i : ℕ) → odd n ≡ true → Touches n i → Touches (n + 1) i × Touches (n - 1) i
touches_ends n i h t = let e = eqb-true (n % 2) 1 h in omega arith

-- what holds of each cube along a coordinate that a voxel touches holds of the ends along it
all_ends :
    (P : Cube → Type 0) (s : Sign) (n i : ℕ) (put : ℕ → Cube) → Touches n i → ((m : ℕ) → Touches m i → P (put m))
    → AllByRecursion (λ f. P f.cell) (ends (odd n) s n put)
all_ends P s n i put t each =
    elim (odd n) as (λ b. (b ≡ true → Touches (n + 1) i × Touches (n - 1) i) → AllByRecursion (λ f. P f.cell) (ends b s n put))
    [ true ↦ λ e. (each (n + 1) (e refl).0, (each (n - 1) (e refl).1, tt)) | false ↦ λ e. tt ]
    (λ h. touches_ends n i h t)

-- a voxel near a cube is near its faces
module _ (flags : List Bool) (c : Cube) (valid : cubes.valid c ≡ true) (w : Near flags c) where
  near_at :
      (x y z : ℕ) → Touches x w.i → Touches y w.j → Touches z w.k
      → Near flags (record { x = x; y = y; z = z })
  near_at x y z p q r =
      record { i = w.i; j = w.j; k = w.k; along_x = p; along_y = q; along_z = r; is_filled = w.is_filled }

  pub faces_near : AllByRecursion (λ f. Near flags f.cell) (cubes.faces c)
  faces_near =
      let p = w.along_x in let q = w.along_y in let r = w.along_z in
      let s = turned (odd c.x) Plus in
      subst (AllByRecursion (λ f. Near flags f.cell)) (sym (cube_faces_valid c valid))
      (All-append (λ f. Near flags f.cell) _ _
      (All-append (λ f. Near flags f.cell) _ _
      (all_ends (Near flags) Plus c.x w.i (λ n. record { x = n; y = c.y; z = c.z }) p
      (λ n t. near_at n c.y c.z t q r))
      (all_ends (Near flags) s c.y w.j (λ n. record { x = c.x; y = n; z = c.z }) q
      (λ n t. near_at c.x n c.z p t r)))
      (all_ends (Near flags) (turned (odd c.y) s) c.z w.k (λ n. record { x = c.x; y = c.y; z = n }) r
      (λ n t. near_at c.x c.y n p q t)))

-- The cubes of a row that pass a test, place by place along x.
use Rattle.std.proofs.Common.{◌≡◌, ℕ, zero, suc, ◌+◌, ◌%◌, ◌<◌, ◌≤◌, Bool, false, cond, ◌&&◌, eqb, filter, List, [], ◌∷◌, ◌++◌, sym, ap, ◌∙◌, inl, inr, arith}
use Rattle.std.proofs.lemmas.List.{append-nil}
use Rattle.std.proofs.lemmas.Bool.{cases_eq, eq-eqb}
use Rattle.std.proofs.lemmas.Bool.Decides.{nat_tests}
use Rattle.cell.specs.declared.cube.Cube.{Cube}
use Rattle.cell.specs.Cubes.{cubes}
use Rattle.lists.specs.Ranks.{block_below, cube_of, row}
use Rattle.lists.proofs.Below.{block_below_more}
use Rattle.lists.proofs.Chosen.{same_cube}

module _ (test : Cube → Bool) (degree y z : ℕ) (y_within : y < 17) (z_within : z < 17) where
  abbrev at : ℕ → Cube
  at x = record { x = x; y = y; z = z }

  abbrev IsOf : ℕ → Type 0
  IsOf x = x % 2 + y % 2 + z % 2 ≡ degree

  -- the cubes of the row whose x is less, and those before the row
  abbrev below : ℕ → List Cube
  below x = block_below test (row degree y z + x)

  cube_of_row : (x : ℕ) → x < 17 → cube_of (row degree y z + x) ≡ at x
  cube_of_row x within = same_cube _ _ (omega arith) (omega arith) (omega arith)

  below_more :
      (x : ℕ) → x < 17
      → below (x + 1) ≡ below x ++ cond (eqb (cubes.rank (at x)) (row degree y z + x) && test (at x)) (at x ∷ []) []
  below_more x within =
      ap (block_below test) (let e : row degree y z + (x + 1) ≡ row degree y z + x + 1 = omega arith in e)
      ∙ block_below_more test (row degree y z + x)
      ∙ ap (λ (c : Cube). below x ++ cond (eqb (cubes.rank c) (row degree y z + x) && test c) (c ∷ []) [])
      (cube_of_row x within)

  below_kept : (x : ℕ) → x < 17 → IsOf x → below (x + 1) ≡ below x ++ filter test (at x ∷ [])
  below_kept x within is =
      below_more x within ∙ ap (λ (b : Bool). below x ++ cond (b && test (at x)) (at x ∷ []) [])
      (eq-eqb (cubes.rank (at x)) (row degree y z + x) (omega arith))

  below_passed : (x : ℕ) → x < 17 → (IsOf x → ⊥) → below (x + 1) ≡ below x
  below_passed x within other =
      let not : eqb (cubes.rank (at x)) (row degree y z + x) ≡ false = grind (arith, nat_tests) in
      below_more x within ∙ ap (λ (b : Bool). below x ++ cond (b && test (at x)) (at x ∷ []) []) not
      ∙ append-nil (below x)

  -- places of no cube
  pub below_none :
      (from to : ℕ) → from ≤ to → to ≤ 17 → ((m : ℕ) → from ≤ m → m < to → IsOf m → ⊥) → below to ≡ below from
  below_none from zero ordered within none = ap below (let e : 0 ≡ from = omega arith in e)
  below_none from (suc to) ordered within none = elim (cases_eq from (suc to)) [
    | inl e ↦ ap below (sym e)
    | inr e ↦ (ap below (let e : suc to ≡ to + 1 = omega arith in e)
        ∙ below_passed to (omega arith) (none to (omega arith) (omega arith))
        ∙ below_none from to (omega arith) (omega arith) (λ m l r. none m l (omega arith)))
  ]

  -- places of one cube
  pub below_one :
      (from x to : ℕ) → from ≤ x → x < to → to ≤ 17 → to ≤ from + 2 → IsOf x
      → below to ≡ below from ++ filter test (at x ∷ [])
  below_one from x to first last within few is =
      below_none (x + 1) to (omega arith) within (λ m l r e. omega arith)
      ∙ below_kept x (omega arith) is
      ∙ ap (λ (cs : List Cube). cs ++ filter test (at x ∷ []))
      (below_none from x first (omega arith) (λ m l r e. omega arith))

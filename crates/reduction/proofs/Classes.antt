-- The class codes of cycles tell them apart up to boundaries.
use Rattle.std.proofs.Common.{◌≡◌, ℕ, suc, ◌-◌, sym, ap, ◌∙◌, arith}
use native.Mathlib.Decide.{dec_lt}
use Rattle.field.specs.Codes.{Codes, IsField}
use Rattle.linear.specs.Complexes.{Meaning, IsComplex}
use Rattle.linear.proofs.Codes.{times_zero, zero_times}
use Rattle.linear.proofs.Sums.{sum_below, sum_zero, sum_ext}
use Rattle.reduction.specs.Matrices.{Chain, product, apply, difference, Same, IsZero}
use Rattle.reduction.specs.Chains.{IsCycle, IsBoundary}
use Rattle.reduction.specs.Reductions.{State, IsReduction}
use Rattle.reduction.specs.Classes.{class_codes, cycle_of, IsOnLive, IsSurvivorBoundary}
use Rattle.reduction.specs.Laws.{ClassesTell, EqualClasses, HomotopyFills, ClassCodesAreReached}
use Rattle.reduction.proofs.Codes.{CodeMatrix, matrix_eq, entry_eq, matrices, times_matrix, product_assoc}
use Rattle.reduction.proofs.Units.{diagonal, diagonal_row}
use Rattle.reduction.proofs.Families.{G_family, keep}
use Rattle.reduction.proofs.Lifting.{reduced, from_survivors, from_zero, to_survivors}
use Rattle.reduction.proofs.Elements.{returns}
use Rattle.reduction.proofs.Columns.{
  column,
  column_at,
  column_past,
  apply_column,
  apply_difference,
  apply_zero_row,
  difference_zero,
  difference_same,
}

module _ (f : Codes) (law : IsField f) (m : Meaning) (complex : IsComplex f m) (s : State) (r : IsReduction f m s) where
  pub difference_cycle : (k : ℕ) (z y : Chain) → IsCycle f m k z → IsCycle f m k y → IsCycle f m k (difference f z y)
  difference_cycle k z y cz cy = record {
    codes = λ j l. law.plus_below _ _;
    closed = λ i. apply_difference f law (m.dim k) (m.entry k) z y i
        ∙ difference_same f law _ _ (cz.closed i ∙ sym (cy.closed i));
  }

  -- the coefficients of a combination of the columns of G are its class codes
  pub class_of_cycle : (k : ℕ) (c : Chain) → IsOnLive f m s k c →
      Same (m.dim k) (class_codes f m s k (cycle_of f m s k c)) c
  unfolding times_matrix
  class_of_cycle k c on i l =
      sum_ext f law (m.dim k) _ _
      (λ h _. ap (f.times (s.F k i h)) (sym (apply_column f law (m.dim k) G c on.codes h 0)))
      ∙ entry_eq f law _ _ (returns (matrices f law) m.dim (reduced f law m complex s r) k X live_X) i 0
      ∙ column_at f law (m.dim k) c on.codes i 0 l
    where
      G : CodeMatrix f
      G = G_family f law m complex s r.shape k

      X : CodeMatrix f
      X = column f law (m.dim k) c on.codes

      zero_at : (i j : ℕ) → c i ≡ 0 → X.0 i j ≡ 0
      zero_at i j e = elim (dec_lt i (m.dim k)) [
        | yes l ↦ (column_at f law (m.dim k) c on.codes i j l ∙ e)
        | no past ↦ column_past f law (m.dim k) c on.codes i j (omega arith)
      ]

      live_X : times_matrix f law (m.dim k) (diagonal f law (s.live k)) X ≡ X
      live_X = matrix_eq f law _ _ (λ i j. diagonal_row f law (m.dim k) (s.live k) (r.shape.live_cells k) X i j
          ∙ keep (s.live k i) (X.0 i j) (λ e. zero_at i j (on.dead i e)))

  -- where D is zero out of a degree, combinations of the columns of G are cycles
  pub cycle_of_cycle : (k : ℕ) (c : Chain) → IsZero (s.D k) → IsCycle f m k (cycle_of f m s k c)
  cycle_of_cycle k c d = record {
    codes = λ j l. sum_below f law (m.dim k) _;
    closed = λ i. sym (product_assoc f law (m.dim k) (m.dim k) (m.entry k i) (s.G k) c)
        ∙ sum_zero f law (m.dim k) _ (λ h _. ap (λ (w : ℕ). f.times w (c h)) (r.B_G k i h ∙ zero_D i h)
        ∙ zero_times f law (c h));
  }
    where
      zero_D : (i h : ℕ) → product f (m.dim (k - 1)) (s.G (k - 1)) (s.D k) i h ≡ 0
      zero_D i h = sum_zero f law (m.dim (k - 1)) _ (λ l _. ap (f.times (s.G (k - 1) i l)) (d l h)
          ∙ times_zero f law (s.G (k - 1) i l))

pub classes_tell : ClassesTell
classes_tell f m s k z y law complex r cz cy = (there, back) where
  x : IsCycle f m k (difference f z y)
  x = difference_cycle f law m complex s r k z y cz cy

  moved : (i : ℕ) → class_codes f m s k (difference f z y) i ≡ difference f (class_codes f m s k z)
      (class_codes f m s k y) i
  moved = apply_difference f law (m.dim k) (s.F k) z y

  there : IsSurvivorBoundary f m s k (difference f (class_codes f m s k z) (class_codes f m s k y)) →
      IsBoundary f m k (difference f z y)
  there (w, b) = from_survivors f law m complex s r k (difference f z y) x w
      (record { on_live = b.on_live; bounds = λ i l. b.bounds i l ∙ sym (moved i) })

  back : IsBoundary f m k (difference f z y) →
      IsSurvivorBoundary f m s k (difference f (class_codes f m s k z) (class_codes f m s k y))
  back (w, b) =
      let (u, c) = to_survivors f law m complex s r k (difference f z y) x w b in
      (u, record { on_live = c.on_live; bounds = λ i l. c.bounds i l ∙ moved i })

pub homotopy_fills : HomotopyFills
homotopy_fills f m s k z y law complex r cz cy e =
    from_zero f law m complex s r k (difference f z y) (difference_cycle f law m complex s r k z y cz cy)
    (λ i l. apply_difference f law (m.dim k) (s.F k) z y i ∙ difference_same f law _ _ (e i l))

pub equal_classes : EqualClasses
equal_classes f m s k z y law complex r d cz cy = (
  (λ e. (apply f (m.dim k) (s.H k) (difference f z y), homotopy_fills f m s k z y law complex r cz cy e)),
  λ b. equal ((classes_tell f m s k z y law complex r cz cy).1 b),
)
  where
    equal : IsSurvivorBoundary f m s k (difference f (class_codes f m s k z) (class_codes f m s k y)) →
        Same (m.dim k) (class_codes f m s k z) (class_codes f m s k y)
    equal (w, b) i l = difference_zero f law _ _ (sum_below f law (m.dim k) _) (sum_below f law (m.dim k) _)
        (sym (b.bounds i l) ∙ apply_zero_row f law (m.dim (suc k)) (s.D (suc k)) w i (d i))

pub class_codes_are_reached : ClassCodesAreReached
class_codes_are_reached f m s k c law complex r d on = record {
  coefficients = c;
  on_live = on;
  cycle = cycle_of_cycle f law m complex s r k c d;
  reached = class_of_cycle f law m complex s r k c on;
  only = λ x onx e j l. sym (class_of_cycle f law m complex s r k x onx j l) ∙ e j l;
}

-- Cycles of a complex and boundaries among its survivors: from one to the other and back.
use Rattle.std.proofs.Common.{◌≡◌, ℕ, suc, ◌<◌, ◌≤◌, sym, refl, ap, ◌∙◌, subst, arith}
use native.Mathlib.Decide.{dec_lt}
use Rattle.field.specs.Codes.{Codes, IsField}
use Rattle.linear.specs.Complexes.{Meaning, IsComplex}
use Rattle.linear.proofs.Sums.{sum_below, sum_ext}
use Rattle.reduction.specs.Matrices.{Chain, apply, Same}
use Rattle.reduction.specs.Chains.{IsCycle, Bounds, IsBoundary}
use Rattle.reduction.specs.Reductions.{State, cells, IsReduction}
use Rattle.reduction.specs.Classes.{class_codes, BoundsSurvivors, IsSurvivorBoundary}
use Rattle.reduction.proofs.Algebra.{Algebra}
use Rattle.reduction.proofs.Codes.{CodeMatrix, matrix_eq, entry_eq, matrices, times_matrix, plus_matrix, zero_matrix}
use Rattle.reduction.proofs.Units.{diagonal_row}
use Rattle.reduction.proofs.Families.{
  unit_family,
  B_family,
  D_family,
  F_family,
  G_family,
  H_family,
  Reduces,
  reduces,
  keep,
  is_cell,
  not_cell,
  suc_less_one,
}
use Rattle.reduction.proofs.Elements.{Closed, rises, rises_by_H, falls}
use Rattle.reduction.proofs.Columns.{column, column_at, column_past, apply_column, apply_zero_row}

module _ (f : Codes) (law : IsField f) (m : Meaning) (complex : IsComplex f m) (s : State) (r : IsReduction f m s) where
  abbrev A : Algebra (CodeMatrix f)
  A = matrices f law

  pub reduced : Reduces f law m complex s r.shape
  reduced = reduces f law m complex s r.shape r

  abbrev F : ℕ → CodeMatrix f
  F = F_family f law m complex s r.shape

  abbrev D : ℕ → CodeMatrix f
  D = D_family f law m complex s r.shape

  abbrev B : ℕ → CodeMatrix f
  B = B_family f law m complex

  -- two matrices agree if they do at cells, and are zero elsewhere
  matrix_eq_at : (n : ℕ) (x y : CodeMatrix f) → ((i j : ℕ) → i < n → x.0 i j ≡ y.0 i j) →
      ((i j : ℕ) → n ≤ i → x.0 i j ≡ 0) → ((i j : ℕ) → n ≤ i → y.0 i j ≡ 0) → x ≡ y
  matrix_eq_at n x y e px py = matrix_eq f law x y (λ i j. elim (dec_lt i n) [
    | yes l ↦ e i j l
    | no past ↦ (let l : n ≤ i = omega arith in px i j l ∙ sym (py i j l))
  ])

  D_past : (k i j : ℕ) → m.dim k ≤ i → s.D (suc k) i j ≡ 0
  D_past k i j l = (r.shape.D_shape (suc k)).past_rows i j (subst (λ (d : ℕ). m.dim d ≤ i) (sym (suc_less_one k)) l)

  B_past : (k i j : ℕ) → m.dim k ≤ i → m.entry (suc k) i j ≡ 0
  B_past k i j l = complex.rows (suc k) i j (subst (λ (d : ℕ). m.dim d ≤ i) (sym (suc_less_one k)) l)

  -- a cycle as an element
  module _ (k : ℕ) (x : Chain) (cycle : IsCycle f m k x) where
    abbrev X : CodeMatrix f
    X = column f law (m.dim k) x cycle.codes

    cells_X : times_matrix f law (m.dim k) (unit_family f law m complex k) X ≡ X
    cells_X = matrix_eq f law _ _ (λ i j. diagonal_row f law (m.dim k) (cells m k) (is_cell m k) X i j
        ∙ keep (cells m k i) (X.0 i j) (λ e. column_past f law (m.dim k) x cycle.codes i j (not_cell m k i e)))

    closed_X : Closed A m.dim reduced k X
    unfolding zero_matrix
    closed_X d e = matrix_eq f law _ _ (λ i j. apply_column f law (m.dim k) (B d) x cycle.codes i j
        ∙ ap (λ (w : ℕ). apply f (m.dim k) (m.entry w) x i) (sym e) ∙ cycle.closed i)

    -- where F x is D w, x is a boundary
    pub from_survivors : (w : Chain) → BoundsSurvivors f m s k w (class_codes f m s k x) → IsBoundary f m k x
    unfolding plus_matrix times_matrix
    from_survivors w b = (
      λ j. U.0 j 0,
      record {
        codes = λ j l. U.1 j 0;
        bounds = λ i l. sym (entry_eq f law _ _ lifted i 0) ∙ column_at f law (m.dim k) x cycle.codes i 0 l;
      },
    )
      where
        W : CodeMatrix f
        W = column f law (m.dim (suc k)) w b.on_live.codes

        level : times_matrix f law (m.dim k) (F k) X ≡ times_matrix f law (m.dim (suc k)) (D k) W
        level = matrix_eq_at (m.dim k) _ _
            (λ i j l. apply_column f law (m.dim k) (F k) x cycle.codes i j ∙ sym (b.bounds i l)
            ∙ sym (apply_column f law (m.dim (suc k)) (D k) w b.on_live.codes i j))
            (λ i j l. apply_column f law (m.dim k) (F k) x cycle.codes i j
            ∙ apply_zero_row f law (m.dim k) (s.F k) x i (λ h. (r.shape.F_shape k).past_rows i h l))
            (λ i j l. apply_column f law (m.dim (suc k)) (D k) w b.on_live.codes i j
            ∙ apply_zero_row f law (m.dim (suc k)) (s.D (suc k)) w i (λ h. D_past k i h l))

        U : CodeMatrix f
        U = plus_matrix f law (times_matrix f law (m.dim (suc k)) (G_family f law m complex s r.shape (suc k)) W)
            (times_matrix f law (m.dim k) (H_family f law m complex s r.shape k) X)

        lifted : X ≡ times_matrix f law (m.dim (suc k)) (B k) U
        lifted = rises A m.dim reduced k X W cells_X closed_X level

    -- where F x is zero, x is the boundary of H x
    pub from_zero : Same (m.dim k) (class_codes f m s k x) (λ _. 0) → Bounds f m k (apply f (m.dim k) (s.H k) x) x
    unfolding times_matrix zero_matrix
    from_zero e = record {
      codes = λ j l. sum_below f law (m.dim k) _;
      bounds = λ i l. sum_ext f law (m.dim (suc k)) _ _
          (λ h _. ap (f.times (m.entry (suc k) i h))
          (sym (apply_column f law (m.dim k) (H_family f law m complex s r.shape k) x cycle.codes h 0)))
          ∙ sym (entry_eq f law _ _ lifted i 0) ∙ column_at f law (m.dim k) x cycle.codes i 0 l;
    }
      where
        level : times_matrix f law (m.dim k) (F k) X ≡ zero_matrix f law
        level = matrix_eq_at (m.dim k) _ _
            (λ i j l. apply_column f law (m.dim k) (F k) x cycle.codes i j ∙ e i l)
            (λ i j l. apply_column f law (m.dim k) (F k) x cycle.codes i j
            ∙ apply_zero_row f law (m.dim k) (s.F k) x i (λ h. (r.shape.F_shape k).past_rows i h l))
            (λ i j l. refl)

        lifted : X ≡ times_matrix f law (m.dim (suc k)) (B k)
            (times_matrix f law (m.dim k) (H_family f law m complex s r.shape k) X)
        lifted = rises_by_H A m.dim reduced k X cells_X closed_X level

    -- where x is a boundary, F x is D of something
    pub to_survivors : (w : Chain) → Bounds f m k w x → IsSurvivorBoundary f m s k (class_codes f m s k x)
    unfolding times_matrix
    to_survivors w b = (
      λ j. U.0 j 0,
      record {
        on_live = record {
          codes = λ j l. U.1 j 0;
          dead = λ j e. apply_zero_row f law (m.dim (suc k)) (s.F (suc k)) (λ h. W.0 h 0) j
              (λ h. r.shape.F_rows (suc k) j h e);
        };
        bounds = λ i l. sym (entry_eq f law _ _ lowered_X i 0)
            ∙ apply_column f law (m.dim k) (F k) x cycle.codes i 0;
      },
    )
      where
        W : CodeMatrix f
        W = column f law (m.dim (suc k)) w b.codes

        level : X ≡ times_matrix f law (m.dim (suc k)) (B k) W
        level = matrix_eq_at (m.dim k) _ _
            (λ i j l. column_at f law (m.dim k) x cycle.codes i j l ∙ sym (b.bounds i l)
            ∙ sym (apply_column f law (m.dim (suc k)) (B k) w b.codes i j))
            (λ i j l. column_past f law (m.dim k) x cycle.codes i j l)
            (λ i j l. apply_column f law (m.dim (suc k)) (B k) w b.codes i j
            ∙ apply_zero_row f law (m.dim (suc k)) (m.entry (suc k)) w i (λ h. B_past k i h l))

        U : CodeMatrix f
        U = times_matrix f law (m.dim (suc k)) (F (suc k)) W

        lowered_X : times_matrix f law (m.dim k) (F k) X ≡ times_matrix f law (m.dim (suc k)) (D k) U
        lowered_X = falls A m.dim reduced k X W level

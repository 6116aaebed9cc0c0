-- The loaded state of a complex is a reduction of it.
use Rattle.std.proofs.Common.{◌≡◌, ℕ, suc, ◌-◌, ◌≤◌, cond, ◌&&◌, eqb, sym, refl, ap, ◌∙◌, subst, add-one, arith}
use Rattle.std.proofs.lemmas.Bool.Decides.{nat_tests}
use Rattle.field.specs.Codes.{Codes, IsField}
use Rattle.linear.specs.Complexes.{Meaning, IsComplex}
use Rattle.linear.proofs.Codes.{zero_lt_order, one_lt_order}
use Rattle.reduction.specs.Matrices.{IsMatrix, product, identity_on}
use Rattle.reduction.specs.Reductions.{cells, HasShape, loaded}
use Rattle.reduction.specs.Laws.{LoadingReduces}
use Rattle.reduction.proofs.Codes.{matrix_eq, matrices, times_matrix, zero_matrix}
use Rattle.reduction.proofs.Units.{diagonal, diagonal_diagonal, diagonal_row, diagonal_column, cond_below}
use Rattle.reduction.proofs.Composing.{initial}
use Rattle.reduction.proofs.Families.{
  unit_family,
  B_family,
  Reduces,
  is_reduction,
  keep,
  is_cell,
  not_cell,
  suc_less_one,
}

module _ (f : Codes) (law : IsField f) (m : Meaning) (complex : IsComplex f m) where
  identity_shape : (k : ℕ) → IsMatrix f (m.dim k) (m.dim k) (identity_on (cells m k))
  identity_shape k = record {
    below = λ i j. cond_below f law (cells m k i && eqb i j) 1 (one_lt_order f law);
    past_rows = λ i j l. grind (arith, nat_tests);
    past_columns = λ i j l. grind (arith, nat_tests);
  }

  loaded_shape : HasShape f m (loaded m)
  loaded_shape = record {
    live_cells = is_cell m;
    D_shape = λ k. record { below = complex.below k; past_rows = complex.rows k; past_columns = complex.columns k };
    F_shape = identity_shape;
    G_shape = identity_shape;
    H_shape = λ k. record {
      below = λ i j. zero_lt_order f law;
      past_rows = λ i j l. refl;
      past_columns = λ i j l. refl;
    };
    D_zero = complex.degree_zero;
    D_rows = λ k i j dead. complex.rows k i j (not_cell m (k - 1) i dead);
    D_columns = λ k i j dead. complex.columns k i j (not_cell m k j dead);
    F_rows = λ k i j dead. ap (λ t. cond (t && eqb i j) 1 0) dead;
    G_columns = λ k i j dead. grind (arith, nat_tests);
  }

  unit_unit : (k : ℕ) → times_matrix f law (m.dim k) (unit_family f law m complex k) (unit_family f law m complex k) ≡
      unit_family f law m complex k
  unit_unit k = diagonal_diagonal f law (m.dim k) (cells m k) (is_cell m k)

  unit_B : (k : ℕ) → times_matrix f law (m.dim k) (unit_family f law m complex k)
      (B_family f law m complex k) ≡ B_family f law m complex k
  unit_B k = matrix_eq f law _ _
      (λ i j. diagonal_row f law (m.dim k) (cells m k) (is_cell m k) (B_family f law m complex k) i j
      ∙ keep (cells m k i) (m.entry (suc k) i j)
      (λ e. complex.rows (suc k) i j (subst (λ (d : ℕ). m.dim d ≤ i) (sym (suc_less_one k)) (not_cell m k i e))))

  B_unit : (k : ℕ) → times_matrix f law (m.dim (suc k)) (B_family f law m complex k)
      (unit_family f law m complex (suc k)) ≡
      B_family f law m complex k
  B_unit k = matrix_eq f law _ _ (λ i j.
      diagonal_column f law (m.dim (suc k)) (cells m (suc k)) (is_cell m (suc k)) (B_family f law m complex k) i j
      ∙ keep (cells m (suc k) j) (m.entry (suc k) i j) (λ e. complex.columns (suc k) i j (not_cell m (suc k) j e)))

  B_B : (k : ℕ) → times_matrix f law (m.dim (suc k)) (B_family f law m complex k)
      (B_family f law m complex (suc k)) ≡ zero_matrix f law
  unfolding times_matrix zero_matrix
  B_B k = matrix_eq f law _ _ (λ i j.
      ap (λ (d : ℕ). product f (m.dim (suc k)) (m.entry (suc k)) (m.entry d) i j) (sym (add-one (suc k)))
      ∙ complex.square (suc k) i j)

  loaded_reduces : Reduces f law m complex (loaded m) loaded_shape
  unfolding diagonal zero_matrix loaded_shape identity_shape
  loaded_reduces = initial (matrices f law) m.dim (unit_family f law m complex) (B_family f law m complex)
      B_B unit_unit unit_B B_unit

pub loading_reduces : LoadingReduces
loading_reduces f m law complex =
    is_reduction f law m complex (loaded m) (loaded_shape f law m complex) (loaded_reduces f law m complex)

-- The families of a state as families in the algebra of matrices of codes: a state is a reduction exactly if
-- its families are.
use Rattle.std.proofs.Common.{◌≡◌, ℕ, zero, suc, ◌-◌, ◌<◌, ◌≤◌, Bool, true, false, cond, sym, refl, ap, ◌∙◌, arith}
use Rattle.std.proofs.lemmas.Bool.Decides.{nat_tests}
use Rattle.field.specs.Codes.{Codes, IsField}
use Rattle.linear.specs.Complexes.{Meaning, IsComplex}
use Rattle.linear.specs.Sums.{sum}
use Rattle.linear.proofs.Codes.{zero_times, times_zero}
use Rattle.linear.proofs.Sums.{sum_zero}
use Rattle.reduction.specs.Matrices.{product}
use Rattle.reduction.specs.Reductions.{State, cells, HasShape, IsReduction}
use Rattle.reduction.proofs.Codes.{CodeMatrix, matrix_eq, entry_eq, matrices, times_matrix, plus_matrix, zero_matrix}
use Rattle.reduction.proofs.Units.{diagonal, diagonal_row, diagonal_column}
use Rattle.reduction.proofs.Composing.{Red, lowered}

pub suc_less_one : (k : ℕ) → suc k - 1 ≡ k
suc_less_one k = omega arith

pub keep : (t : Bool) (x : ℕ) → (t ≡ false → x ≡ 0) → cond t x 0 ≡ x
keep true x z = refl
keep false x z = sym (z refl)

-- what is no cell
pub not_cell : (m : Meaning) (k i : ℕ) → cells m k i ≡ false → m.dim k ≤ i
not_cell m k i e = grind (arith, nat_tests)

pub is_cell : (m : Meaning) (k i : ℕ) → cells m k i ≡ true → i < m.dim k
is_cell m k i e = grind (arith, nat_tests)

module _ (f : Codes) (law : IsField f) (m : Meaning) (complex : IsComplex f m) where
  abbrev pub unit_family : ℕ → CodeMatrix f
  unit_family k = diagonal f law (cells m k)

  abbrev pub B_family : ℕ → CodeMatrix f
  B_family k = (m.entry (suc k), complex.below (suc k))

  module _ (s : State) (shape : HasShape f m s) where
    abbrev pub D_family : ℕ → CodeMatrix f
    D_family k = (s.D (suc k), (shape.D_shape (suc k)).below)

    abbrev pub F_family : ℕ → CodeMatrix f
    F_family k = (s.F k, (shape.F_shape k).below)

    abbrev pub G_family : ℕ → CodeMatrix f
    G_family k = (s.G k, (shape.G_shape k).below)

    abbrev pub H_family : ℕ → CodeMatrix f
    H_family k = (s.H k, (shape.H_shape k).below)

    abbrev pub live_family : ℕ → CodeMatrix f
    live_family k = diagonal f law (s.live k)

    -- the families of a state are a reduction
    abbrev pub Reduces : Type 0
    Reduces = Red (matrices f law) m.dim unit_family B_family D_family F_family G_family H_family live_family

    zero_product : (n : ℕ) (x : ℕ → ℕ) (y : ℕ → ℕ) → ((h : ℕ) → y h ≡ 0) → sum f n (λ h. f.times (x h) (y h)) ≡ 0
    zero_product n x y z = sum_zero f law n _ (λ h _. ap (f.times (x h)) (z h) ∙ times_zero f law (x h))

    -- H B in degree k, and nothing in degree 0
    low_H : (k i j : ℕ) →
        (lowered (matrices f law) m.dim (λ d. times_matrix f law (m.dim d) (H_family d) (B_family d)) k).0 i j ≡
        product f (m.dim (k - 1)) (s.H (k - 1)) (m.entry k) i j
    unfolding times_matrix zero_matrix
    low_H zero i j = sym (zero_product (m.dim 0) (s.H 0 i) (λ h. m.entry 0 h j) (λ h. complex.degree_zero h j))
    low_H (suc k) i j =
        sym (ap (λ (d : ℕ). product f (m.dim d) (s.H d) (m.entry (suc k)) i j) (suc_less_one k))

    pub reduces : IsReduction f m s → Reduces
    unfolding times_matrix plus_matrix zero_matrix diagonal
    reduces r = record {
      DD = λ k. matrix_eq f law _ _ (λ i j. r.D_D (suc k) i j);
      DF = λ k. matrix_eq f law _ _ (λ i j. r.D_F (suc k) i j
          ∙ ap (λ (d : ℕ). product f (m.dim d) (s.F d) (m.entry (suc k)) i j) (suc_less_one k));
      BG = λ k. matrix_eq f law _ _ (λ i j. r.B_G (suc k) i j
          ∙ ap (λ (d : ℕ). product f (m.dim d) (s.G d) (s.D (suc k)) i j) (suc_less_one k));
      FG = λ k. matrix_eq f law _ _ (λ i j. r.F_G k i j);
      hom = λ k. matrix_eq f law _ _ (λ i j. ap (λ (w : ℕ). f.plus (product f (m.dim k) (s.G k) (s.F k) i j)
          (f.plus (product f (m.dim (suc k)) (m.entry (suc k)) (s.H k) i j) w)) (low_H k i j) ∙ r.homotopy k i j);
      LD = λ k. matrix_eq f law _ _
          (λ i j. diagonal_row f law (m.dim k) (s.live k) (shape.live_cells k) (D_family k) i j
          ∙ keep (s.live k i) (s.D (suc k) i j)
          (λ e. shape.D_rows (suc k) i j (ap (λ (d : ℕ). s.live d i) (suc_less_one k) ∙ e)));
      DL = λ k. matrix_eq f law _ _ (λ i j.
          diagonal_column f law (m.dim (suc k)) (s.live (suc k)) (shape.live_cells (suc k)) (D_family k) i j
          ∙ keep (s.live (suc k) j) (s.D (suc k) i j) (shape.D_columns (suc k) i j));
      LF = λ k. matrix_eq f law _ _
          (λ i j. diagonal_row f law (m.dim k) (s.live k) (shape.live_cells k) (F_family k) i j
          ∙ keep (s.live k i) (s.F k i j) (shape.F_rows k i j));
      GL = λ k. matrix_eq f law _ _
          (λ i j. diagonal_column f law (m.dim k) (s.live k) (shape.live_cells k) (G_family k) i j
          ∙ keep (s.live k j) (s.G k i j) (shape.G_columns k i j));
      JG = λ k. matrix_eq f law _ _ (λ i j. diagonal_row f law (m.dim k) (cells m k) (is_cell m k) (G_family k) i j
          ∙ keep (cells m k i) (s.G k i j) (λ e. (shape.G_shape k).past_rows i j (not_cell m k i e)));
      FJ = λ k. matrix_eq f law _ _ (λ i j. diagonal_column f law (m.dim k) (cells m k) (is_cell m k) (F_family k) i j
          ∙ keep (cells m k j) (s.F k i j) (λ e. (shape.F_shape k).past_columns i j (not_cell m k j e)));
    }

    product_zero : (n : ℕ) (x : ℕ → ℕ) (y : ℕ → ℕ) → ((h : ℕ) → x h ≡ 0) → sum f n (λ h. f.times (x h) (y h)) ≡ 0
    product_zero n x y z = sum_zero f law n _ (λ h _. ap (λ (w : ℕ). f.times w (y h)) (z h) ∙ zero_times f law (y h))

    D_D_at : Reduces → (k i j : ℕ) → product f (m.dim k) (s.D k) (s.D (suc k)) i j ≡ 0
    unfolding times_matrix zero_matrix
    D_D_at r zero i j = product_zero (m.dim 0) (s.D 0 i) (λ h. s.D 1 h j) (shape.D_zero i)
    D_D_at r (suc k) i j = entry_eq f law _ _ (r.DD k) i j

    D_F_at : Reduces → (k i j : ℕ) →
        product f (m.dim k) (s.D k) (s.F k) i j ≡ product f (m.dim (k - 1)) (s.F (k - 1)) (m.entry k) i j
    unfolding times_matrix
    D_F_at r zero i j = product_zero (m.dim 0) (s.D 0 i) (λ h. s.F 0 h j) (shape.D_zero i)
        ∙ sym (zero_product (m.dim 0) (s.F 0 i) (λ h. m.entry 0 h j) (λ h. complex.degree_zero h j))
    D_F_at r (suc k) i j = entry_eq f law _ _ (r.DF k) i j
        ∙ sym (ap (λ (d : ℕ). product f (m.dim d) (s.F d) (m.entry (suc k)) i j) (suc_less_one k))

    B_G_at : Reduces → (k i j : ℕ) →
        product f (m.dim k) (m.entry k) (s.G k) i j ≡ product f (m.dim (k - 1)) (s.G (k - 1)) (s.D k) i j
    unfolding times_matrix
    B_G_at r zero i j = product_zero (m.dim 0) (m.entry 0 i) (λ h. s.G 0 h j) (complex.degree_zero i)
        ∙ sym (zero_product (m.dim 0) (s.G 0 i) (λ h. s.D 0 h j) (λ h. shape.D_zero h j))
    B_G_at r (suc k) i j = entry_eq f law _ _ (r.BG k) i j
        ∙ sym (ap (λ (d : ℕ). product f (m.dim d) (s.G d) (s.D (suc k)) i j) (suc_less_one k))

    pub is_reduction : Reduces → IsReduction f m s
    unfolding times_matrix plus_matrix diagonal
    is_reduction r = record {
      shape = shape;
      D_D = D_D_at r;
      D_F = D_F_at r;
      B_G = B_G_at r;
      F_G = λ k i j. entry_eq f law _ _ (r.FG k) i j;
      homotopy = λ k i j. sym (ap (λ (w : ℕ). f.plus (product f (m.dim k) (s.G k) (s.F k) i j)
          (f.plus (product f (m.dim (suc k)) (m.entry (suc k)) (s.H k) i j) w)) (low_H k i j))
          ∙ entry_eq f law _ _ (r.hom k) i j;
    }

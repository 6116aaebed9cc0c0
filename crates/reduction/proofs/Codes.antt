-- Matrices whose entries are codes are an algebra.
--
-- A matrix here carries the proof that its entries are codes, so that no law has a side condition. Two are equal
-- if their entries are.
use Rattle.std.proofs.Common.{◌≡◌, ℕ, ◌<◌, sym, ap, ◌∙◌}
use mathlib.Core.Path.{fun_ext}
use mathlib.Core.HLevel.{Σ_prop_path, Π_prop}
use native.Mathlib.Bridge.{le_prop}
use Rattle.field.specs.Codes.{Codes, IsField}
use Rattle.linear.specs.Sums.{sum}
use Rattle.linear.proofs.Codes.{zero_lt_order, plus_zero_code}
use Rattle.linear.proofs.Sums.{sum_below, sum_ext, sum_plus, sum_swap, times_sum}
use Rattle.reduction.specs.Matrices.{Matrix, product}
use Rattle.reduction.proofs.Algebra.{Algebra}

abbrev pub CodeMatrix : Codes → Type 0
CodeMatrix f = (a : Matrix) × ((i j : ℕ) → a i j < f.order)

module _ (f : Codes) (law : IsField f) where
  pub matrix_eq : (a b : CodeMatrix f) → ((i j : ℕ) → a.0 i j ≡ b.0 i j) → a ≡ b
  matrix_eq a b e = Σ_prop_path (λ x. Π_prop (λ i. Π_prop (λ j. le_prop))) (fun_ext λ i. fun_ext λ j. e i j)

  pub entry_eq : (a b : CodeMatrix f) → a ≡ b → (i j : ℕ) → a.0 i j ≡ b.0 i j
  entry_eq a b e i j = ap (λ (x : CodeMatrix f). x.0 i j) e

  unfoldable pub zero_matrix : CodeMatrix f
  zero_matrix = (λ i j. 0, λ i j. zero_lt_order f law)

  unfoldable pub plus_matrix : CodeMatrix f → CodeMatrix f → CodeMatrix f
  plus_matrix a b = (λ i j. f.plus (a.0 i j) (b.0 i j), λ i j. law.plus_below (a.0 i j) (b.0 i j))

  unfoldable pub minus_matrix : CodeMatrix f → CodeMatrix f
  minus_matrix a = (λ i j. f.minus (a.0 i j), λ i j. law.minus_below (a.0 i j))

  unfoldable pub times_matrix : ℕ → CodeMatrix f → CodeMatrix f → CodeMatrix f
  times_matrix n a b = (product f n a.0 b.0, λ i j. sum_below f law n (λ h. f.times (a.0 i h) (b.0 h j)))

  pub plus_assoc : (a b c : CodeMatrix f) → plus_matrix (plus_matrix a b) c ≡ plus_matrix a (plus_matrix b c)
  unfolding plus_matrix
  plus_assoc a b c = matrix_eq _ _ (λ i j. law.plus_assoc (a.0 i j) (b.0 i j) (c.0 i j))

  pub plus_comm : (a b : CodeMatrix f) → plus_matrix a b ≡ plus_matrix b a
  unfolding plus_matrix
  plus_comm a b = matrix_eq _ _ (λ i j. law.plus_comm (a.0 i j) (b.0 i j))

  pub plus_zero : (a : CodeMatrix f) → plus_matrix a zero_matrix ≡ a
  unfolding plus_matrix zero_matrix
  plus_zero a = matrix_eq _ _ (λ i j. plus_zero_code f law (a.0 i j) (a.1 i j))

  pub plus_minus : (a : CodeMatrix f) → plus_matrix a (minus_matrix a) ≡ zero_matrix
  unfolding plus_matrix minus_matrix zero_matrix
  plus_minus a = matrix_eq _ _ (λ i j. law.plus_minus (a.0 i j))

  pub sum_times : (n c : ℕ) (g : ℕ → ℕ) → f.times (sum f n g) c ≡ sum f n (λ h. f.times (g h) c)
  sum_times n c g =
      law.times_comm (sum f n g) c ∙ times_sum f law c n g
      ∙ sum_ext f law n (λ h. f.times c (g h)) (λ h. f.times (g h) c) (λ h l. law.times_comm c (g h))

  -- sums over two places, in either order
  pub product_assoc : (m n : ℕ) (x : ℕ → ℕ) (y : ℕ → ℕ → ℕ) (z : ℕ → ℕ) →
      sum f n (λ h. f.times (sum f m (λ l. f.times (x l) (y l h))) (z h)) ≡
      sum f m (λ l. f.times (x l) (sum f n (λ h. f.times (y l h) (z h))))
  product_assoc m n x y z =
      sum_ext f law n _ _ (λ h k. sum_times m (z h) (λ l. f.times (x l) (y l h)))
      ∙ sum_swap f law n m (λ h l. f.times (f.times (x l) (y l h)) (z h))
      ∙ sum_ext f law m _ _ (λ l k. sum_ext f law n _ _ (λ h _. law.times_assoc (x l) (y l h) (z h))
      ∙ sym (times_sum f law (x l) n (λ h. f.times (y l h) (z h))))

  pub times_assoc : (m n : ℕ) (a b c : CodeMatrix f) →
      times_matrix n (times_matrix m a b) c ≡ times_matrix m a (times_matrix n b c)
  unfolding times_matrix
  times_assoc m n a b c = matrix_eq _ _ (λ i j. product_assoc m n (a.0 i) b.0 (λ h. c.0 h j))

  pub times_plus : (n : ℕ) (a b c : CodeMatrix f) →
      times_matrix n a (plus_matrix b c) ≡ plus_matrix (times_matrix n a b) (times_matrix n a c)
  unfolding times_matrix plus_matrix
  times_plus n a b c = matrix_eq _ _ (λ i j.
      sum_ext f law n _ _ (λ h l. law.times_plus (a.0 i h) (b.0 h j) (c.0 h j))
      ∙ sum_plus f law n (λ h. f.times (a.0 i h) (b.0 h j)) (λ h. f.times (a.0 i h) (c.0 h j)))

  pub plus_times_code : (x y z : ℕ) → f.times (f.plus x y) z ≡ f.plus (f.times x z) (f.times y z)
  plus_times_code x y z =
      law.times_comm (f.plus x y) z ∙ law.times_plus z x y
      ∙ (λ t. f.plus (law.times_comm z x t) (law.times_comm z y t))

  pub plus_times : (n : ℕ) (a b c : CodeMatrix f) →
      times_matrix n (plus_matrix a b) c ≡ plus_matrix (times_matrix n a c) (times_matrix n b c)
  unfolding times_matrix plus_matrix
  plus_times n a b c = matrix_eq _ _ (λ i j.
      sum_ext f law n _ _ (λ h l. plus_times_code (a.0 i h) (b.0 i h) (c.0 h j))
      ∙ sum_plus f law n (λ h. f.times (a.0 i h) (c.0 h j)) (λ h. f.times (b.0 i h) (c.0 h j)))

  abbrev pub matrices : Algebra (CodeMatrix f)
  matrices = record {
    zer = zero_matrix;
    add = plus_matrix;
    neg = minus_matrix;
    mul = times_matrix;
    add_assoc = plus_assoc;
    add_comm = plus_comm;
    add_zer = plus_zero;
    add_neg = plus_minus;
    mul_assoc = times_assoc;
    mul_add = times_plus;
    add_mul = plus_times;
  }

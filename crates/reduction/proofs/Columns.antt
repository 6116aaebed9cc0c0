-- Chains as matrices with equal columns.
use Rattle.std.proofs.Common.{◌≡◌, ℕ, ◌<◌, ◌≤◌, Bool, true, false, cond, ltb, sym, refl, ap, ◌∙◌, arith, ltb-true, lt-ltb}
use Rattle.std.proofs.lemmas.Bool.Decides.{nat_tests}
use Rattle.field.specs.Codes.{Codes, IsField}
use Rattle.linear.proofs.Codes.{zero_lt_order, zero_times, times_minus, zero_plus_code, plus_zero_code}
use Rattle.linear.proofs.Negatives.{sum_minus}
use Rattle.linear.proofs.Sums.{sum_zero, sum_ext, sum_plus}
use Rattle.reduction.specs.Matrices.{Matrix, Chain, apply, difference}
use Rattle.reduction.specs.Chains.{AreCodes}
use Rattle.reduction.proofs.Codes.{CodeMatrix, times_matrix}

module _ (f : Codes) (law : IsField f) where
  code_where : (t : Bool) (x : ℕ) → (t ≡ true → x < f.order) → cond t x 0 < f.order
  code_where true x l = l refl
  code_where false x l = zero_lt_order f law

  -- the codes of a chain at n places, and 0 further down, in every column
  unfoldable pub column : (n : ℕ) (z : Chain) → AreCodes f n z → CodeMatrix f
  unfolding code_where
  column n z codes = (λ i j. cond (ltb i n) (z i) 0, λ i j. code_where (ltb i n) (z i) (λ t. codes i (ltb-true i n t)))

  pub column_at : (n : ℕ) (z : Chain) (codes : AreCodes f n z) (i j : ℕ) → i < n → (column n z codes).0 i j ≡ z i
  unfolding column
  column_at n z codes i j l = ap (λ t. cond t (z i) 0) (lt-ltb i n l)

  pub column_past : (n : ℕ) (z : Chain) (codes : AreCodes f n z) (i j : ℕ) → n ≤ i → (column n z codes).0 i j ≡ 0
  unfolding column
  column_past n z codes i j l = grind (arith, nat_tests)

  pub apply_column : (n : ℕ) (a : CodeMatrix f) (z : Chain) (codes : AreCodes f n z) (i j : ℕ) →
      (times_matrix f law n a (column n z codes)).0 i j ≡ apply f n a.0 z i
  unfolding times_matrix
  apply_column n a z codes i j = sum_ext f law n _ _ (λ h l. ap (f.times (a.0 i h)) (column_at n z codes h j l))

  pub apply_difference : (n : ℕ) (a : Matrix) (z y : Chain) (i : ℕ) →
      apply f n a (difference f z y) i ≡ difference f (apply f n a z) (apply f n a y) i
  apply_difference n a z y i =
      sum_ext f law n _ (λ h. f.plus (f.times (a i h) (z h)) (f.minus (f.times (a i h) (y h))))
      (λ h _. law.times_plus (a i h) (z h) (f.minus (y h))
      ∙ ap (f.plus (f.times (a i h) (z h))) (times_minus f law (a i h) (y h)))
      ∙ sum_plus f law n (λ h. f.times (a i h) (z h)) (λ h. f.minus (f.times (a i h) (y h)))
      ∙ ap (f.plus (apply f n a z i)) (sum_minus f law n (λ h. f.times (a i h) (y h)))

  pub apply_zero_row : (n : ℕ) (a : Matrix) (z : Chain) (i : ℕ) → ((h : ℕ) → a i h ≡ 0) → apply f n a z i ≡ 0
  apply_zero_row n a z i e = sum_zero f law n _ (λ h _. ap (λ (w : ℕ). f.times w (z h)) (e h) ∙ zero_times f law (z h))

  -- codes that differ by zero are equal
  pub difference_zero : (x y : ℕ) → x < f.order → y < f.order → f.plus x (f.minus y) ≡ 0 → x ≡ y
  difference_zero x y lx ly e =
      sym (plus_zero_code f law x lx) ∙ ap (f.plus x) (sym (law.plus_minus y) ∙ law.plus_comm y (f.minus y))
      ∙ sym (law.plus_assoc x (f.minus y) y) ∙ ap (λ (w : ℕ). f.plus w y) e ∙ zero_plus_code f law y ly

  pub difference_same : (x y : ℕ) → x ≡ y → f.plus x (f.minus y) ≡ 0
  difference_same x y e = ap (λ (w : ℕ). f.plus w (f.minus y)) e ∙ law.plus_minus y

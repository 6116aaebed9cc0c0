-- The entries of products with a matrix that stands under a test and has one entry.
use Rattle.std.proofs.Common.{◌≡◌, ℕ, ◌<◌, Bool, true, false, cond, eqb, refl, ap, ◌∙◌}
use Rattle.field.specs.Codes.{Codes, IsField}
use Rattle.linear.proofs.Codes.{one_lt_order, times_zero, zero_times, times_one_code}
use Rattle.linear.proofs.Sums.{sum_zero, sum_ext}
use Rattle.reduction.proofs.Codes.{CodeMatrix, matrices, times_matrix, zero_matrix}
use Rattle.reduction.proofs.Units.{unit, unit_row, unit_column, one_times, sum_at, times_cond}
use Rattle.reduction.proofs.Tests.{only}

module _ (f : Codes) (law : IsField f) where
  -- row a of a matrix, at row a
  pub only_row : (t : Bool) (n a : ℕ) (m : CodeMatrix f) (i j : ℕ) → (t ≡ true → a < n) →
      (times_matrix f law n (only (matrices f law) t (unit f law a a 1 (one_lt_order f law))) m).0 i j ≡
      cond t (cond (eqb i a) (m.0 a j) 0) 0
  only_row true n a m i j inside =
      unit_row f law n a a 1 (one_lt_order f law) m i j (inside refl)
      ∙ ap (λ (w : ℕ). cond (eqb i a) w 0) (one_times f law (m.0 a j) (m.1 a j))
  only_row false n a m i j inside = unfold times_matrix in unfold zero_matrix in
      sum_zero f law n _ (λ h _. zero_times f law (m.0 h j))

  -- column b of a matrix, at column b
  pub only_column : (t : Bool) (n b : ℕ) (m : CodeMatrix f) (i j : ℕ) → (t ≡ true → b < n) →
      (times_matrix f law n m (only (matrices f law) t (unit f law b b 1 (one_lt_order f law)))).0 i j ≡
      cond t (cond (eqb j b) (m.0 i b) 0) 0
  only_column true n b m i j inside =
      unit_column f law n b b 1 (one_lt_order f law) m i j (inside refl)
      ∙ ap (λ (w : ℕ). cond (eqb j b) w 0) (times_one_code f law (m.0 i b) (m.1 i b))
  only_column false n b m i j inside = unfold times_matrix in unfold zero_matrix in
      sum_zero f law n _ (λ h _. times_zero f law (m.0 i h))

  -- column a of one matrix times row b of another
  pub only_between : (t : Bool) (n k a b v : ℕ) (l : v < f.order) (x y : CodeMatrix f) (i j : ℕ) →
      (t ≡ true → a < n) → (t ≡ true → b < k) →
      (times_matrix f law n x (times_matrix f law k (only (matrices f law) t (unit f law a b v l)) y)).0 i j ≡
      cond t (f.times (x.0 i a) (f.times v (y.0 b j))) 0
  only_between true n k a b v l x y i j ina inb = unfold times_matrix in (
      sum_ext f law n _ (λ h. cond (eqb h a) (f.times (x.0 i h) (f.times v (y.0 b j))) 0)
      (λ h _. ap (f.times (x.0 i h)) (unit_row f law k a b v l y h j (inb refl))
      ∙ times_cond f law (x.0 i h) (eqb h a) (f.times v (y.0 b j)))
      ∙ sum_at f law n a (λ h. f.times (x.0 i h) (f.times v (y.0 b j))) (ina refl) (law.times_below _ _))
  only_between false n k a b v l x y i j ina inb = unfold times_matrix in unfold zero_matrix in
      sum_zero f law n _ (λ h _. ap (f.times (x.0 i h)) (sum_zero f law k _ (λ g _. zero_times f law (y.0 g j)))
      ∙ times_zero f law (x.0 i h))

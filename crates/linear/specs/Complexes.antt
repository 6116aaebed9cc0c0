-- Chain complexes over a field of codes: what a complex means, its law and its limits.
use Rattle.std.specs.Prelude.{◌≡◌, ℕ, suc, ◌+◌, ◌-◌, ◌<◌, ◌≤◌}
use Rattle.field.specs.Codes.{Codes}
use Rattle.linear.specs.Sums.{sum, total}

-- the top degree, the number of cells of each degree, and the boundaries: entry k i j stands at row i and
-- column j of the matrix from degree k to degree k - 1
pub record Meaning : Type 0 where
  pub top : ℕ
  pub dim : ℕ → ℕ
  pub entry : ℕ → ℕ → ℕ → ℕ

-- the law: entries are codes, nothing stands outside the degrees 0 to top and outside the matrices of the
-- degrees 1 to top, and two consecutive boundaries compose to zero
pub record IsComplex (f : Codes) (m : Meaning) : Type 0 where
  pub below : (k i j : ℕ) → m.entry k i j < f.order
  pub above_top : (k : ℕ) → m.top < k → m.dim k ≡ 0
  pub degree_zero : (i j : ℕ) → m.entry 0 i j ≡ 0
  pub rows : (k i j : ℕ) → m.dim (k - 1) ≤ i → m.entry k i j ≡ 0
  pub columns : (k i j : ℕ) → m.dim k ≤ j → m.entry k i j ≡ 0
  pub square : (k i j : ℕ) → sum f (m.dim k) (λ h. f.times (m.entry k i h) (m.entry (k + 1) h j)) ≡ 0

-- the limits of a complex that the head works on
pub record WithinLimits (m : Meaning) : Type 0 where
  pub top : m.top ≤ 8
  pub cells : total (suc m.top) m.dim ≤ 1024

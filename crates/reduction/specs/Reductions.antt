-- Reductions of a complex to its survivors.
--
-- The survivors are the live cells, with boundaries D. F carries chains of the complex to the survivors, G carries
-- them back, and H is a homotopy: with B for the boundaries of the complex, a chain z and G F z differ by
-- B H z + H B z. D, F, G and H are families of matrices by degree: D k goes from degree k to degree k - 1, F k and
-- G k stay in degree k, and H k goes from degree k to degree k + 1. In degree 0 both B and D are 0, so that what
-- passes through degree k - 1 counts for nothing there. Above the top degree there are no cells.
use Rattle.std.specs.Prelude.{◌≡◌, ℕ, suc, ◌-◌, ◌<◌, Bool, true, false, nat_lt}
use Rattle.field.specs.Codes.{Codes}
use Rattle.linear.specs.Complexes.{Meaning}
use Rattle.reduction.specs.Matrices.{Matrix, IsMatrix, product, identity_on}

-- which cells are live, by degree and number, and the four families
pub record State : Type 0 where
  pub live : ℕ → ℕ → Bool
  pub D : ℕ → Matrix
  pub F : ℕ → Matrix
  pub G : ℕ → Matrix
  pub H : ℕ → Matrix

-- the cells of a degree
abbrev pub cells : Meaning → ℕ → ℕ → Bool
cells m k i = nat_lt i (m.dim k)

-- the shapes of the families, with 0 at dead cells
pub record HasShape (f : Codes) (m : Meaning) (s : State) : Type 0 where
  pub live_cells : (k i : ℕ) → s.live k i ≡ true → i < m.dim k
  pub D_shape : (k : ℕ) → IsMatrix f (m.dim (k - 1)) (m.dim k) (s.D k)
  pub F_shape : (k : ℕ) → IsMatrix f (m.dim k) (m.dim k) (s.F k)
  pub G_shape : (k : ℕ) → IsMatrix f (m.dim k) (m.dim k) (s.G k)
  pub H_shape : (k : ℕ) → IsMatrix f (m.dim (suc k)) (m.dim k) (s.H k)
  pub D_zero : (i j : ℕ) → s.D 0 i j ≡ 0
  pub D_rows : (k i j : ℕ) → s.live (k - 1) i ≡ false → s.D k i j ≡ 0
  pub D_columns : (k i j : ℕ) → s.live k j ≡ false → s.D k i j ≡ 0
  pub F_rows : (k i j : ℕ) → s.live k i ≡ false → s.F k i j ≡ 0
  pub G_columns : (k i j : ℕ) → s.live k j ≡ false → s.G k i j ≡ 0

-- G F + B H + H B in degree k, which a reduction makes the identity
abbrev pub identity_sum : Codes → Meaning → State → ℕ → Matrix
identity_sum f m s k i j =
    f.plus (product f (m.dim k) (s.G k) (s.F k) i j)
    (f.plus (product f (m.dim (suc k)) (m.entry (suc k)) (s.H k) i j)
    (product f (m.dim (k - 1)) (s.H (k - 1)) (m.entry k) i j))

-- a reduction: D D = 0, D F = F B, B G = G D, F G is the identity on live cells, and 1 - G F = B H + H B
pub record IsReduction (f : Codes) (m : Meaning) (s : State) : Type 0 where
  pub shape : HasShape f m s
  pub D_D : (k i j : ℕ) → product f (m.dim k) (s.D k) (s.D (suc k)) i j ≡ 0
  pub D_F : (k i j : ℕ) →
      product f (m.dim k) (s.D k) (s.F k) i j ≡ product f (m.dim (k - 1)) (s.F (k - 1)) (m.entry k) i j
  pub B_G : (k i j : ℕ) →
      product f (m.dim k) (m.entry k) (s.G k) i j ≡ product f (m.dim (k - 1)) (s.G (k - 1)) (s.D k) i j
  pub F_G : (k i j : ℕ) → product f (m.dim k) (s.F k) (s.G k) i j ≡ identity_on (s.live k) i j
  pub homotopy : (k i j : ℕ) → identity_sum f m s k i j ≡ identity_on (cells m k) i j

-- the state of a complex before any cancel: all cells are live, D = B, F = G = 1, H = 0
abbrev pub loaded : Meaning → State
loaded m = record {
  live = cells m;
  D = m.entry;
  F = λ k. identity_on (cells m k);
  G = λ k. identity_on (cells m k);
  H = λ _ _ _. 0;
}

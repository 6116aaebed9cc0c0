-- Chains of a complex, cycles, boundaries and Betti numbers.
--
-- A chain of degree k has a code for each cell of degree k; what it has at other places does not count. In
-- degree 0 every chain is a cycle, since the boundary matrix of degree 0 is 0. In the top degree only the
-- zero chain is a boundary, since there are no cells above it.
use Rattle.std.specs.Prelude.{◌≡◌, ℕ, suc, ◌<◌, ◌≤◌}
use Rattle.field.specs.Codes.{Codes}
use Rattle.linear.specs.Complexes.{Meaning}
use Rattle.reduction.specs.Matrices.{Chain, apply, Same, combination}

-- a code for each of n places
abbrev pub AreCodes : Codes → ℕ → Chain → Type 0
AreCodes f n c = (j : ℕ) → j < n → c j < f.order

-- the boundary of a chain of degree k, a chain of degree k - 1
abbrev pub boundary : Codes → Meaning → ℕ → Chain → Chain
boundary f m k = apply f (m.dim k) (m.entry k)

-- a chain of degree k without boundary
pub record IsCycle (f : Codes) (m : Meaning) (k : ℕ) (z : Chain) : Type 0 where
  pub codes : AreCodes f (m.dim k) z
  pub closed : (i : ℕ) → boundary f m k z i ≡ 0

-- a chain of degree k that is the boundary of the chain w of degree k + 1
pub record Bounds (f : Codes) (m : Meaning) (k : ℕ) (w z : Chain) : Type 0 where
  pub codes : AreCodes f (m.dim (suc k)) w
  pub bounds : Same (m.dim k) (boundary f m (suc k) w) z

-- a chain of degree k that is the boundary of some chain
abbrev pub IsBoundary : Codes → Meaning → ℕ → Chain → Type 0
IsBoundary f m k z = (w : Chain) × Bounds f m k w z

-- n cycles of degree k that are independent up to boundaries: if codes times the cycles add up to a boundary, the codes
-- are all 0
pub record AreIndependent (f : Codes) (m : Meaning) (k n : ℕ) (z : ℕ → Chain) : Type 0 where
  pub cycles : (s : ℕ) → s < n → IsCycle f m k (z s)
  pub free : (c : ℕ → ℕ) → AreCodes f n c → IsBoundary f m k (combination f n c z) → (s : ℕ) → s < n → c s ≡ 0

-- the Betti number of degree k: so many cycles are independent up to boundaries, and no more are
pub record IsBetti (f : Codes) (m : Meaning) (k b : ℕ) : Type 0 where
  pub reached : (z : ℕ → Chain) × AreIndependent f m k b z
  pub largest : (n : ℕ) (z : ℕ → Chain) → AreIndependent f m k n z → n ≤ b

-- Dependence of chains over a field: more chains than places are dependent.
use Rattle.std.specs.Prelude.{◌≡◌, ℕ, ◌<◌, Bool, true, ◌≢◌}
use Rattle.field.specs.Codes.{Codes}
use Rattle.reduction.specs.Matrices.{Chain, combination}
use Rattle.reduction.specs.Chains.{AreCodes}

-- n chains have a combination with a coefficient that is not 0, and 0 at each place below the bound that passes
-- a test
pub record AreDependent (f : Codes) (test : ℕ → Bool) (bound n : ℕ) (z : ℕ → Chain) : Type 0 where
  pub coefficients : ℕ → ℕ
  pub codes : AreCodes f n coefficients
  pub nonzero : (s : ℕ) × (s < n) × (coefficients s ≢ 0)
  pub vanish : (i : ℕ) → i < bound → test i ≡ true → combination f n coefficients z i ≡ 0

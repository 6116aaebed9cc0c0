-- The class codes of cycles, and boundaries among the survivors.
--
-- The class codes of a chain of degree k stand at the cells of degree k; at dead cells they are 0.
use Rattle.std.specs.Prelude.{◌≡◌, ℕ, suc, false}
use Rattle.field.specs.Codes.{Codes}
use Rattle.linear.specs.Complexes.{Meaning}
use Rattle.reduction.specs.Matrices.{Chain, apply, Same}
use Rattle.reduction.specs.Chains.{AreCodes, IsCycle}
use Rattle.reduction.specs.Reductions.{State}

-- the class codes of a chain of degree k
abbrev pub class_codes : Codes → Meaning → State → ℕ → Chain → Chain
class_codes f m s k = apply f (m.dim k) (s.F k)

-- the combination of the columns of G with given coefficients, a chain of degree k
abbrev pub cycle_of : Codes → Meaning → State → ℕ → Chain → Chain
cycle_of f m s k = apply f (m.dim k) (s.G k)

-- codes at the live cells of degree k, and 0 at dead ones
pub record IsOnLive (f : Codes) (m : Meaning) (s : State) (k : ℕ) (c : Chain) : Type 0 where
  pub codes : AreCodes f (m.dim k) c
  pub dead : (j : ℕ) → s.live k j ≡ false → c j ≡ 0

-- codes of degree k that are D times codes at live cells of degree k + 1
pub record BoundsSurvivors (f : Codes) (m : Meaning) (s : State) (k : ℕ) (w c : Chain) : Type 0 where
  pub on_live : IsOnLive f m s (suc k) w
  pub bounds : Same (m.dim k) (apply f (m.dim (suc k)) (s.D (suc k)) w) c

-- codes of degree k that are a boundary among the survivors
abbrev pub IsSurvivorBoundary : Codes → Meaning → State → ℕ → Chain → Type 0
IsSurvivorBoundary f m s k c = (w : Chain) × BoundsSurvivors f m s k w c

-- the codes c are the class codes of exactly one combination of the columns of G, and that is a cycle
pub record HasOneCycle (f : Codes) (m : Meaning) (s : State) (k : ℕ) (c : Chain) : Type 0 where
  pub coefficients : Chain
  pub on_live : IsOnLive f m s k coefficients
  pub cycle : IsCycle f m k (cycle_of f m s k coefficients)
  pub reached : Same (m.dim k) (class_codes f m s k (cycle_of f m s k coefficients)) c
  pub only : (x : Chain) → IsOnLive f m s k x → Same (m.dim k) (class_codes f m s k (cycle_of f m s k x)) c →
      Same (m.dim k) x coefficients

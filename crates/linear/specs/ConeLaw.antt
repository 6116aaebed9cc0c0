-- What makes a complex the mapping cone of a chain map, part by part.
--
-- Each matrix has two groups of columns and two of rows, those of the source before those of the target. A row or
-- column of the source belongs to a cell one degree below its place in the cone; so the matrix into degree 0 has no row
-- of the source.
use Rattle.std.specs.Prelude.{◌≡◌, ℕ, suc, ◌+◌, ◌<◌, max}
use Rattle.field.specs.Codes.{Codes}
use Rattle.linear.specs.Complexes.{Meaning}
use Rattle.linear.specs.ChainMaps.{MapMeaning}
use Rattle.linear.specs.Cone.{from_source}

pub record IsCone (f : Codes) (m : MapMeaning) (c : Meaning) : Type 0 where
  pub top : c.top ≡ max m.target.top (suc m.source.top)
  pub dim_zero : c.dim 0 ≡ m.target.dim 0
  pub dim : (k : ℕ) → c.dim (suc k) ≡ m.source.dim k + m.target.dim (suc k)
  -- a source's cell has minus the source's boundary, and minus its image
  pub source_source :
      (k i j : ℕ) → i < from_source m k → j < m.source.dim k →
      c.entry (suc k) i j ≡ f.minus (m.source.entry k i j)
  pub target_source :
      (k i j : ℕ) → j < m.source.dim k → c.entry (suc k) (from_source m k + i) j ≡ f.minus (m.entry k i j)
  -- a target's cell has the target's boundary
  pub source_target : (k i j : ℕ) → i < from_source m k → c.entry (suc k) i (m.source.dim k + j) ≡ 0
  pub target_target :
      (k i j : ℕ) → c.entry (suc k) (from_source m k + i) (m.source.dim k + j) ≡ m.target.entry (suc k) i j

-- Chain maps: what a map between two complexes over one field means, and its law.
use Rattle.std.specs.Prelude.{◌≡◌, ℕ, suc, ◌<◌, ◌≤◌}
use Rattle.field.specs.Codes.{Codes}
use Rattle.linear.specs.Complexes.{Meaning, IsComplex}
use Rattle.linear.specs.Sums.{sum}

-- the two complexes, and the matrices: entry k i j stands at the row of the target's cell i and the column of the
-- source's cell j, both of degree k
pub record MapMeaning : Type 0 where
  pub source : Meaning
  pub target : Meaning
  pub entry : ℕ → ℕ → ℕ → ℕ

-- the law: both are complexes, entries are codes, nothing stands outside the matrices, and to map and then take the
-- boundary is to take the boundary and then map
pub record IsChainMap (f : Codes) (m : MapMeaning) : Type 0 where
  pub source : IsComplex f m.source
  pub target : IsComplex f m.target
  pub below : (k i j : ℕ) → m.entry k i j < f.order
  pub rows : (k i j : ℕ) → m.target.dim k ≤ i → m.entry k i j ≡ 0
  pub columns : (k i j : ℕ) → m.source.dim k ≤ j → m.entry k i j ≡ 0
  pub commutes :
      (k i j : ℕ) →
      sum f (m.target.dim (suc k)) (λ h. f.times (m.target.entry (suc k) i h) (m.entry (suc k) h j))
      ≡ sum f (m.source.dim k) (λ h. f.times (m.entry k i h) (m.source.entry (suc k) h j))

-- The inclusion of one closed list of cells in another, as a chain map of their leaves.
--
-- Cells are compared by rank, since a cell may have different numbers in the two lists. Outside the matrices stands 0.
-- The empty list is included in every list.
use Rattle.std.specs.Prelude.{◌≡◌, ℕ, true, cond, List, Some, None, Option, ◌==◌}
use Rattle.std.specs.List.{AllByRecursion, slice_get}
use Rattle.field.specs.Codes.{Codes}
use Rattle.linear.specs.ChainMaps.{MapMeaning}
use Rattle.cell.specs.Kind.{Kind}
use Rattle.index.specs.Closed.{held}
use Rattle.complex.specs.Leaf.{of_degree, leaf}
use Rattle.complex.specs.Starts.{Sound}

-- 1 where both cells are there and are the same, else 0
abbrev pub same_cell : {K : Type 0} → Kind K → Option K → Option K → ℕ
same_cell k None c = 0
same_cell k (Some g) None = 0
same_cell k (Some g) (Some c) = cond (k.rank g == k.rank c) 1 0

-- the map from the leaf of the list bs to the leaf of the list cs
abbrev pub inclusion : {K : Type 0} → Codes → Kind K → List K → List K → MapMeaning
inclusion f k bs cs = record {
  source = leaf f k bs;
  target = leaf f k cs;
  entry = λ d i j. same_cell k (slice_get (of_degree k d cs) i) (slice_get (of_degree k d bs) j);
}

-- each cell of bs stands in cs
abbrev pub Included : {K : Type 0} → Kind K → List K → List K → Type 0
Included k bs cs = AllByRecursion (λ b. held k (k.rank b) cs ≡ true) bs

-- what an inclusion is made of: two sound leaves, and that the one list is included in the other
pub record SoundInclusion {K : Type 0} (k : Kind K) (bs cs : List K) (ps qs : List ℕ) : Type 0 where
  pub smaller : Sound k bs ps
  pub larger : Sound k cs qs
  pub included : Included k bs cs

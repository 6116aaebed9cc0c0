-- Closed lists of cells.
--
-- Two valid cells are the same cell exactly if their ranks are equal, so "stands in the list" is asked by rank.
-- The empty list is closed.
use Rattle.std.specs.Prelude.{◌≡◌, ℕ, ◌<◌, ◌≤◌, Bool, true, false, cond, List, [], ◌∷◌, length, ◌==◌}
use Rattle.std.specs.List.{AllByRecursion}
use Rattle.cell.specs.Kind.{Kind}

module _ {K : Type 0} (k : Kind K) where
  -- whether a cell of the rank r stands in the list
  abbrev pub held : ℕ → List K → Bool
  held r [] = false
  held r (c ∷ cs) = cond (k.rank c == r) true (held r cs)

  -- each cell stands above the one before it, and so above all before it
  abbrev pub Ascending : List K → Type 0
  Ascending [] = Unit {0}
  Ascending (c ∷ cs) = AllByRecursion (λ d. k.rank c < k.rank d) cs × Ascending cs

  -- the list has every face of the cell c
  abbrev pub HasFaces : List K → K → Type 0
  HasFaces cs c = AllByRecursion (λ f. held (k.rank f.cell) cs ≡ true) (k.faces c)

-- valid cells, no more than 1,024 and each above the one before, none of which lacks a face in the list
pub record Closed {K : Type 0} (k : Kind K) (cs : List K) : Type 0 where
  pub few : length cs ≤ 1024
  pub valid : AllByRecursion (λ c. k.valid c ≡ true) cs
  pub ascending : Ascending k cs
  pub faces : AllByRecursion (HasFaces k cs) cs

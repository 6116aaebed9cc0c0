-- The places at which the degrees start in an ascending list of cells, where lower degrees come first.
use Rattle.std.specs.Prelude.{◌≡◌, ℕ, ◌≤◌, List, length, filter, nat_lt, slice_index}
use Rattle.cell.specs.Kind.{Kind}
use Rattle.index.specs.Closed.{Closed}

-- the cells of the degrees below d
abbrev pub below_degree : {K : Type 0} → Kind K → ℕ → List K → List K
below_degree k d cs = filter (λ c. nat_lt (k.degree c) d) cs

-- the places at which the degrees 0 to 3 start, and the place at which degree 3 ends
pub record Starts {K : Type 0} (k : Kind K) (cs : List K) (places : List ℕ) : Type 0 where
  pub five : length places ≡ 5
  pub at : (d : ℕ) → d ≤ 4 → slice_index places d ≡ length (below_degree k d cs)

-- what a leaf is made of: a closed list, and the places at which its degrees start
pub record Sound {K : Type 0} (k : Kind K) (cs : List K) (places : List ℕ) : Type 0 where
  pub closed : Closed k cs
  pub starts : Starts k cs places

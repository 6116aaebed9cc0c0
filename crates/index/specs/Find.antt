-- Where a cell stands in a list: the place of a cell of the same rank, if there is one.
--
-- Nothing is assumed of the list or of the cell; what an answer is worth grows with what is known of them.
use Rattle.std.specs.Prelude.{◌≡◌, ℕ, ◌<◌, true, List, length, is_some, IfSome, Some, Option, slice_index_or}
use Rattle.std.specs.List.{AllByRecursion, slice_get}
use Rattle.cell.specs.Kind.{Kind}
use Rattle.index.specs.Closed.{held, Ascending}

module _ {K : Type 0} (k : Kind K) (cs : List K) (c : K) where
  -- at n stands a cell of the rank of c
  abbrev pub AtRank : ℕ → Type 0
  AtRank n = (n < length cs) × (k.rank (slice_index_or cs n c) ≡ k.rank c)

  -- at n stands c
  abbrev pub Is : ℕ → Type 0
  Is n = slice_get cs n ≡ Some c

  pub record Finds (r : Option ℕ) : Type 0 where
    pub found : IfSome r AtRank
    -- among valid cells a cell of the rank of c is c
    pub same : k.valid c ≡ true → AllByRecursion (λ d. k.valid d ≡ true) cs → IfSome r Is
    -- in an ascending list there is an answer exactly if there is a cell of the rank of c
    pub exact : Ascending k cs → is_some r ≡ held k (k.rank c) cs

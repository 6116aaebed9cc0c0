-- The tensor of two complexes over one field.
--
-- Its cells are the pairs of a cell of each, and the degrees of the two add up. The pairs of one degree are put in
-- order by the degree of their left cell; where that is the same, by the left cell, and then by the right one. A pair's
-- boundary takes the faces of one cell beside the other cell: those of the left cell as they are, those of the right
-- cell with a minus if the left cell's degree is odd. If one complex has no cells, there is no pair; in degree 0 there
-- is no boundary.
use Rattle.std.specs.Prelude.{ℕ, zero, suc, ◌+◌, ◌-◌, ◌*◌, ◌/◌, ◌%◌, cond, Some, None, Option, ◌==◌, nat_lt}
use Rattle.field.specs.Codes.{Codes}
use Rattle.linear.specs.Complexes.{Meaning}
use Rattle.linear.specs.Sums.{total}

-- a pair by the degree p and the number i of its left cell, and the number j of its right cell
pub record Pair : Type 0 where
  pub p : ℕ
  pub i : ℕ
  pub j : ℕ

-- of blocks that lie one after another, the first m: the block in which n lies, and its place there
abbrev pub locate : (ℕ → ℕ) → ℕ → ℕ → Option (ℕ × ℕ)
locate size zero n = None
locate size (suc m) n =
    cond (nat_lt n (total m size)) (locate size m n)
    (cond (nat_lt n (total (suc m) size)) (Some (m, n - total m size)) None)

module _ (c d : Meaning) where
  -- how many pairs of degree k have their first cell in degree p
  abbrev pub block : ℕ → ℕ → ℕ
  block k p = c.dim p * d.dim (k - p)

  -- the number of a pair of degree k
  abbrev pub number : ℕ → Pair → ℕ
  number k x = total x.p (block k) + (x.i * d.dim (k - x.p) + x.j)

  -- the pair at a place of a block
  abbrev pub pair_in : ℕ → Option (ℕ × ℕ) → Option Pair
  pair_in k None = None
  pair_in k (Some at) = Some (record { p = at.0; i = at.1 / d.dim (k - at.0); j = at.1 % d.dim (k - at.0) })

  -- the pair of degree k with the number n
  abbrev pub pair_at : ℕ → ℕ → Option Pair
  pair_at k n = pair_in k (locate (block k) (suc k) n)

-- a code with the sign (-1)^p
abbrev pub signed : Codes → ℕ → ℕ → ℕ
signed f p x = cond (p % 2 == 0) x (f.minus x)

module _ (f : Codes) (c d : Meaning) where
  -- the entry of the boundary of degree k at the row of a pair x and the column of a pair y, where both are there
  abbrev pub between : ℕ → Option Pair → Option Pair → ℕ
  between k None y = 0
  between k (Some x) None = 0
  between k (Some x) (Some y) =
      cond (suc x.p == y.p)
      (cond (x.j == y.j) (c.entry y.p x.i y.i) 0)
      (cond (x.p == y.p)
      (cond (x.i == y.i) (signed f y.p (d.entry (k - y.p) x.j y.j)) 0)
      0)

  -- the entry at row r and column s of the boundary of degree k
  abbrev pub tensor_entry : ℕ → ℕ → ℕ → ℕ
  tensor_entry zero r s = 0
  tensor_entry (suc k) r s = between (suc k) (pair_at c d k r) (pair_at c d (suc k) s)

  -- the tensor of c and d
  abbrev pub tensor : Meaning
  tensor = record {
    top = c.top + d.top;
    dim = λ k. total (suc k) (block c d k);
    entry = tensor_entry;
  }

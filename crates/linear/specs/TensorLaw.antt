-- What the tensor of two complexes is: its cells are the pairs of their cells, numbered in order, and its boundary
-- is that of the left cell, and that of the right cell with a sign.
--
-- Nothing is assumed of the two complexes. If one has no cells, there is no pair. In degree 0 there is no boundary.
use Rattle.std.specs.Prelude.{◌≡◌, ℕ, suc, ◌+◌, ◌-◌, ◌<◌, ◌≤◌, ◌⊎◌}
use Rattle.field.specs.Codes.{Codes}
use Rattle.linear.specs.Complexes.{Meaning}
use Rattle.linear.specs.Tensor.{Pair, number, signed}

-- a pair is one of degree k: its two cells are there, and their degrees add up to k
pub record IsPair (c d : Meaning) (k : ℕ) (x : Pair) : Type 0 where
  pub degree : x.p ≤ k
  pub left : x.i < c.dim x.p
  pub right : x.j < d.dim (k - x.p)

-- the order of pairs: by p, then by i, then by j
abbrev pub Before : Pair → Pair → Type 0
Before x y = (x.p < y.p) ⊎ ((x.p ≡ y.p) × ((x.i < y.i) ⊎ ((x.i ≡ y.i) × (x.j < y.j))))

-- y has x in its boundary by a face of its left cell, or of its right cell
abbrev pub ByLeft : Pair → Pair → Type 0
ByLeft x y = (suc x.p ≡ y.p) × (x.j ≡ y.j)

abbrev pub ByRight : Pair → Pair → Type 0
ByRight x y = (x.p ≡ y.p) × (x.i ≡ y.i)

-- m is the tensor of c and d: the numbers below a dimension are those of the pairs, in their order, each once, and
-- an entry is C's, or D's with the sign (-1)^p, or 0
pub record IsTensor (f : Codes) (c d m : Meaning) : Type 0 where
  pub top : m.top ≡ c.top + d.top
  pub within : (k : ℕ) (x : Pair) → IsPair c d k x → number c d k x < m.dim k
  pub every : (k n : ℕ) → n < m.dim k → (x : Pair) × (IsPair c d k x) × (number c d k x ≡ n)
  pub ascending :
      (k : ℕ) (x y : Pair) → IsPair c d k x → IsPair c d k y → Before x y → number c d k x < number c d k y
  pub left :
      (k : ℕ) (x y : Pair) → IsPair c d k x → IsPair c d (suc k) y → ByLeft x y →
      m.entry (suc k) (number c d k x) (number c d (suc k) y) ≡ c.entry y.p x.i y.i
  pub right :
      (k : ℕ) (x y : Pair) → IsPair c d k x → IsPair c d (suc k) y → ByRight x y →
      m.entry (suc k) (number c d k x) (number c d (suc k) y)
      ≡ signed f y.p (d.entry (suc k - y.p) x.j y.j)
  pub elsewhere :
      (k : ℕ) (x y : Pair) → IsPair c d k x → IsPair c d (suc k) y → (ByLeft x y → ⊥) → (ByRight x y → ⊥) →
      m.entry (suc k) (number c d k x) (number c d (suc k) y) ≡ 0

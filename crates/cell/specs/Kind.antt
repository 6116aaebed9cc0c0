-- Kinds of cells: what a kind tells of each cell, and the three laws of a kind.
--
-- A value whose numbers make no cell is not valid; the laws speak of valid cells only.
use Rattle.std.specs.Prelude.{◌≡◌, ℕ, suc, ◌+◌, ◌<◌, ◌≤◌, Bool, true, false, cond, List, [], ◌∷◌, ◌==◌, ◌≢◌}
use Rattle.std.specs.List.{AllByRecursion}
use Rattle.cell.specs.declared.Sign.{Sign}
use Rattle.cell.specs.declared.Sign.TheVariants.{Plus, Minus}
use Rattle.cell.specs.declared.Face.{Face}

-- what a kind of cells tells of each: whether it is a cell, its degree, its rank in the order of all
-- cells of the kind, and its faces, each a cell with a sign, in order
pub record Kind (K : Type 0) : Type 0 where
  pub valid : K → Bool
  pub degree : K → ℕ
  pub rank : K → ℕ
  pub faces : K → List (Face K)

-- the sign of a product
abbrev pub product : Sign → Sign → Sign
product Plus s = s
product Minus Plus = Minus
product Minus Minus = Plus

-- whether two signs are the same
abbrev pub alike : Sign → Sign → Bool
alike Plus Plus = true
alike Plus Minus = false
alike Minus Plus = false
alike Minus Minus = true

module _ {K : Type 0} (k : Kind K) where
  -- how often g stands in a list of faces with the sign s
  abbrev pub hits : Sign → K → List (Face K) → ℕ
  hits s g [] = 0
  hits s g (f ∷ fs) = cond (alike s f.sign) (cond (k.rank f.cell == k.rank g) 1 0) 0 + hits s g fs

  -- how often g stands among the faces of the listed faces, where the two signs have the product s
  abbrev pub ways : Sign → K → List (Face K) → ℕ
  ways s g [] = 0
  ways s g (f ∷ fs) = hits (product s f.sign) g (k.faces f.cell) + ways s g fs

  -- the listed faces are distinct cells of the degree below d
  abbrev pub Faces : ℕ → List (Face K) → Type 0
  Faces d [] = Unit {0}
  Faces d (f ∷ fs) =
      (k.valid f.cell ≡ true) × (suc (k.degree f.cell) ≡ d)
      × AllByRecursion (λ g. k.rank g.cell ≢ k.rank f.cell) fs × Faces d fs

-- the laws of a kind of cells
pub record IsKind {K : Type 0} (k : Kind K) : Type 0 where
  pub degree_small : (c : K) → k.valid c ≡ true → k.degree c ≤ 3
  -- ranks tell cells apart, and a lower degree has lower ranks
  pub apart : (c d : K) → k.valid c ≡ true → k.valid d ≡ true → k.rank c ≡ k.rank d → c ≡ d
  pub lower_first :
      (c d : K) → k.valid c ≡ true → k.valid d ≡ true → k.degree c < k.degree d → k.rank c < k.rank d
  -- the faces of a cell are distinct cells one degree below it, so a cell of degree 0 has none
  pub faces_below : (c : K) → k.valid c ≡ true → Faces k (k.degree c) (k.faces c)
  -- going from c to g over one face between them, the two signs multiplied cancel out in all:
  -- as many are +1 as are -1
  pub signs_cancel : (c g : K) → k.valid c ≡ true → ways k Plus g (k.faces c) ≡ ways k Minus g (k.faces c)

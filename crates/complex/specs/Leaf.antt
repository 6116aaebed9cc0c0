-- The complex of a closed list of cells, the leaf of every pile.
use Rattle.std.specs.Prelude.{ℕ, zero, suc, cond, List, [], ◌∷◌, length, Some, None, filter, Option, ◌==◌, nat_eq}
use Rattle.std.specs.List.{slice_get}
use Rattle.field.specs.Codes.{Codes}
use Rattle.linear.specs.Complexes.{Meaning}
use Rattle.cell.specs.declared.Sign.{Sign}
use Rattle.cell.specs.declared.Sign.TheVariants.{Plus, Minus}
use Rattle.cell.specs.declared.Face.{Face}
use Rattle.cell.specs.Kind.{Kind}

-- the code of a sign: 1, or the negative of 1
abbrev pub code : Codes → Sign → ℕ
code f Plus = 1
code f Minus = f.minus 1

module _ {K : Type 0} (k : Kind K) where
  -- the cells of degree d, in the order of the list: their numbers in the complex are their places here
  abbrev pub of_degree : ℕ → List K → List K
  of_degree d cs = filter (λ c. nat_eq (k.degree c) d) cs

module _ {K : Type 0} (f : Codes) (k : Kind K) where
  -- the sign of g where it stands in a list of faces, else 0
  abbrev pub incidence : K → List (Face K) → ℕ
  incidence g [] = 0
  incidence g (x ∷ xs) = cond (k.rank x.cell == k.rank g) (code f x.sign) (incidence g xs)

  -- the entry at the row of g and the column of c, where both are there
  abbrev pub between : Option K → Option K → ℕ
  between None c = 0
  between (Some g) None = 0
  between (Some g) (Some c) = incidence g (k.faces c)

  abbrev pub leaf_entry : List K → ℕ → ℕ → ℕ → ℕ
  leaf_entry cs zero i j = 0
  leaf_entry cs (suc d) i j = between (slice_get (of_degree k d cs) i) (slice_get (of_degree k (suc d) cs) j)

  -- the complex of a list of cells
  abbrev pub leaf : List K → Meaning
  leaf cs = record { top = 3; dim = λ d. length (of_degree k d cs); entry = leaf_entry cs }

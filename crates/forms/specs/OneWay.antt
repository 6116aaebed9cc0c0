-- A list of cells is closed in one way only, so that a type can hold the fact as it is.
use Rattle.std.specs.Prelude.{◌≡◌, ◌<◌, true, List, [], ◌∷◌}
use Rattle.std.specs.List.{AllByRecursion, AllByRecursion-prop as All-prop}
use Rattle.std.specs.Coded.{×_prop, Unit-prop, le_prop}
use Rattle.std.proofs.Math.Bool.{Bool-set}
use Rattle.cell.specs.declared.Face.{Face}
use Rattle.cell.specs.Kind.{Kind}
use Rattle.index.specs.Closed.{held, Ascending, HasFaces, Closed}

module _ {K : Type 0} (k : Kind K) where
  valid-prop : (cs : List K) → IsProp (AllByRecursion (λ c. k.valid c ≡ true) cs)
  valid-prop cs = All-prop (λ c. k.valid c ≡ true) (λ c. Bool-set (k.valid c) true) cs

  ascending-prop : (cs : List K) → IsProp (Ascending k cs)
  ascending-prop [] = Unit-prop
  ascending-prop (c ∷ cs) = ×_prop (All-prop (λ d. k.rank c < k.rank d) (λ d. le_prop) cs) (ascending-prop cs)

  faces-prop : (cs : List K) → IsProp (AllByRecursion (HasFaces k cs) cs)
  faces-prop cs =
      let stands = λ (f : Face K). held k (k.rank f.cell) cs in
      All-prop (HasFaces k cs) (λ c. All-prop (λ f. stands f ≡ true) (λ f. Bool-set (stands f) true) (k.faces c)) cs

  pub closed-prop : (cs : List K) → IsProp (Closed k cs)
  closed-prop cs a b i = record {
    few = le_prop a.few b.few i;
    valid = valid-prop cs a.valid b.valid i;
    ascending = ascending-prop cs a.ascending b.ascending i;
    faces = faces-prop cs a.faces b.faces i;
  }

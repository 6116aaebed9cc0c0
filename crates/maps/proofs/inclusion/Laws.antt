-- The inclusion of one closed list in another is a chain map.
use Rattle.std.proofs.Common.{ℕ, ◌<◌, eqb, List, Some, None, Option, refl, ap, ◌∙◌}
use Rattle.std.specs.List.{slice_get}
use Rattle.std.proofs.lemmas.Option.{slice_get_past}
use Rattle.std.proofs.lemmas.Bool.{cond_both}
use Rattle.field.specs.Codes.{Codes, IsField}
use Rattle.linear.specs.ChainMaps.{IsChainMap}
use Rattle.linear.proofs.Codes.{zero_lt_order, one_lt_order}
use Rattle.cell.specs.Kind.{Kind, IsKind}
use Rattle.index.specs.Closed.{Closed}
use Rattle.complex.specs.Leaf.{of_degree}
use Rattle.complex.proofs.leaf.Laws.{leaf_is_complex}
use Rattle.maps.specs.Inclusion.{same_cell, inclusion, Included}
use Rattle.maps.proofs.inclusion.Squares.{same_cell_none, inclusion_commutes}

same_cell_below : {K : Type 0} (f : Codes) → IsField f → (k : Kind K) (g c : Option K) → same_cell k g c < f.order
same_cell_below f law k None c = zero_lt_order f law
same_cell_below f law k (Some g) None = zero_lt_order f law
same_cell_below f law k (Some g) (Some c) =
    cond_both (eqb (k.rank g) (k.rank c)) 1 0 (λ (x : ℕ). x < f.order) (λ _. one_lt_order f law)
    (λ _. zero_lt_order f law)

pub inclusion_is_chain_map :
    {K : Type 0} (f : Codes) → IsField f → (k : Kind K) → IsKind k → (bs cs : List K) → Closed k bs → Closed k cs →
    Included k bs cs → IsChainMap f (inclusion f k bs cs)
inclusion_is_chain_map f law k kind bs cs smaller larger included = record {
  source = leaf_is_complex f law k kind bs smaller;
  target = leaf_is_complex f law k kind cs larger;
  below = λ d i j. same_cell_below f law k (slice_get (of_degree k d cs) i) (slice_get (of_degree k d bs) j);
  rows = λ d i j w.
      ap (λ r. same_cell k r (slice_get (of_degree k d bs) j)) (slice_get_past (of_degree k d cs) i w);
  columns = λ d i j w.
      ap (same_cell k (slice_get (of_degree k d cs) i)) (slice_get_past (of_degree k d bs) j w) ∙ same_cell_none k _;
  commutes = λ d i j.
      inclusion_commutes f law k kind bs cs smaller larger included d (slice_get (of_degree k d cs) i) _ j refl;
}

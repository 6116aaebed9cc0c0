-- The complex of a closed list is a complex within the limits.
use Rattle.std.proofs.Common.{◌≡◌, ℕ, zero, suc, ◌-◌, ◌<◌, ◌≤◌, ltb, List, length, Some, None, Option, refl, ap, ◌∙◌, subst, arith}
use Rattle.std.specs.List.{slice_get}
use Rattle.std.proofs.lemmas.Option.{slice_get_past}
use Rattle.field.specs.Codes.{Codes, IsField}
use Rattle.linear.specs.Complexes.{IsComplex, WithinLimits}
use Rattle.linear.proofs.Codes.{zero_lt_order}
use Rattle.cell.specs.Kind.{Kind, IsKind}
use Rattle.index.specs.Closed.{Closed}
use Rattle.complex.specs.Leaf.{of_degree, between, leaf_entry, leaf}
use Rattle.complex.proofs.leaf.Incidences.{incidence_below}
use Rattle.complex.proofs.leaf.Segments.{length_kept_by_le, total_of_degree, length_of_degree_none}
use Rattle.complex.proofs.leaf.Square.{between_none, leaf_square}

module _ {K : Type 0} (f : Codes) (law : IsField f) (k : Kind K) (kind : IsKind k) (cs : List K)
    (closed : Closed k cs) where
  between_below : (r c : Option K) → between f k r c < f.order
  between_below None c = zero_lt_order f law
  between_below (Some g) None = zero_lt_order f law
  between_below (Some g) (Some c) = incidence_below f law k g (k.faces c)

  entry_below : (n i j : ℕ) → leaf_entry f k cs n i j < f.order
  entry_below zero i j = zero_lt_order f law
  entry_below (suc d) i j = between_below (slice_get (of_degree k d cs) i) (slice_get (of_degree k (suc d) cs) j)

  entry_past_rows : (n i j : ℕ) → length (of_degree k (n - 1) cs) ≤ i → leaf_entry f k cs n i j ≡ 0
  entry_past_rows zero i j w = refl
  entry_past_rows (suc d) i j w =
      let past : length (of_degree k d cs) ≤ i = subst (λ (n : ℕ). length (of_degree k n cs) ≤ i) (omega arith) w in
      ap (λ r. between f k r (slice_get (of_degree k (suc d) cs) j)) (slice_get_past (of_degree k d cs) i past)

  entry_past_columns : (n i j : ℕ) → length (of_degree k n cs) ≤ j → leaf_entry f k cs n i j ≡ 0
  entry_past_columns zero i j w = refl
  entry_past_columns (suc d) i j w =
      ap (between f k (slice_get (of_degree k d cs) i)) (slice_get_past (of_degree k (suc d) cs) j w) ∙ between_none f k _

  pub leaf_is_complex : IsComplex f (leaf f k cs)
  leaf_is_complex = record {
    below = entry_below;
    above_top = λ n high. length_of_degree_none k kind n cs high closed.valid;
    degree_zero = λ i j. refl;
    rows = entry_past_rows;
    columns = entry_past_columns;
    square = leaf_square f law k kind cs closed;
  }

  pub leaf_within_limits : WithinLimits (leaf f k cs)
  leaf_within_limits = record {
    top = omega arith;
    cells = omega (arith, total_of_degree k 4 cs, length_kept_by_le (λ c. ltb (k.degree c) 4) cs, closed.few);
  }

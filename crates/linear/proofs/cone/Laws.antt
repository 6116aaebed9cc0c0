-- The cone of a chain map is a complex.
use Rattle.std.proofs.Common.{◌≡◌, ℕ, zero, suc, ◌+◌, ◌-◌, ◌<◌, ◌≤◌, ltb, sym, refl, ap, ◌∙◌, subst, inl, inr, arith}
use Rattle.std.proofs.lemmas.Bool.{cond_both}
use Rattle.field.specs.Codes.{Codes, IsField}
use Rattle.linear.specs.ChainMaps.{MapMeaning, IsChainMap}
use Rattle.linear.specs.Complexes.{IsComplex}
use Rattle.linear.specs.Cone.{from_source, cone_entry, cone}
use Rattle.linear.proofs.Codes.{zero_lt_order}
use Rattle.linear.proofs.Negatives.{minus_zero}
use Rattle.linear.proofs.cone.Entries.{cases_past, target_source_entry, source_target_entry, target_target_entry}
use Rattle.linear.proofs.cone.Square.{cone_square}

module _ (f : Codes) (law : IsField f) (m : MapMeaning) (map : IsChainMap f m) where
  cone_entry_below : (k i j : ℕ) → cone_entry f m k i j < f.order
  cone_entry_below zero i j = zero_lt_order f law
  cone_entry_below (suc k) i j =
      let Below = λ (x : ℕ). x < f.order in
      cond_both (ltb j (m.source.dim k)) _ _ Below
      (λ _. cond_both (ltb i (from_source m k)) _ _ Below (λ _. law.minus_below _) (λ _. law.minus_below _))
      (λ _. cond_both (ltb i (from_source m k)) _ _ Below (λ _. zero_lt_order f law) (λ _. map.target.below _ _ _))

  cone_dim_above : (k : ℕ) → (cone f m).top < k → (cone f m).dim k ≡ 0
  cone_dim_above zero high = absurd (omega arith)
  cone_dim_above (suc k) high =
      let below : m.source.dim k ≡ 0 = map.source.above_top k (omega arith) in
      let here : m.target.dim (suc k) ≡ 0 = map.target.above_top (suc k) (omega arith) in
      omega arith

  -- a row past the target's
  row_past : (k i j : ℕ) → m.target.dim k ≤ i → cone_entry f m (suc k) (from_source m k + i) j ≡ 0
  row_past k i j w =
      let P = λ (c : ℕ). cone_entry f m (suc k) (from_source m k + i) c ≡ 0 in
      let past : m.target.dim (suc k - 1) ≤ i = subst (λ (n : ℕ). m.target.dim n ≤ i) (omega arith) w in
      elim (cases_past j (m.source.dim k)) [
        | inl c ↦
            target_source_entry f m k i j c ∙ ap f.minus (map.rows k i j w) ∙ minus_zero f law
        | inr (d, e) ↦
            subst P (sym e) (target_target_entry f m k i d ∙ map.target.rows (suc k) i d past)
      ]

  cone_rows : (k i j : ℕ) → (cone f m).dim (k - 1) ≤ i → cone_entry f m k i j ≡ 0
  cone_rows zero i j w = refl
  cone_rows (suc k) i j w =
      let past : from_source m k + m.target.dim k ≤ i =
      subst (λ (n : ℕ). from_source m n + m.target.dim n ≤ i) (omega arith) w in
      subst (λ (r : ℕ). cone_entry f m (suc k) r j ≡ 0) (omega arith)
      (row_past k (i - from_source m k) j (omega arith))

  -- a column past the target's
  column_past :
      (k i j : ℕ) → m.target.dim (suc k) ≤ j → cone_entry f m (suc k) i (m.source.dim k + j) ≡ 0
  column_past k i j w =
      elim (cases_past i (from_source m k)) [
        | inl r ↦ source_target_entry f m k i j r
        | inr (b, e) ↦
            subst (λ (r : ℕ). cone_entry f m (suc k) r (m.source.dim k + j) ≡ 0) (sym e)
            (target_target_entry f m k b j ∙ map.target.columns (suc k) b j w)
      ]

  cone_columns : (k i j : ℕ) → (cone f m).dim k ≤ j → cone_entry f m k i j ≡ 0
  cone_columns zero i j w = refl
  cone_columns (suc k) i j w =
      subst (λ (c : ℕ). cone_entry f m (suc k) i c ≡ 0) (omega arith)
      (column_past k i (j - m.source.dim k) (omega arith))

  pub cone_is_complex : IsComplex f (cone f m)
  cone_is_complex = record {
    below = cone_entry_below;
    above_top = cone_dim_above;
    degree_zero = λ i j. refl;
    rows = cone_rows;
    columns = cone_columns;
    square = cone_square f law m map;
  }

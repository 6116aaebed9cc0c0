-- A scalar on the diagonal of a complex is a chain map.
use Rattle.std.proofs.Common.{◌≡◌, ℕ, suc, ◌-◌, ◌%◌, ◌<◌, ◌≤◌, eqb, ltb, sym, refl, ap, ◌∙◌, subst, inl, inr, mod-lt, arith}
use Rattle.std.proofs.lemmas.Bool.{cases_lt, cases_eq, eq-eqb, ne_eqb, lt-ltb, le-ltb, cond-true, cond-false, cond_both}
use Rattle.field.specs.Codes.{Codes, IsField}
use Rattle.linear.specs.ChainMaps.{IsChainMap}
use Rattle.linear.specs.Complexes.{Meaning, IsComplex}
use Rattle.linear.specs.Scalar.{scalar_entry, scalar}
use Rattle.linear.specs.Sums.{sum}
use Rattle.linear.proofs.Codes.{zero_lt_order, zero_times, times_zero}
use Rattle.linear.proofs.Sums.{sum_zero, sum_single}

module _ (f : Codes) (law : IsField f) (c : ℕ) (m : Meaning) where
  scalar_below : (k i j : ℕ) → scalar_entry f c m k i j < f.order
  scalar_below k i j =
      let Below = λ (x : ℕ). x < f.order in
      cond_both (eqb i j) _ _ Below
      (λ _. cond_both (ltb i (m.dim k)) _ _ Below (λ _. mod-lt c (zero_lt_order f law)) (λ _. zero_lt_order f law))
      (λ _. zero_lt_order f law)

  scalar_off : (k i j : ℕ) → (i ≡ j → ⊥) → scalar_entry f c m k i j ≡ 0
  scalar_off k i j apart = cond-false (eqb i j) _ 0 (ne_eqb i j apart)

  scalar_on : (k i : ℕ) → i < m.dim k → scalar_entry f c m k i i ≡ c % f.order
  scalar_on k i l =
      cond-true (eqb i i) _ 0 (eq-eqb i i refl) ∙ cond-true (ltb i (m.dim k)) _ 0 (lt-ltb i (m.dim k) l)

  scalar_rows : (k i j : ℕ) → m.dim k ≤ i → scalar_entry f c m k i j ≡ 0
  scalar_rows k i j w =
      cond_both (eqb i j) _ _ (λ (x : ℕ). x ≡ 0)
      (λ _. cond-false (ltb i (m.dim k)) _ 0 (le-ltb i (m.dim k) w)) (λ _. refl)

  scalar_columns : (k i j : ℕ) → m.dim k ≤ j → scalar_entry f c m k i j ≡ 0
  scalar_columns k i j w =
      elim (cases_eq i j) [ inl e ↦ scalar_rows k i j (omega arith) | inr n ↦ scalar_off k i j n ]

  module _ (complex : IsComplex f m) (k i j : ℕ) where
    -- of a row, the scalar picks one entry
    scalar_after :
        sum f (m.dim (suc k)) (λ h. f.times (m.entry (suc k) i h) (scalar_entry f c m (suc k) h j))
        ≡ f.times (m.entry (suc k) i j) (c % f.order)
    scalar_after =
        let e = m.entry (suc k) i in let g = λ (h : ℕ). f.times (e h) (scalar_entry f c m (suc k) h j) in
        elim (cases_lt j (m.dim (suc k))) [
          | inl l ↦
              sum_single f law (m.dim (suc k)) j g l (law.times_below _ _)
              (λ h _ n. ap (f.times (e h)) (scalar_off (suc k) h j n) ∙ times_zero f law (e h))
              ∙ ap (f.times (e j)) (scalar_on (suc k) j l)
          | inr w ↦
              sum_zero f law (m.dim (suc k)) g
              (λ h _. ap (f.times (e h)) (scalar_columns (suc k) h j w) ∙ times_zero f law (e h))
              ∙ sym (ap (λ (x : ℕ). f.times x (c % f.order)) (complex.columns (suc k) i j w) ∙ zero_times f law _)
        ]

    -- of a column, the scalar picks one entry
    scalar_before :
        sum f (m.dim k) (λ h. f.times (scalar_entry f c m k i h) (m.entry (suc k) h j))
        ≡ f.times (c % f.order) (m.entry (suc k) i j)
    scalar_before =
        let e = λ (h : ℕ). m.entry (suc k) h j in let g = λ (h : ℕ). f.times (scalar_entry f c m k i h) (e h) in
        elim (cases_lt i (m.dim k)) [
          | inl l ↦
              sum_single f law (m.dim k) i g l (law.times_below _ _)
              (λ h _ n. ap (λ (x : ℕ). f.times x (e h)) (scalar_off k i h (λ z. n (sym z))) ∙ zero_times f law (e h))
              ∙ ap (λ (x : ℕ). f.times x (e i)) (scalar_on k i l)
          | inr w ↦
              (let past : m.dim (suc k - 1) ≤ i = subst (λ (n : ℕ). m.dim n ≤ i) (omega arith) w in
              sum_zero f law (m.dim k) g
              (λ h _. ap (λ (x : ℕ). f.times x (e h)) (scalar_rows k i h w) ∙ zero_times f law (e h))
              ∙ sym (ap (f.times (c % f.order)) (complex.rows (suc k) i j past) ∙ times_zero f law _))
        ]

  pub scalar_is_chain_map : IsComplex f m → IsChainMap f (scalar f c m)
  scalar_is_chain_map complex = record {
    source = complex;
    target = complex;
    below = scalar_below;
    rows = scalar_rows;
    columns = scalar_columns;
    commutes = λ k i j.
        scalar_after complex k i j ∙ law.times_comm _ _ ∙ sym (scalar_before complex k i j);
  }

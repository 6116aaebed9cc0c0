-- The dual of a complex is a complex, with as many cells.
use Rattle.std.proofs.Common.{◌≡◌, ℕ, suc, ◌+◌, ◌-◌, ◌<◌, ◌≤◌, leb, ap, ◌∙◌, inl, inr, arith}
use Rattle.std.proofs.lemmas.Bool.{cases_lt, cond-true, cond-false, le-leb, lt-leb}
use Rattle.field.specs.Codes.{Codes, IsField}
use Rattle.linear.specs.Complexes.{Meaning, IsComplex, WithinLimits}
use Rattle.linear.specs.Dual.{dual}
use Rattle.linear.specs.Sums.{sum, total}
use Rattle.linear.proofs.Sums.{sum_ext}
use Rattle.linear.proofs.Totals.{total_reversed}

pub dual_dim_within : (m : Meaning) (k : ℕ) → k ≤ m.top → (dual m).dim k ≡ m.dim (m.top - k)
dual_dim_within m k w = cond-true (leb k m.top) (m.dim (m.top - k)) 0 (le-leb k m.top w)

pub dual_dim_past : (m : Meaning) (k : ℕ) → m.top < k → (dual m).dim k ≡ 0
dual_dim_past m k l = cond-false (leb k m.top) (m.dim (m.top - k)) 0 (lt-leb k m.top l)

module _ (f : Codes) (law : IsField f) (m : Meaning) (is : IsComplex f m) where
  -- nothing stands in degree 0 of the dual, and nothing past its top
  entry_above_top : (k i j : ℕ) → m.top < k → m.entry k i j ≡ 0
  entry_above_top k i j l = is.columns k i j (omega (arith, is.above_top k l))

  dual_degree_zero : (i j : ℕ) → (dual m).entry 0 i j ≡ 0
  dual_degree_zero i j = entry_above_top (m.top + 1 - 0) j i (omega arith)

  dual_entry_past : (k i j : ℕ) → m.top < k → (dual m).entry k i j ≡ 0
  dual_entry_past k i j l = ap (λ (n : ℕ). m.entry n j i) (omega arith) ∙ is.degree_zero j i

  dual_rows : (k i j : ℕ) → (dual m).dim (k - 1) ≤ i → (dual m).entry k i j ≡ 0
  dual_rows k i j w = elim (cases_lt k (m.top + 1)) [
    | inl l ↦ (elim (cases_lt 0 k) [
      | inl one ↦
          (let same : m.dim (m.top - (k - 1)) ≡ m.dim (m.top + 1 - k) = ap m.dim (omega arith) in
          is.columns (m.top + 1 - k) j i (omega (arith, dual_dim_within m (k - 1) (omega arith))))
      | inr none ↦ ap (λ (n : ℕ). m.entry n j i) (omega arith) ∙ dual_degree_zero i j
    ])
    | inr past ↦ dual_entry_past k i j (omega arith)
  ]

  dual_columns : (k i j : ℕ) → (dual m).dim k ≤ j → (dual m).entry k i j ≡ 0
  dual_columns k i j w = elim (cases_lt m.top k) [
    | inl past ↦ dual_entry_past k i j past
    | inr l ↦
        (let same : m.dim (m.top + 1 - k - 1) ≡ m.dim (m.top - k) = ap m.dim (omega arith) in
        is.rows (m.top + 1 - k) j i (omega (arith, dual_dim_within m k l)))
  ]

  dual_square :
      (k i j : ℕ) → sum f ((dual m).dim k) (λ h. f.times ((dual m).entry k i h) ((dual m).entry (k + 1) h j)) ≡ 0
  dual_square k i j =
      let term = λ (h : ℕ). f.times ((dual m).entry k i h) ((dual m).entry (k + 1) h j) in
      elim (cases_lt m.top k) [
        | inl past ↦ ap (λ (n : ℕ). sum f n term) (dual_dim_past m k past)
        | inr l ↦
            (let n = m.top - k in
            ap (λ (d : ℕ). sum f d term) (dual_dim_within m k l)
            ∙ sum_ext f law (m.dim n) term (λ h. f.times (m.entry n j h) (m.entry (n + 1) h i))
            (λ h _. law.times_comm ((dual m).entry k i h) ((dual m).entry (k + 1) h j)
            ∙ ap (λ (a : ℕ). f.times (m.entry a j h) ((dual m).entry k i h)) (omega arith)
            ∙ ap (λ (a : ℕ). f.times (m.entry n j h) (m.entry a h i)) (omega arith))
            ∙ is.square n j i)
      ]

  pub dual_is_complex : IsComplex f (dual m)
  dual_is_complex = record {
    below = λ k i j. is.below (m.top + 1 - k) j i;
    above_top = dual_dim_past m;
    degree_zero = dual_degree_zero;
    rows = dual_rows;
    columns = dual_columns;
    square = dual_square;
  }

pub dual_cells : (m : Meaning) → total (suc m.top) (dual m).dim ≡ total (suc m.top) m.dim
dual_cells m =
    total_reversed (suc m.top) (dual m).dim m.dim
    (λ k l. dual_dim_within m k (omega arith) ∙ ap m.dim (omega arith))

pub dual_within_limits : (m : Meaning) → WithinLimits m → WithinLimits (dual m)
dual_within_limits m w = record { top = w.top; cells = omega (arith, dual_cells m, w.cells) }

-- The tensor of two complexes is a complex, and is what its law says.
use Rattle.std.proofs.Common.{◌≡◌, ℕ, zero, suc, ◌+◌, ◌-◌, ◌*◌, ◌<◌, ◌≤◌, Some, None, Option, refl, ap, ◌∙◌, subst, inl, inr, mul-zero, zero-mul, add-one, arith}
use Rattle.std.proofs.lemmas.Bool.{cases_lt}
use Rattle.field.specs.Codes.{Codes, IsField}
use Rattle.linear.specs.Complexes.{Meaning, IsComplex}
use Rattle.linear.specs.Sums.{sum, total}
use Rattle.linear.specs.Tensor.{Pair, block, number, pair_at, between, tensor_entry, tensor}
use Rattle.linear.specs.TensorLaw.{IsPair, IsTensor}
use Rattle.linear.proofs.Codes.{times_zero, zero_times}
use Rattle.linear.proofs.Sums.{sum_zero}
use Rattle.linear.proofs.Totals.{total_zero}
use Rattle.linear.proofs.tensor.Pairs.{
  number_lt,
  number_ascending,
  pair_at_number,
  pair_at_none,
  pair_at_some,
  pair_numbered,
  sum_pairs,
}
use Rattle.linear.proofs.tensor.Entries.{
  between_left,
  between_right,
  between_zero,
  between_none,
  tensor_entry_below,
}
use Rattle.linear.proofs.tensor.Square.{square_pairs}

module _ (f : Codes) (c d : Meaning) where
  -- the entry at the numbers of two pairs
  entry_at_numbers :
      (k : ℕ) (x y : Pair) → IsPair c d k x → IsPair c d (suc k) y →
      tensor_entry f c d (suc k) (number c d k x) (number c d (suc k) y) ≡ between f c d (suc k) (Some x) (Some y)
  entry_at_numbers k x y row column = rw (pair_at_number c d k x row, pair_at_number c d (suc k) y column) refl

  pub tensor_is_tensor : IsTensor f c d (tensor f c d)
  tensor_is_tensor = record {
    top = refl;
    within = number_lt c d;
    every = pair_numbered c d;
    ascending = number_ascending c d;
    left = λ k x y row column by. entry_at_numbers k x y row column ∙ between_left f c d (suc k) x y by;
    right = λ k x y row column by. entry_at_numbers k x y row column ∙ between_right f c d (suc k) x y by;
    elsewhere = λ k x y row column no-left no-right.
        entry_at_numbers k x y row column ∙ between_zero f c d (suc k) x y no-left no-right;
  }

  entry_past_rows : (n i j : ℕ) → (tensor f c d).dim (n - 1) ≤ i → tensor_entry f c d n i j ≡ 0
  entry_past_rows zero i j past = refl
  entry_past_rows (suc k) i j past =
      let here : (tensor f c d).dim k ≤ i = subst (λ (n : ℕ). (tensor f c d).dim n ≤ i) (omega arith) past in
      ap (λ r. between f c d (suc k) r (pair_at c d (suc k) j)) (pair_at_none c d k i here)

  entry_past_columns : (n i j : ℕ) → (tensor f c d).dim n ≤ j → tensor_entry f c d n i j ≡ 0
  entry_past_columns zero i j past = refl
  entry_past_columns (suc k) i j past =
      ap (between f c d (suc k) (pair_at c d k i)) (pair_at_none c d (suc k) j past)
      ∙ between_none f c d (suc k) (pair_at c d k i)

module _ (f : Codes) (law : IsField f) (c d : Meaning) (left : IsComplex f c) (right : IsComplex f d) where
  -- past both tops a block has no left cells or no right cells
  block_above_top : (k p : ℕ) → c.top + d.top < k → block c d k p ≡ 0
  block_above_top k p high =
      elim (cases_lt c.top p) [
        | inl over ↦ ap (λ (n : ℕ). n * d.dim (k - p)) (left.above_top p over) ∙ zero-mul _
        | inr within ↦ ap (λ (n : ℕ). c.dim p * n) (right.above_top (k - p) (omega arith)) ∙ mul-zero _
      ]

  -- by whether the row and the column are there
  square_at :
      (k i j : ℕ) (r s : Option Pair) → pair_at c d k i ≡ r → pair_at c d (suc (suc k)) j ≡ s →
      sum f (total (suc (suc k)) (block c d (suc k)))
      (λ h. f.times (between f c d (suc k) r (pair_at c d (suc k) h))
      (between f c d (suc (suc k)) (pair_at c d (suc k) h) s))
      ≡ 0
  square_at k i j None s _ _ = sum_zero f law _ _ (λ h _. zero_times f law _)
  square_at k i j (Some x) None _ _ =
      sum_zero f law _ _ (λ h _.
      ap (f.times _) (between_none f c d (suc (suc k)) (pair_at c d (suc k) h)) ∙ times_zero f law _)
  square_at k i j (Some x) (Some y) row column =
      sum_pairs c d (suc k) f law
      (λ o. f.times (between f c d (suc k) (Some x) o) (between f c d (suc (suc k)) o (Some y)))
      ∙ square_pairs f law c d left right k x y (pair_at_some c d k i x row)
      (pair_at_some c d (suc (suc k)) j y column)

  tensor_square :
      (n i j : ℕ) →
      sum f ((tensor f c d).dim n) (λ h. f.times (tensor_entry f c d n i h) (tensor_entry f c d (n + 1) h j)) ≡ 0
  tensor_square zero i j = sum_zero f law _ _ (λ h _. zero_times f law _)
  tensor_square (suc k) i j = rw (add-one (suc k)) (square_at k i j _ _ refl refl)

  pub tensor_is_complex : IsComplex f (tensor f c d)
  tensor_is_complex = record {
    below = tensor_entry_below f law c d left right;
    above_top = λ k high. total_zero (suc k) (block c d k) (λ p _. block_above_top k p high);
    degree_zero = λ i j. refl;
    rows = entry_past_rows f c d;
    columns = entry_past_columns f c d;
    square = tensor_square;
  }

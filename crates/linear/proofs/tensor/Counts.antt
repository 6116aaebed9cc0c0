-- The tensor has as many cells as there are pairs of a cell of C and a cell of D.
use Rattle.std.proofs.Common.{◌≡◌, ℕ, zero, suc, ◌+◌, ◌-◌, ◌*◌, ◌<◌, ◌≤◌, sym, refl, ap, ◌∙◌, inl, inr, mul-zero, zero-mul, mul-add, arith}
use native.Mathlib.Nat.{sub_self}
use Rattle.std.proofs.lemmas.Nat.{mul-le}
use Rattle.std.proofs.lemmas.Bool.{cases_lt}
use Rattle.field.specs.Codes.{Codes}
use Rattle.linear.specs.Complexes.{Meaning, IsComplex, WithinLimits}
use Rattle.linear.specs.Sums.{total}
use Rattle.linear.specs.Tensor.{block, tensor}
use Rattle.linear.proofs.Limits.{dim_le}
use Rattle.linear.proofs.Totals.{total_ext, total_past, total_plus, total_times}

-- the pairs of the first n degrees, counted by degree, and counted by left cell
total_triangle :
    (n : ℕ) (a b : ℕ → ℕ) →
    total n (λ k. total (suc k) (λ p. a p * b (k - p))) ≡ total n (λ p. a p * total (n - p) b)
total_triangle zero a b = refl
total_triangle (suc n) a b =
    let one : (p : ℕ) → p < suc n → a p * total (suc n - p) b ≡ a p * total (n - p) b + a p * b (n - p) =
    λ p l. (let next : suc n - p ≡ suc (n - p) = omega arith in
    ap (λ (m : ℕ). a p * total m b) next ∙ mul-add (a p) (total (n - p) b) (b (n - p))) in
    let last : a n * total (n - n) b ≡ 0 = ap (λ (m : ℕ). a n * total m b) (sub_self n) ∙ mul-zero (a n) in
    omega (
      arith,
      total_triangle n a b,
      total_ext (suc n) _ _ one,
      last,
      total_plus (suc n) (λ p. a p * total (n - p) b) (λ p. a p * b (n - p)),
    )

module _ (f : Codes) (c d : Meaning) (left : IsComplex f c) (right : IsComplex f d) where
  -- the pairs of a left cell, within the degrees of the tensor
  right_cells :
      (p : ℕ) → p < suc (c.top + d.top) →
      c.dim p * total (suc (c.top + d.top) - p) d.dim ≡ c.dim p * total (suc d.top) d.dim
  right_cells p l =
      elim (cases_lt c.top p) [
        | inl over ↦ rw (left.above_top p over) (zero-mul _ ∙ sym (zero-mul _))
        | inr within ↦
            ap (λ (n : ℕ). c.dim p * n)
            (total_past (suc d.top) _ d.dim (omega arith) (λ i high. right.above_top i (omega arith)))
      ]

  pub total_tensor :
      total (suc (tensor f c d).top) (tensor f c d).dim
      ≡ total (suc c.top) c.dim * total (suc d.top) d.dim
  total_tensor =
      let n : ℕ = suc (c.top + d.top) in let b : ℕ = total (suc d.top) d.dim in
      total_triangle n c.dim d.dim ∙ total_ext n _ _ right_cells ∙ total_times n b c.dim
      ∙ ap (λ (x : ℕ). x * b)
      (total_past (suc c.top) n c.dim (omega arith) (λ i high. left.above_top i (omega arith)))

-- within the limits no block has more than 1024 * 1024 pairs
pub block_le :
    (f : Codes) (c d : Meaning) → IsComplex f c → WithinLimits c → IsComplex f d → WithinLimits d → (k p : ℕ) →
    block c d k p ≤ 1024 * 1024
block_le f c d left few right few' k p = mul-le _ _ 1024 1024 (dim_le f c left few p) (dim_le f d right few' (k - p))

-- The numbering of the pairs of two complexes is a bijection that keeps their order, and a sum over the numbers of a
-- degree is a sum over its pairs.
use Rattle.std.proofs.Common.{◌≡◌, ℕ, zero, suc, ◌+◌, ◌-◌, ◌*◌, ◌/◌, ◌%◌, ◌<◌, ◌≤◌, ◌⊎◌, Some, None, Option, sym, ap, ◌∙◌, subst, inl, inr, arith}
use lib.Arith.{digits_lt}
use Rattle.std.proofs.lemmas.Nat.{div-mul-add, mod-mul-add, div_below, mod_below, div-add-mod'}
use Rattle.std.proofs.lemmas.Bool.{cases_lt}
use Rattle.field.specs.Codes.{Codes, IsField}
use Rattle.linear.specs.Complexes.{Meaning}
use Rattle.linear.specs.Sums.{sum, total}
use Rattle.linear.specs.Tensor.{Pair, block, number, pair_in, pair_at}
use Rattle.linear.specs.TensorLaw.{IsPair, Before}
use Rattle.linear.proofs.Sums.{sum_ext}
use Rattle.linear.proofs.Blocks.{sum_blocks, sum_grid}
use Rattle.linear.proofs.Totals.{total_le, place_lt_total}
use Rattle.linear.proofs.tensor.Locate.{locate_some, locate_none, place_of}

abbrev pub pair : ℕ → ℕ → ℕ → Pair
pair p i j = record { p = p; i = i; j = j }

-- a width that holds a place is not 0
pub width_pos : (m w x : ℕ) → x < m * w → 0 < w
width_pos m zero x l = absurd (omega arith)
width_pos m (suc w) x l = omega arith

module _ (c d : Meaning) (k : ℕ) where
  -- the place of a pair within its block
  place_lt_block : (x : Pair) → IsPair c d k x → x.i * d.dim (k - x.p) + x.j < block c d k x.p
  place_lt_block x is = digits_lt is.left is.right

  pub number_lt : (x : Pair) → IsPair c d k x → number c d k x < total (suc k) (block c d k)
  number_lt x is =
      place_lt_total x.p (suc k) (x.i * d.dim (k - x.p) + x.j) (block c d k) (omega (arith, is.degree))
      (place_lt_block x is)

  pub pair_at_number : (x : Pair) → IsPair c d k x → pair_at c d k (number c d k x) ≡ Some x
  pair_at_number x is =
      let w : ℕ = d.dim (k - x.p) in
      ap (pair_in c d k) (locate_some (block c d k) (suc k) x.p (x.i * w + x.j) (omega (arith, is.degree))
      (place_lt_block x is))
      ∙ ap (λ (i : ℕ). Some (pair x.p i ((x.i * w + x.j) % w))) (div-mul-add x.i w x.j is.right)
      ∙ ap (λ (j : ℕ). Some (pair x.p x.i j)) (mod-mul-add x.i w x.j is.right)

  pub pair_at_none : (n : ℕ) → total (suc k) (block c d k) ≤ n → pair_at c d k n ≡ None
  pair_at_none n past = ap (pair_in c d k) (locate_none (block c d k) (suc k) n past)

  pub pair_numbered :
      (n : ℕ) → n < total (suc k) (block c d k) → (x : Pair) × (IsPair c d k x) × (number c d k x ≡ n)
  pair_numbered n l =
      let at = place_of (block c d k) (suc k) n l in let w : ℕ = d.dim (k - at.p) in
      let pos : 0 < w = width_pos (c.dim at.p) w at.x at.within in (
        pair at.p (at.x / w) (at.x % w),
        record {
          degree = omega (arith, at.block);
          left = div_below at.x w (c.dim at.p) pos at.within;
          right = mod_below at.x w pos;
        },
        ap (λ (y : ℕ). total at.p (block c d k) + y) (div-add-mod' at.x w) ∙ at.is,
      )

  -- a number has a pair or none
  pub pair_at_cases : (n : ℕ) → (pair_at c d k n ≡ None) ⊎ ((x : Pair) × (IsPair c d k x) × (pair_at c d k n ≡ Some x))
  pair_at_cases n =
      elim (cases_lt n (total (suc k) (block c d k))) [
        | inl within ↦
            (let at = pair_numbered n within in
            inr (at.0, at.1, ap (pair_at c d k) (sym at.2) ∙ pair_at_number at.0 at.1))
        | inr past ↦ inl (pair_at_none n past)
      ]

  pub pair_at_some : (n : ℕ) (x : Pair) → pair_at c d k n ≡ Some x → IsPair c d k x
  pair_at_some n x e =
      elim (pair_at_cases n) [
        | inl none ↦ absurd (let z : ◌≡◌ {A = ℕ} 0 1 = cc in omega arith)
        | inr at ↦ (let same : at.0 ≡ x = cc in subst (IsPair c d k) same at.1)
      ]

  -- within one degree of the left cells, the place decides
  number_lt_by_place :
      (p p' y y' : ℕ) → p ≡ p' → y < y' → total p (block c d k) + y < total p' (block c d k) + y'
  number_lt_by_place p p' y y' same l = rw same (omega arith)

  row_lt : (i i' w w' j j' : ℕ) → w ≡ w' → i < i' → j < w → i * w + j < i' * w' + j'
  row_lt i i' w w' j j' same l within = rw (← same) (omega (arith, digits_lt {q = i} {m = i'} {r = j} {c = w} l within))

  column_lt : (i i' w w' j j' : ℕ) → w ≡ w' → i ≡ i' → j < j' → i * w + j < i' * w' + j'
  column_lt i i' w w' j j' same equal l = rw (same, equal) (omega arith)

  pub number_ascending :
      (x y : Pair) → IsPair c d k x → IsPair c d k y → Before x y → number c d k x < number c d k y
  number_ascending x y here there (inl degree) =
      omega (arith, place_lt_block x here, total_le (suc x.p) y.p (block c d k) (omega arith))
  number_ascending x y here there (inr (same, inl left)) =
      number_lt_by_place x.p y.p _ _ same
      (row_lt x.i y.i _ _ x.j y.j (ap (λ (p : ℕ). d.dim (k - p)) same) left here.right)
  number_ascending x y here there (inr (same, inr (equal, right))) =
      number_lt_by_place x.p y.p _ _ same
      (column_lt x.i y.i _ _ x.j y.j (ap (λ (p : ℕ). d.dim (k - p)) same) equal right)

  module _ (f : Codes) (law : IsField f) where
    pub sum_pairs :
        (g : Option Pair → ℕ) →
        sum f (total (suc k) (block c d k)) (λ n. g (pair_at c d k n))
        ≡ sum f (suc k) (λ p. sum f (c.dim p) (λ i. sum f (d.dim (k - p)) (λ j. g (Some (pair p i j)))))
    sum_pairs g =
        sum_blocks f law (block c d k) (suc k) (λ n. g (pair_at c d k n))
        ∙ sum_ext f law (suc k) _ _ (λ p degree.
        sum_grid f law (c.dim p) (d.dim (k - p)) (λ x. g (pair_at c d k (total p (block c d k) + x)))
        ∙ sum_ext f law (c.dim p) _ _ (λ i left. sum_ext f law (d.dim (k - p)) _ _ (λ j right.
        ap g (pair_at_number (pair p i j) (record { degree = omega arith; left = left; right = right })))))

-- The places that pass a test, numbered in their order.
use Rattle.std.proofs.Common.{◌≡◌, ℕ, zero, suc, ◌+◌, ◌<◌, ◌≤◌, Bool, true, false, cond, ◌&&◌, eqb, sym, refl, ap, ◌∙◌, add-zero, add-one, arith, eq-eqb, ne_eqb, eqb-true}
use borrow.Author.Tests.{eqb-false}
use Rattle.field.specs.Codes.{Codes, IsField}
use Rattle.linear.specs.Sums.{sum}
use Rattle.linear.proofs.Codes.{plus_zero_code, plus_both}
use Rattle.linear.proofs.Sums.{sum_below, sum_ext}
use Rattle.reduction.specs.Cancelling.{count}
use Rattle.reduction.specs.Survivors.{place}

-- a place is below the bound and passes
pub record IsPlace (test : ℕ → Bool) (n p : ℕ) : Type 0 where
  pub inside : p < n
  pub passes : test p ≡ true

pub place_passes : (test : ℕ → Bool) (n r : ℕ) → r < count test n → IsPlace test n (place test n r)
place_passes test zero r l = absurd (omega arith)
place_passes test (suc n) r l = by_tests (test n) (eqb r (count test n)) refl (eqb-false r (count test n)) l
    (place_passes test n r) where
      by_tests : (t u : Bool) → test n ≡ t → (u ≡ false → r ≡ count test n → ⊥) → r < count test n + cond t 1 0 →
          (r < count test n → IsPlace test n (place test n r)) → IsPlace test (suc n) (cond (t && u) n (place test n r))
      by_tests true true e d l before = record { inside = omega arith; passes = e }
      by_tests true false e d l before =
          let apart = d refl in let q = before (omega arith) in let i = q.inside in
          record { inside = omega arith; passes = q.passes }
      by_tests false u e d l before = let q = before (omega arith) in let i = q.inside in
          record { inside = omega arith; passes = q.passes }

-- one number more does not move the places before it
place_before : (test : ℕ → Bool) (n r : ℕ) → (r ≡ count test n → ⊥) → place test (suc n) r ≡ place test n r
place_before test n r d = ap (λ t. cond (test n && t) n (place test n r)) (ne_eqb r (count test n) d)
    ∙ none (test n) where
      none : (t : Bool) → cond (t && false) n (place test n r) ≡ place test n r
      none true = refl
      none false = refl

place_last : (test : ℕ → Bool) (n : ℕ) → test n ≡ true → place test (suc n) (count test n) ≡ n
place_last test n e =
    ap (λ t. cond (t && eqb (count test n) (count test n)) n (place test n (count test n))) e
    ∙ ap (λ t. cond t n (place test n (count test n))) (eq-eqb (count test n) (count test n) refl)

-- different numbers have different places
pub place_injective : (test : ℕ → Bool) (n r s : ℕ) → r < count test n → s < count test n →
    place test n r ≡ place test n s → r ≡ s
place_injective test zero r s l k e = absurd (omega arith)
place_injective test (suc n) r s l k e =
    by_tests (test n) (eqb r (count test n)) (eqb s (count test n)) (eqb-true r (count test n))
    (eqb-true s (count test n))
    (eqb-false r (count test n)) (eqb-false s (count test n)) l k e
    (λ i. (place_passes test n r i).inside) (λ i. (place_passes test n s i).inside) (place_injective test n r s) where
      by_tests : (t u v : Bool) → (u ≡ true → r ≡ count test n) → (v ≡ true → s ≡ count test n) →
          (u ≡ false → r ≡ count test n → ⊥) → (v ≡ false → s ≡ count test n → ⊥) →
          r < count test n + cond t 1 0 → s < count test n + cond t 1 0 →
          cond (t && u) n (place test n r) ≡ cond (t && v) n (place test n s) →
          (r < count test n → place test n r < n) → (s < count test n → place test n s < n) →
          (r < count test n → s < count test n → place test n r ≡ place test n s → r ≡ s) → r ≡ s
      by_tests true true true er es nr ns l k e ir is before = er refl ∙ sym (es refl)
      by_tests true true false er es nr ns l k e ir is before =
          let apart = ns refl in let i = is (omega arith) in absurd (omega arith)
      by_tests true false true er es nr ns l k e ir is before =
          let apart = nr refl in let i = ir (omega arith) in absurd (omega arith)
      by_tests true false false er es nr ns l k e ir is before =
          let a = nr refl in let b = ns refl in before (omega arith) (omega arith) e
      by_tests false u v er es nr ns l k e ir is before = before (omega arith) (omega arith) e

module _ (f : Codes) (law : IsField f) where
  -- a sum over the places that pass, in their own numbers
  pub sum_places : (test : ℕ → Bool) (n : ℕ) (g : ℕ → ℕ) → ((h : ℕ) → g h < f.order) →
      sum f (count test n) (λ r. g (place test n r)) ≡ sum f n (λ h. cond (test h) (g h) 0)
  sum_places test zero g below = refl
  sum_places test (suc n) g below = by_test (test n) refl (sum_places test n g below) where
    before : (c : ℕ) → c ≤ count test n → sum f c (λ r. g (place test (suc n) r)) ≡ sum f c (λ r. g (place test n r))
    before c l = sum_ext f law c _ _ (λ r k. ap g (place_before test n r (λ e. omega arith)))

    by_test : (t : Bool) → test n ≡ t →
        sum f (count test n) (λ r. g (place test n r)) ≡ sum f n (λ h. cond (test h) (g h) 0) →
        sum f (count test n + cond t 1 0) (λ r. g (place test (suc n) r)) ≡
        f.plus (sum f n (λ h. cond (test h) (g h) 0)) (cond t (g n) 0)
    by_test true e so_far =
        ap (λ (c : ℕ). sum f c (λ r. g (place test (suc n) r))) (add-one (count test n))
        ∙ plus_both f (before (count test n) (omega arith) ∙ so_far) (ap g (place_last test n e))
    by_test false e so_far =
        ap (λ (c : ℕ). sum f c (λ r. g (place test (suc n) r))) (add-zero (count test n))
        ∙ before (count test n) (omega arith) ∙ so_far
        ∙ sym (plus_zero_code f law _ (sum_below f law n _))

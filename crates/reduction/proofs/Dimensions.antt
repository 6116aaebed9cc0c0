-- More chains than places are dependent.
use Rattle.std.proofs.Common.{◌≡◌, ℕ, zero, suc, ◌+◌, ◌%◌, ◌<◌, Bool, true, false, cond, eqb, ◌⊎◌, Some, sym, refl, ap, ◌∙◌, inl, inr, arith, eq-eqb}
use native.Mathlib.Decide.{ℕ_discrete}
use Rattle.std.proofs.lemmas.Bool.{both_ways}
use Rattle.std.proofs.lemmas.Bool.Decides.{nat_tests}
use Rattle.field.specs.Codes.{Codes, IsField}
use Rattle.linear.specs.Sums.{sum}
use Rattle.linear.proofs.Codes.{one_lt_order, times_zero, zero_times, times_minus}
use Rattle.linear.proofs.Negatives.{sum_minus}
use Rattle.linear.proofs.Sums.{sum_zero, sum_ext, sum_plus, times_sum}
use Rattle.reduction.specs.Matrices.{Chain, combination}
use Rattle.reduction.specs.Cancelling.{count}
use Rattle.reduction.specs.Dimensions.{AreDependent}
use Rattle.reduction.specs.Laws.{MoreChainsAreDependent}
use Rattle.reduction.proofs.Combinations.{times_left_comm}
use Rattle.reduction.proofs.Inverting.{invertible}
use Rattle.reduction.proofs.Searching.{some_or_all}
use Rattle.reduction.proofs.Skipping.{skip, unskip, unskip_skip, skip_not, skip_lt, sum_skip}

module _ (f : Codes) (law : IsField f) where
  -- a chain with an inverse at a place, or none
  abbrev Found : ℕ → (ℕ → ℕ) → Type 0
  Found n g = (s : ℕ) × (s < n) × ((u : ℕ) × (f.inverse (g s) ≡ Some u))

  find : (n : ℕ) (g : ℕ → ℕ) → Found n g ⊎ ((s : ℕ) → s < n → g s % f.order ≡ 0)
  find n g = some_or_all (λ s. (u : ℕ) × (f.inverse (g s) ≡ Some u)) (λ s. g s % f.order ≡ 0) n
      (λ s _. invertible f law (g s))

  -- one place more, where the combination is zero too
  one_more : (test : ℕ → Bool) (p n : ℕ) (z : ℕ → Chain) (d : AreDependent f test p n z) →
      (test p ≡ true → combination f n d.coefficients z p ≡ 0) → AreDependent f test (suc p) n z
  one_more test p n z d here = record {
    coefficients = d.coefficients;
    codes = d.codes;
    nonzero = d.nonzero;
    vanish = λ i l t. elim (ℕ_discrete i p) [
      | yes e ↦ (ap (combination f n d.coefficients z) e ∙ here (ap test (sym e) ∙ t))
      | no apart ↦ d.vanish i (omega arith) t
    ];
  }

  times_remainder : (x y : ℕ) → y % f.order ≡ 0 → f.times x y ≡ 0
  times_remainder x y e =
      law.times_comm x y ∙ sym (law.times_rem y x) ∙ ap (λ (w : ℕ). f.times w x) e ∙ zero_times f law x

  one_times_any : (x : ℕ) → f.times 1 x ≡ x % f.order
  one_times_any x = law.times_comm 1 x ∙ law.times_one x

  -- the chain a, with the inverse u at the place p, is taken from the others so that they are zero there
  module _ (test : ℕ → Bool) (p n : ℕ) (z : ℕ → Chain) (a u : ℕ) (inside : a < suc n)
      (inverse : f.times (z a p) u ≡ 1) where
    share : ℕ → ℕ → ℕ
    share s i = f.times (z a i) (f.times u (z (skip a s) p))

    reduced : ℕ → Chain
    unfolding share
    reduced s i = f.plus (z (skip a s) i) (f.minus (share s i))

    reduced_here : (s : ℕ) → reduced s p ≡ 0
    unfolding reduced share
    reduced_here s =
        let x : ℕ = z (skip a s) p in
        ap (λ (w : ℕ). f.plus x (f.minus w))
        (sym (law.times_assoc (z a p) u x) ∙ ap (λ (w : ℕ). f.times w x) inverse ∙ one_times_any x)
        ∙ ap (f.plus x) (law.minus_rem x) ∙ law.plus_minus x

    module _ (d : AreDependent f test p n reduced) where
      back : ℕ
      back = f.minus (sum f n (λ s. f.times (d.coefficients s) (f.times u (z (skip a s) p))))

      whole : ℕ → ℕ
      unfolding back
      whole s = cond (eqb s a) back (d.coefficients (unskip a s))

      whole_a : whole a ≡ back
      unfolding whole back
      whole_a = ap (λ t. cond t back (d.coefficients (unskip a a))) (eq-eqb a a refl)

      whole_skip : (s : ℕ) → whole (skip a s) ≡ d.coefficients s
      unfolding whole back
      whole_skip s =
          ap (λ t. cond t back (d.coefficients (unskip a (skip a s)))) (skip_not a s)
          ∙ ap d.coefficients (unskip_skip a s)

      back_times : (y : ℕ) →
          f.times back y ≡ sum f n
          (λ s. f.minus (f.times (d.coefficients s) (f.times y (f.times u (z (skip a s) p)))))
      unfolding back
      back_times y =
          law.times_comm back y ∙ times_minus f law y _ ∙ ap f.minus (times_sum f law y n _
          ∙ sum_ext f law n _ _ (λ s _. times_left_comm f law y (d.coefficients s) (f.times u (z (skip a s) p))))
          ∙ sym (sum_minus f law n _)

      -- the combination of all is that of the reduced chains
      whole_sum : (i : ℕ) → combination f (suc n) whole z i ≡ combination f n d.coefficients reduced i
      unfolding reduced share
      whole_sum i =
          sum_skip f law n (λ s. f.times (whole s) (z s i)) a inside
          ∙ (λ t. f.plus (f.times (whole_a t) (z a i)) (sum f n (λ s. f.times (whole_skip s t) (z (skip a s) i))))
          ∙ ap (λ (w : ℕ). f.plus w (sum f n (λ s. f.times (d.coefficients s) (z (skip a s) i))))
          (back_times (z a i))
          ∙ law.plus_comm _ _
          ∙ sym (sum_plus f law n _ _)
          ∙ sum_ext f law n _ _ (λ s _. sym (law.times_plus (d.coefficients s) (z (skip a s) i) (f.minus (share s i))
          ∙ ap (f.plus (f.times (d.coefficients s) (z (skip a s) i)))
          (times_minus f law (d.coefficients s) (share s i))))

      whole_code : (s : ℕ) → s < suc n → whole s < f.order
      unfolding whole back
      whole_code s l = by_test (eqb s a) (λ t. d.codes (unskip a s) (unskip_lt t)) where
        unskip_lt : eqb s a ≡ false → unskip a s < n
        unskip_lt t = grind (arith, nat_tests)

        by_test : (t : Bool) → (t ≡ false → d.coefficients (unskip a s) < f.order) →
            cond t back (d.coefficients (unskip a s)) < f.order
        by_test true c = law.minus_below _
        by_test false c = c refl

      with_all : AreDependent f test (suc p) (suc n) z
      with_all = one_more test p (suc n) z
          (record {
            coefficients = whole;
            codes = whole_code;
            nonzero = (
              skip a d.nonzero.0,
              skip_lt a d.nonzero.0 n d.nonzero.1,
              λ e. d.nonzero.2 (sym (whole_skip d.nonzero.0) ∙ e),
            );
            vanish = λ i l t. whole_sum i ∙ d.vanish i l t;
          })
          (λ _. whole_sum p ∙ sum_zero f law n _ (λ s _. ap (f.times (d.coefficients s)) (reduced_here s)
          ∙ times_zero f law (d.coefficients s)))

  pub dependent : (test : ℕ → Bool) (p n : ℕ) (z : ℕ → Chain) → count test p < n → AreDependent f test p n z
  dependent test zero n z l = record {
    coefficients = λ _. 1;
    codes = λ j _. one_lt_order f law;
    nonzero = (0, omega arith, λ e. omega arith);
    vanish = λ i k t. absurd (omega arith);
  }
  dependent test (suc p) n z l = by_test (test p) refl n l z (find n (λ s. z s p)) (λ n z. dependent test p n z) where
    by_test : (t : Bool) → test p ≡ t → (n : ℕ) → count test p + cond t 1 0 < n → (z : ℕ → Chain) →
        Found n (λ s. z s p) ⊎ ((s : ℕ) → s < n → z s p % f.order ≡ 0) →
        ((n : ℕ) (z : ℕ → Chain) → count test p < n → AreDependent f test p n z) → AreDependent f test (suc p) n z
    by_test false e n l z found before = one_more test p n z (before n z (omega arith))
        (λ t. absurd (both_ways (test p) e t))
    by_test true e n l z (inr none) before =
        let d = before n z (omega arith) in
        one_more test p n z d (λ _. sum_zero f law n _ (λ s k. times_remainder (d.coefficients s) (z s p) (none s k)))
    by_test true e zero l z (inl (a, inside, found)) before = absurd (omega arith)
    by_test true e (suc n) l z (inl (a, inside, (u, is))) before =
        let inverse = (law.inverse_some (z a p) u is).1 in
        with_all test p n z a u inside inverse (before n (reduced test p n z a u inside inverse) (omega arith))

pub more_chains_are_dependent : MoreChainsAreDependent
more_chains_are_dependent f test bound n z law more = dependent f law test bound n z more

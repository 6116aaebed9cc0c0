-- Combinations of chains: matrices go through them, and combinations of cycles are cycles.
use Rattle.std.proofs.Common.{◌≡◌, ℕ, ◌<◌, sym, ap, ◌∙◌}
use Rattle.field.specs.Codes.{Codes, IsField}
use Rattle.linear.specs.Complexes.{Meaning}
use Rattle.linear.proofs.Codes.{times_zero}
use Rattle.linear.proofs.Sums.{sum_below, sum_zero, sum_ext, sum_swap, times_sum}
use Rattle.reduction.specs.Matrices.{Matrix, Chain, apply, combination}
use Rattle.reduction.specs.Chains.{IsCycle}

module _ (f : Codes) (law : IsField f) where
  -- the first two factors of three change places
  pub times_left_comm : (a c x : ℕ) → f.times a (f.times c x) ≡ f.times c (f.times a x)
  times_left_comm a c x = sym (law.times_assoc a c x) ∙ ap (λ (w : ℕ). f.times w x) (law.times_comm a c)
      ∙ law.times_assoc c a x

  pub apply_combination : (p n : ℕ) (a : Matrix) (c : ℕ → ℕ) (z : ℕ → Chain) (i : ℕ) →
      apply f p a (combination f n c z) i ≡ combination f n c (λ s. apply f p a (z s)) i
  apply_combination p n a c z i =
      sum_ext f law p _ _ (λ h _. times_sum f law (a i h) n (λ s. f.times (c s) (z s h))
      ∙ sum_ext f law n _ _ (λ s _. times_left_comm (a i h) (c s) (z s h)))
      ∙ sum_swap f law p n (λ h s. f.times (c s) (f.times (a i h) (z s h)))
      ∙ sum_ext f law n _ _ (λ s _. sym (times_sum f law (c s) p (λ h. f.times (a i h) (z s h))))

  pub combination_zero : (n : ℕ) (c : ℕ → ℕ) (z : ℕ → Chain) (i : ℕ) → ((s : ℕ) → s < n → z s i ≡ 0) →
      combination f n c z i ≡ 0
  combination_zero n c z i e = sum_zero f law n _ (λ s l. ap (f.times (c s)) (e s l) ∙ times_zero f law (c s))

  pub combination_cycle : (m : Meaning) (k n : ℕ) (c : ℕ → ℕ) (z : ℕ → Chain) →
      ((s : ℕ) → s < n → IsCycle f m k (z s)) →
      IsCycle f m k (combination f n c z)
  combination_cycle m k n c z cycles = record {
    codes = λ j l. sum_below f law n _;
    closed = λ i. apply_combination (m.dim k) n (m.entry k) c z i
        ∙ combination_zero n c (λ s. apply f (m.dim k) (m.entry k) (z s)) i (λ s l. (cycles s l).closed i);
  }

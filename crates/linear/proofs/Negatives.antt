-- Negatives under products and sums.
use Rattle.std.proofs.Common.{◌≡◌, ℕ, sym, ap, ◌∙◌}
use Rattle.field.specs.Codes.{Codes, IsField}
use Rattle.linear.specs.Sums.{sum}
use Rattle.linear.proofs.Codes.{zero_lt_order, zero_plus_zero, minus_from_plus, times_minus, minus_minus}
use Rattle.linear.proofs.Sums.{sum_below, sum_zero, sum_plus}

module _ (f : Codes) (law : IsField f) where
  pub minus_zero : f.minus 0 ≡ 0
  minus_zero = sym (minus_from_plus f law 0 0 (zero_lt_order f law) (zero_plus_zero f law))

  pub minus_times : (a b : ℕ) → f.times (f.minus a) b ≡ f.minus (f.times a b)
  minus_times a b =
      law.times_comm (f.minus a) b ∙ times_minus f law b a ∙ ap f.minus (law.times_comm b a)

  pub minus_times_minus : (a b : ℕ) → f.times (f.minus a) (f.minus b) ≡ f.times a b
  minus_times_minus a b =
      minus_times a (f.minus b) ∙ ap f.minus (times_minus f law a b)
      ∙ minus_minus f law (f.times a b) (law.times_below a b)

  pub sum_minus : (n : ℕ) (g : ℕ → ℕ) → sum f n (λ m. f.minus (g m)) ≡ f.minus (sum f n g)
  sum_minus n g =
      minus_from_plus f law (sum f n g) (sum f n (λ m. f.minus (g m))) (sum_below f law n (λ m. f.minus (g m)))
      (sym (sum_plus f law n g (λ m. f.minus (g m))) ∙ sum_zero f law n _ (λ m l. law.plus_minus (g m)))

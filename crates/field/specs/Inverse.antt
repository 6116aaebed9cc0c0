-- The inverse under a product of codes, found by trial.
--
-- Assumed: nothing. Where several codes pass the trial the largest is meant; in a field there is at most one.
use Rattle.std.specs.Prelude.{ℕ, zero, suc, Bool, cond, Some, None, Option, nat_eq}

-- the largest number below the bound that passes the test; absent if none does
unfoldable pub largest : (ℕ → Bool) → ℕ → Option ℕ
largest test zero = None
largest test (suc n) = cond (test n) (Some n) (largest test n)

-- the code below the order whose product with `a` is 1; absent if there is none
abbrev pub inverse_by : ℕ → (ℕ → ℕ → ℕ) → ℕ → Option ℕ
inverse_by order times a = largest (λ x. nat_eq (times a x) 1) order

-- Finite sums over the numbers below a bound.
use Rattle.std.specs.Prelude.{ℕ, zero, suc, ◌+◌}
use Rattle.field.specs.Codes.{Codes}

-- the sum of g at each number below n, by an addition; the empty sum is 0
abbrev pub sum_by : (ℕ → ℕ → ℕ) → ℕ → (ℕ → ℕ) → ℕ
sum_by add zero g = 0
sum_by add (suc n) g = add (sum_by add n g) (g n)

-- a sum of codes in a field
abbrev pub sum : Codes → ℕ → (ℕ → ℕ) → ℕ
sum f = sum_by f.plus

-- a sum of numbers
abbrev pub total : ℕ → (ℕ → ℕ) → ℕ
total = sum_by (λ a b. a + b)

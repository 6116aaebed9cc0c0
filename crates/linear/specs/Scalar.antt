-- A scalar on the diagonal of a complex, as a chain map from the complex to itself.
--
-- A scalar that is not below the order stands for its remainder. Outside the matrices stands 0.
use Rattle.std.specs.Prelude.{ℕ, ◌%◌, cond, ◌==◌, nat_lt}
use Rattle.field.specs.Codes.{Codes}
use Rattle.linear.specs.Complexes.{Meaning}
use Rattle.linear.specs.ChainMaps.{MapMeaning}

-- the entry of degree k at row i and column j
abbrev pub scalar_entry : Codes → ℕ → Meaning → ℕ → ℕ → ℕ → ℕ
scalar_entry f c m k i j = cond (i == j) (cond (nat_lt i (m.dim k)) (c % f.order) 0) 0

abbrev pub scalar : Codes → ℕ → Meaning → MapMeaning
scalar f c m = record { source = m; target = m; entry = scalar_entry f c m }

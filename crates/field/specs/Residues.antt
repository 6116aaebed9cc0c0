-- Calculation modulo a number, and the numbers for which it is a field.
--
-- Operands are any numbers. Modulo a number that is not prime some codes other than 0 have no inverse.
use Rattle.std.specs.Prelude.{◌≡◌, ℕ, ◌+◌, ◌-◌, ◌*◌, ◌%◌, ◌≤◌, ◌⊎◌}
use Rattle.field.specs.Codes.{Codes}
use Rattle.field.specs.Inverse.{inverse_by}

abbrev pub product_modulo : ℕ → ℕ → ℕ → ℕ
product_modulo q a b = (a * b) % q

-- the codes 0 to q - 1 under calculation modulo q
abbrev pub residues : ℕ → Codes
residues q = record {
  order = q;
  plus = λ a b. (a + b) % q;
  minus = λ a. (q - a % q) % q;
  times = product_modulo q;
  inverse = inverse_by q (product_modulo q);
}

-- a prime whose residues are one-byte codes: from 2 on, with no divisor but 1 and itself
pub record IsPrime (q : ℕ) : Type 0 where
  pub two : 2 ≤ q
  pub small : q ≤ 251
  pub divisors : (d : ℕ) → q % d ≡ 0 → (d ≡ 1) ⊎ (d ≡ q)

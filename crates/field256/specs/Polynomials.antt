-- The field of 256: polynomials over two elements, modulo one polynomial of degree 8.
--
-- A number stands for a polynomial in t: its bit n, of value 2 ^ n, is the coefficient of t ^ n. The sum of
-- two polynomials is their exclusive or, and a polynomial is its own negative. Codes are the polynomials of
-- degree below 8; an operand not below 256 stands for its remainder by 256.
use Rattle.std.specs.Prelude.{ℕ, zero, suc, ◌+◌, ◌*◌, ◌/◌, ◌%◌, ◌^◌, bit_xor}
use Rattle.field.specs.Codes.{Codes}
use Rattle.field.specs.Inverse.{inverse_by}

-- the coefficient of t ^ n, 0 or 1
abbrev pub coefficient : ℕ → ℕ → ℕ
coefficient a n = a / 2 ^ n % 2

-- the product of `b` with the terms of `a` below degree n: the sum of the multiples of b by those terms
unfoldable pub product : ℕ → ℕ → ℕ → ℕ
product zero a b = 0
product (suc n) a b = bit_xor (product n a b) (coefficient a n * (2 ^ n * b))

-- t ^ 8 + t ^ 4 + t ^ 3 + t ^ 2 + 1
abbrev pub modulus : ℕ
modulus = 0x11D

-- the remainder by the modulus of a polynomial of degree below 8 + n, by long division from the top term down
unfoldable pub remainder : ℕ → ℕ → ℕ
remainder zero a = a
remainder (suc n) a = remainder n (bit_xor a (coefficient a (8 + n) * (2 ^ n * modulus)))

-- the product modulo the modulus of two polynomials of degree below 8
unfoldable pub residue_product : ℕ → ℕ → ℕ
residue_product a b = remainder 7 (product 8 a b)

abbrev pub polynomial_product : ℕ → ℕ → ℕ
polynomial_product a b = residue_product (a % 256) (b % 256)

-- the field of 256
abbrev pub polynomials : Codes
polynomials = record {
  order = 256;
  plus = λ a b. bit_xor (a % 256) (b % 256);
  minus = λ a. a % 256;
  times = polynomial_product;
  inverse = inverse_by 256 polynomial_product;
}

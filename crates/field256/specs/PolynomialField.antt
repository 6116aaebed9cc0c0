-- The polynomials modulo the modulus obey the laws of a field, and the exponents give its products and inverses.
use Rattle.std.specs.Prelude.{◌≡◌, ℕ, ◌+◌, ◌-◌, ◌%◌, ◌<◌, Some, None, bit_xor, refl}
use Rattle.std.proofs.Common.{sym, ap, ◌∙◌, lit≤, lit<, arith, mod-lt, mod-eq_of_lt}
use Rattle.std.proofs.lemmas.Nat.{xor_comm, xor_lt}
use Rattle.std.specs.Int.Bits.{xor_assoc, xor_self, xor_zero_r}
use Rattle.std.proofs.Math.Nat.{mod-mod}
use Rattle.std.proofs.Math.Decide.{dec_lt}
use Rattle.field.specs.Codes.{IsField}
use Rattle.field.specs.Inverses as inverses
use Rattle.field256.specs.Polynomials.{residue_product, polynomial_product, polynomials}
use Rattle.field256.specs.Tables.{power}
use Rattle.field256.specs.Linear.{linear_zero}
use Rattle.field256.specs.Products.{residue_bilinear, residue_comm, residue_assoc, residue_one, residue_below}
use Rattle.field256.specs.Powers.{power_below, power_add, power_mod, power_zero, exponent}

low : (a : ℕ) → a % 256 < 256
low a = mod-lt a (lit< tt)

product_below : (a b : ℕ) → polynomial_product a b < 256
product_below a b = residue_below (a % 256) (b % 256) (low a) (low b)

product_rem : (a b : ℕ) → polynomial_product (a % 256) b ≡ polynomial_product a b
product_rem a b = ap (λ n. residue_product n (b % 256)) (mod-mod a 256)

product_comm : (a b : ℕ) → polynomial_product a b ≡ polynomial_product b a
product_comm a b = residue_comm (a % 256) (b % 256) (low a) (low b)

product_assoc : (a b c : ℕ) →
    polynomial_product (polynomial_product a b) c ≡ polynomial_product a (polynomial_product b c)
product_assoc a b c =
    ap (λ n. residue_product n (c % 256)) (mod-eq_of_lt (product_below a b))
    ∙ residue_assoc (a % 256) (b % 256) (c % 256) (low a) (low b) (low c)
    ∙ ap (residue_product (a % 256)) (sym (mod-eq_of_lt (product_below b c)))

product_one : (a : ℕ) → polynomial_product a 1 ≡ a % 256
product_one a = residue_one (a % 256) (low a)

sum_below : (a b : ℕ) → bit_xor (a % 256) (b % 256) < 256
sum_below a b = xor_lt 8 (a % 256) (b % 256) (low a) (low b)

sum_assoc : (a b c : ℕ) →
    bit_xor (bit_xor (a % 256) (b % 256) % 256) (c % 256) ≡ bit_xor (a % 256) (bit_xor (b % 256) (c % 256) % 256)
sum_assoc a b c =
    ap (λ n. bit_xor n (c % 256)) (mod-eq_of_lt (sum_below a b)) ∙ xor_assoc (a % 256) (b % 256) (c % 256)
    ∙ ap (bit_xor (a % 256)) (sym (mod-eq_of_lt (sum_below b c)))

product_sum : (a b c : ℕ) → polynomial_product a (bit_xor (b % 256) (c % 256))
    ≡ bit_xor (polynomial_product a b % 256) (polynomial_product a c % 256)
product_sum a b c =
    ap (residue_product (a % 256)) (mod-eq_of_lt (sum_below b c))
    ∙ residue_bilinear.right (a % 256) (b % 256) (c % 256)
    ∙ sym (ap (λ n. bit_xor n (polynomial_product a c % 256)) (mod-eq_of_lt (product_below a b))
    ∙ ap (bit_xor (polynomial_product a b)) (mod-eq_of_lt (product_below a c)))

-- products and inverses by exponents
pub product_power : (i j a b : ℕ) → i < 255 → j < 255 → power i ≡ a → power j ≡ b →
    power ((i + j) % 255) ≡ polynomial_product a b
product_power i j a b below-i below-j e f =
    power_mod (i + j) (omega arith) ∙ sym (power_add i j) ∙ ap (λ n. residue_product n (power j)) (code i a e)
    ∙ ap (residue_product (a % 256)) (code j b f) where
      code : (k c : ℕ) → power k ≡ c → power k ≡ c % 256
      code k c is = sym (mod-eq_of_lt (power_below k)) ∙ ap (λ n. n % 256) is

pub product_inverse : (i a : ℕ) → i < 255 → power i ≡ a → polynomial_product a (power ((255 - i) % 255)) ≡ 1
product_inverse i a below e =
    let whole : (i + (255 - i) % 255) % 255 ≡ 0 = omega arith in
    sym (product_power i ((255 - i) % 255) a (power ((255 - i) % 255)) below (mod-lt (255 - i) (lit< tt)) e refl)
    ∙ ap power whole ∙ power_zero

inverse_none : (a : ℕ) → polynomials.inverse a ≡ None → a % 256 ≡ 0
inverse_none a e =
    elim (dec_lt 0 (a % 256)) [
      | yes positive ↦ (let found = exponent (a % 256) positive (low a) in
          let x : ℕ = power ((255 - found.0) % 255) in
          absurd (inverses.inverse_none 256 polynomial_product a e x (power_below ((255 - found.0) % 255))
          (sym (product_rem a x) ∙ product_inverse found.0 (a % 256) found.1.0 found.1.1)))
      | no zero_rest ↦ omega arith
    ]

pub polynomials_field : IsField polynomials
polynomials_field = record {
  two = lit≤ tt;
  small = lit≤ tt;
  plus_below = sum_below;
  minus_below = low;
  times_below = product_below;
  plus_rem = λ a b. ap (λ n. bit_xor n (b % 256)) (mod-mod a 256);
  minus_rem = λ a. mod-mod a 256;
  times_rem = product_rem;
  plus_comm = λ a b. xor_comm (a % 256) (b % 256);
  plus_assoc = sum_assoc;
  plus_zero = λ a. xor_zero_r (a % 256);
  plus_minus = λ a. ap (bit_xor (a % 256)) (mod-mod a 256) ∙ xor_self (a % 256);
  times_comm = product_comm;
  times_assoc = product_assoc;
  times_one = product_one;
  times_plus = product_sum;
  inverse_rem = λ a. inverses.inverse_same 256 polynomial_product (a % 256) a (product_rem a);
  inverse_some = inverses.inverse_some 256 polynomial_product;
  inverse_none = inverse_none;
}

pub inverse_power : (i a : ℕ) → i < 255 → power i ≡ a → polynomials.inverse a ≡ Some (power ((255 - i) % 255))
inverse_power i a below e =
    inverses.inverse_is 256 polynomial_product product_comm product_assoc product_one a (power ((255 - i) % 255))
    (power_below ((255 - i) % 255)) (product_inverse i a below e)

-- zero
pub product_zero_left : (b : ℕ) → polynomial_product 0 b ≡ 0
product_zero_left b = linear_zero (λ a. residue_product a (b % 256)) (residue_bilinear.left (b % 256))

pub inverse_zero : polynomials.inverse 0 ≡ None
inverse_zero = inverses.no_inverse 256 polynomial_product 0 (λ x less e. omega (arith, sym e ∙ product_zero_left x))

pub product_zero_right : (a : ℕ) → polynomial_product a 0 ≡ 0
product_zero_right a = linear_zero (residue_product (a % 256)) (residue_bilinear.right (a % 256))

-- Calculation modulo a prime obeys the laws of a field, and the inversion by remainders finds the inverse.
use Rattle.std.specs.Prelude.{◌≡◌, ℕ, ◌+◌, ◌-◌, ◌*◌, ◌/◌, ◌%◌, ◌<◌, Some, None, ◌≢◌}
use Rattle.std.proofs.Common.{sym, ap, ◌∙◌, arith, mod-lt, add_comm, add_assoc, add-zero, mul_comm, mul_assoc, mul-one, mul-add, zero-mul, mod-eq_of_lt}
use Rattle.std.proofs.Math.Nat.{mod-mod, mod-add-mod, add-mod-mod, zero-mod}
use Rattle.std.proofs.Math.Decide.{dec_lt}
use Rattle.field.specs.Codes.{IsField}
use Rattle.field.specs.Residues.{residues, product_modulo, IsPrime}
use Rattle.field.specs.Remainders.{mod_mul_mod, mul_mod_mod, add_negative, inversion_step}
use Rattle.field.specs.Inverses as inverses
use Rattle.field.specs.Primes.{unit, rest_positive}

product_assoc : (q a b c : ℕ) →
    product_modulo q (product_modulo q a b) c ≡ product_modulo q a (product_modulo q b c)
product_assoc q a b c =
    mod_mul_mod q (a * b) c ∙ ap (λ n. n % q) (mul_assoc a b c) ∙ sym (mul_mod_mod q a (b * c))

product_sum : (q a b c : ℕ) → (a * ((b + c) % q)) % q ≡ ((a * b) % q + (a * c) % q) % q
product_sum q a b c =
    mul_mod_mod q a (b + c) ∙ ap (λ n. n % q) (mul-add a b c)
    ∙ sym (add-mod-mod (a * b % q) (a * c) q ∙ mod-add-mod (a * b) q (a * c))

inverse_none : (q a : ℕ) → IsPrime q → (residues q).inverse a ≡ None → a % q ≡ 0
inverse_none q a prime e =
    elim (dec_lt 0 (a % q)) [
      | yes positive ↦ (let found = unit q a prime positive in
          absurd (inverses.inverse_none q (product_modulo q) a e found.0 found.1.0 found.1.1))
      | no zero_rest ↦ omega arith
    ]

pub residues_field : (q : ℕ) → IsPrime q → IsField (residues q)
residues_field q prime = record {
  two = prime.two;
  small = omega arith;
  plus_below = λ a b. mod-lt (a + b) positive;
  minus_below = λ a. mod-lt (q - a % q) positive;
  times_below = λ a b. mod-lt (a * b) positive;
  plus_rem = λ a b. mod-add-mod a q b;
  minus_rem = λ a. ap (λ n. (q - n) % q) (mod-mod a q);
  times_rem = mod_mul_mod q;
  plus_comm = λ a b. ap (λ n. n % q) (add_comm a b);
  plus_assoc = λ a b c. mod-add-mod (a + b) q c ∙ ap (λ n. n % q) (add_assoc a b c) ∙ sym (add-mod-mod a (b + c) q);
  plus_zero = λ a. ap (λ n. n % q) (add-zero a);
  plus_minus = λ a. add_negative q a positive;
  times_comm = λ a b. ap (λ n. n % q) (mul_comm a b);
  times_assoc = product_assoc q;
  times_one = λ a. ap (λ n. n % q) (mul-one a);
  times_plus = product_sum q;
  inverse_rem = λ a. inverses.inverse_same q (product_modulo q) (a % q) a (mod_mul_mod q a);
  inverse_some = inverses.inverse_some q (product_modulo q);
  inverse_none = λ a e. inverse_none q a prime e;
} where
  positive : 0 < q
  positive = omega (arith, prime.two)

-- a turn of the inversion: what is kept of the factor s and the rest r
pub inversion_more : (q a r s : ℕ) → IsPrime q → 1 < r → r < q → (s * a) % q ≡ r →
    ((q - (q / r * s) % q) % q < q) × (q % r < q) × (((q - (q / r * s) % q) % q * a) % q ≡ q % r)
    × (q % r ≡ 0 → a % q ≡ 0)
inversion_more q a r s prime more less e =
    let smaller : q % r < r = mod-lt q (omega arith) in
    let rest_below : q % r < q = omega arith in (
      mod-lt (q - (q / r * s) % q) (omega arith),
      rest_below,
      inversion_step q a r s (omega arith) (e ∙ sym (mod-eq_of_lt less)) ∙ mod-eq_of_lt rest_below,
      λ none. absurd (omega (arith, rest_positive q r prime more less)),
    )

-- what the inversion returns where the rest is 1
pub inverse_found : (q a x : ℕ) → x < q → (x * a) % q ≡ 1 → (residues q).inverse a ≡ Some x
inverse_found q a x less e =
    inverses.inverse_is q (product_modulo q) (λ a b. ap (λ n. n % q) (mul_comm a b)) (product_assoc q)
    (λ a. ap (λ n. n % q) (mul-one a)) a x less (ap (λ n. n % q) (mul_comm a x) ∙ e)

-- and where the rest is 0
pub inverse_absent : (q a : ℕ) → a % q ≡ 0 → (residues q).inverse a ≡ None
inverse_absent q a e = inverses.no_inverse q (product_modulo q) a never where
  never : (x : ℕ) → x < q → (a * x) % q ≢ 1
  never x less is =
      omega (
        arith,
        sym is ∙ sym (mod_mul_mod q a x) ∙ ap (λ n. (n * x) % q) e ∙ ap (λ n. n % q) (zero-mul x)
            ∙ zero-mod q,
      )

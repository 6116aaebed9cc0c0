-- Sums, products and negatives modulo a number.
--
-- Assumed: where a negative stands, the number is not 0. Operands are any numbers.
use Rattle.std.specs.Prelude.{◌≡◌, ℕ, ◌+◌, ◌-◌, ◌*◌, ◌/◌, ◌%◌, ◌<◌}
use Rattle.std.proofs.Common.{sym, ap, ◌∙◌, mod-lt, add_comm, add_assoc, mul_comm, mul_assoc, add-mul, add-zero, zero-mul, arith}
use Rattle.std.proofs.Math.Nat.{mod-add-mod, add-mod-mod, zero-mod, mod_self, div-add-mod, mul-add-mod_self_left, mod-add-div'}

pub mod_mul_mod : (q a b : ℕ) → (a % q * b) % q ≡ (a * b) % q
mod_mul_mod q a b =
    sym (mul-add-mod_self_left q (a / q * b) (a % q * b))
    ∙ ap (λ n. n % q) (rw (← mul_assoc q (a / q) b, ← add-mul (q * (a / q)) (a % q) b, div-add-mod a q))

pub mul_mod_mod : (q a b : ℕ) → (a * (b % q)) % q ≡ (a * b) % q
mul_mod_mod q a b = rw (mul_comm a (b % q), mul_comm a b) (mod_mul_mod q b a)

-- a number and its negative
pub add_negative : (q a : ℕ) → 0 < q → (a + (q - a % q) % q) % q ≡ 0
add_negative q a positive =
    let below : a % q < q = mod-lt a positive in
    let whole : a % q + (q - a % q) ≡ q = omega arith in
    add-mod-mod a (q - a % q) q ∙ sym (mod-add-mod a q (q - a % q)) ∙ ap (λ n. n % q) whole ∙ mod_self q

-- what is added on both sides cancels
pub add_cancel : (q x y z : ℕ) → 0 < q → (x + z) % q ≡ (y + z) % q → x % q ≡ y % q
add_cancel q x y z positive e =
    sym (back x) ∙ ap (λ n. (n + (q - z % q) % q) % q) e ∙ back y where
      back : (w : ℕ) → ((w + z) % q + (q - z % q) % q) % q ≡ w % q
      back w =
          mod-add-mod (w + z) q ((q - z % q) % q) ∙ ap (λ n. n % q) (add_assoc w z ((q - z % q) % q))
          ∙ sym (add-mod-mod w (z + (q - z % q) % q) q) ∙ ap (λ n. (w + n) % q) (add_negative q z positive)
          ∙ ap (λ n. n % q) (add-zero w)

-- one turn of the inversion: a multiple s * a equal to r gives a multiple of `a` equal to the remainder of q by r
pub inversion_step : (q a r s : ℕ) → 0 < q → (s * a) % q ≡ r % q →
    ((q - (q / r * s) % q) % q * a) % q ≡ (q % r) % q
inversion_step q a r s positive e =
    add_cancel q (n * a) (q % r) (t * a) positive (left ∙ sym right) where
      t : ℕ
      t = q / r * s

      n : ℕ
      n = (q - t % q) % q

      left : (n * a + t * a) % q ≡ 0
      left = ap (λ m. m % q) (sym (add-mul n t a)) ∙ sym (mod_mul_mod q (n + t) a)
          ∙ ap (λ m. (m * a) % q) (ap (λ m. m % q) (add_comm n t) ∙ add_negative q t positive)
          ∙ ap (λ m. m % q) (zero-mul a) ∙ zero-mod q

      right : (q % r + t * a) % q ≡ 0
      right = sym (add-mod-mod (q % r) (t * a) q)
          ∙ ap (λ m. (q % r + m) % q) (ap (λ m. m % q) (mul_assoc (q / r) s a) ∙ sym (mul_mod_mod q (q / r) (s * a))
          ∙ ap (λ m. (q / r * m) % q) e ∙ mul_mod_mod q (q / r) r)
          ∙ add-mod-mod (q % r) (q / r * r) q ∙ ap (λ m. m % q) (mod-add-div' q r) ∙ mod_self q

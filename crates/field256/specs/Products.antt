-- The product of polynomials modulo the modulus is linear in each argument, commutative and associative.
--
-- Each law is computed on the powers of t below degree 8 and carried to all codes, since its sides are linear.
use Rattle.std.specs.Prelude.{◌≡◌, ℕ, zero, suc, ◌+◌, ◌*◌, ◌/◌, ◌%◌, ◌^◌, ◌<◌, true, bit_xor, nat_eq, refl}
use Rattle.std.proofs.Common.{sym, ap, subst, ◌∙◌, pow_pos, arith, mod-lt, add-zero, zero-mul, one-mul, mul_comm, eqb-true}
use Rattle.std.specs.Int.Bits.{xor_self, xor_assoc, xor_zero_r}
use Rattle.std.proofs.lemmas.Nat.{xor_comm, xor_shr, xor_mod, xor_block}
use Rattle.field.specs.Below.{all_below, all_below_at}
use Rattle.field256.specs.Polynomials.{coefficient, product, remainder, residue_product, modulus}
use Rattle.field256.specs.Linear.{Linear, Bilinear, linear_same, agree_on_bits, bilinear_same}

coefficient_xor : (n : ℕ) → Linear (λ a. coefficient a n)
coefficient_xor n a b = ap (λ m. m % 2) (xor_shr a b n) ∙ xor_mod (a / 2 ^ n) (b / 2 ^ n) 1

coefficient_below : (a n : ℕ) → coefficient a n < 2
coefficient_below a n = mod-lt (a / 2 ^ n) (omega arith)

-- exclusive ors of coefficients times a polynomial
xor_mul : (z c d : ℕ) → c < 2 → d < 2 → bit_xor c d * z ≡ bit_xor (c * z) (d * z)
xor_mul z zero d h k = simp zero-mul
xor_mul z (suc zero) zero h k = rw zero-mul (sym (xor_zero_r (1 * z)))
xor_mul z (suc zero) (suc zero) h k = zero-mul z ∙ sym (xor_self (1 * z))
xor_mul z (suc zero) (suc (suc d)) h k = absurd (omega arith)
xor_mul z (suc (suc c)) d h k = absurd (omega arith)

mul_xor : (c : ℕ) → c < 2 → Linear (λ x. c * x)
mul_xor zero h x y = simp zero-mul
mul_xor (suc zero) h x y = simp one-mul
mul_xor (suc (suc c)) h x y = absurd (omega arith)

shift_xor : (n : ℕ) → Linear (λ x. 2 ^ n * x)
shift_xor n x y =
    rw (mul_comm (2 ^ n) x, mul_comm (2 ^ n) y, mul_comm (2 ^ n) (bit_xor x y))
    (sym (simp add-zero at (xor_block n x y 0 0 (pow_pos n) (pow_pos n))))

xor_regroup : (a b c d : ℕ) → bit_xor (bit_xor a b) (bit_xor c d) ≡ bit_xor (bit_xor a c) (bit_xor b d)
xor_regroup a b c d =
    xor_assoc a b (bit_xor c d)
    ∙ ap (bit_xor a) (sym (xor_assoc b c d) ∙ ap (λ x. bit_xor x d) (xor_comm b c) ∙ xor_assoc c b d)
    ∙ sym (xor_assoc a c (bit_xor b d))

product_left : (n b : ℕ) → Linear (λ a. product n a b)
unfolding product
product_left zero b x y = refl
product_left (suc n) b x y =
    ap (λ p. bit_xor p (coefficient (bit_xor x y) n * (2 ^ n * b))) (product_left n b x y)
    ∙ ap (bit_xor (bit_xor (product n x b) (product n y b)))
    (ap (λ c. c * (2 ^ n * b)) (coefficient_xor n x y)
    ∙ xor_mul (2 ^ n * b) (coefficient x n) (coefficient y n) (coefficient_below x n) (coefficient_below y n))
    ∙ xor_regroup (product n x b) (product n y b) (coefficient x n * (2 ^ n * b)) (coefficient y n * (2 ^ n * b))

product_right : (n a : ℕ) → Linear (product n a)
unfolding product
product_right zero a x y = refl
product_right (suc n) a x y =
    ap (λ p. bit_xor p (coefficient a n * (2 ^ n * bit_xor x y))) (product_right n a x y)
    ∙ ap (bit_xor (bit_xor (product n a x) (product n a y)))
    (ap (λ z. coefficient a n * z) (shift_xor n x y)
    ∙ mul_xor (coefficient a n) (coefficient_below a n) (2 ^ n * x) (2 ^ n * y))
    ∙ xor_regroup (product n a x) (product n a y) (coefficient a n * (2 ^ n * x)) (coefficient a n * (2 ^ n * y))

remainder_linear : (n : ℕ) → Linear (remainder n)
unfolding remainder
remainder_linear zero x y = refl
remainder_linear (suc n) x y =
    let z : ℕ = 2 ^ n * modulus in
    let cx : ℕ = coefficient x (8 + n) in
    let cy : ℕ = coefficient y (8 + n) in
    ap (λ c. remainder n (bit_xor (bit_xor x y) (c * z))) (coefficient_xor (8 + n) x y)
    ∙ ap (λ w. remainder n (bit_xor (bit_xor x y) w))
    (xor_mul z cx cy (coefficient_below x (8 + n)) (coefficient_below y (8 + n)))
    ∙ ap (remainder n) (xor_regroup x y (cx * z) (cy * z))
    ∙ remainder_linear n (bit_xor x (cx * z)) (bit_xor y (cy * z))

pub residue_bilinear : Bilinear residue_product
unfolding residue_product
residue_bilinear = record {
  left = λ b x y. ap (remainder 7) (product_left 8 b x y) ∙ remainder_linear 7 (product 8 x b) (product 8 y b);
  right = λ a x y. ap (remainder 7) (product_right 8 a x y) ∙ remainder_linear 7 (product 8 a x) (product 8 a y);
}

swapped_bilinear : Bilinear (λ a b. residue_product b a)
swapped_bilinear = record { left = residue_bilinear.right; right = residue_bilinear.left }

comm_test : agree_on_bits residue_product (λ a b. residue_product b a) ≡ true
unfolding product remainder residue_product
comm_test = refl

pub residue_comm : (a b : ℕ) → a < 256 → b < 256 → residue_product a b ≡ residue_product b a
residue_comm =
    bilinear_same residue_product (λ a b. residue_product b a) residue_bilinear swapped_bilinear comm_test

below_test : agree_on_bits residue_product (λ a b. residue_product a b % 256) ≡ true
unfolding product remainder residue_product
below_test = refl

low_bilinear : Bilinear (λ a b. residue_product a b % 256)
low_bilinear = record {
  left = λ b x y. ap (λ n. n % 256) (residue_bilinear.left b x y)
      ∙ xor_mod (residue_product x b) (residue_product y b) 8;
  right = λ a x y. ap (λ n. n % 256) (residue_bilinear.right a x y)
      ∙ xor_mod (residue_product a x) (residue_product a y) 8;
}

pub residue_below : (a b : ℕ) → a < 256 → b < 256 → residue_product a b < 256
residue_below a b below-a below-b =
    let same : residue_product a b ≡ residue_product a b % 256 =
    bilinear_same residue_product (λ a b. residue_product a b % 256) residue_bilinear low_bilinear below_test
    a b below-a below-b in
    subst (λ n. n < 256) (sym same) (mod-lt (residue_product a b) (omega arith))

one_test : all_below (λ m. nat_eq (residue_product (2 ^ m) 1) (2 ^ m)) 8 ≡ true
unfolding product remainder residue_product
one_test = refl

pub residue_one : (a : ℕ) → a < 256 → residue_product a 1 ≡ a
residue_one = linear_same (λ a. residue_product a 1) (λ a. a) (residue_bilinear.left 1) (λ x y. refl) 8 at where
  at : (m : ℕ) → m < 8 → residue_product (2 ^ m) 1 ≡ 2 ^ m
  at m h =
      eqb-true (residue_product (2 ^ m) 1) (2 ^ m)
      (all_below_at (λ k. nat_eq (residue_product (2 ^ k) 1) (2 ^ k)) 8 one_test m h)

-- the two sides of associativity
abbrev pub first_two : ℕ → ℕ → ℕ → ℕ
first_two a b c = residue_product (residue_product a b) c

abbrev pub last_two : ℕ → ℕ → ℕ → ℕ
last_two a b c = residue_product a (residue_product b c)

first_two_bilinear : (a : ℕ) → Bilinear (first_two a)
first_two_bilinear a = record {
  left = λ c x y. ap (λ n. residue_product n c) (residue_bilinear.right a x y)
      ∙ residue_bilinear.left c (residue_product a x) (residue_product a y);
  right = λ b. residue_bilinear.right (residue_product a b);
}

last_two_bilinear : (a : ℕ) → Bilinear (last_two a)
last_two_bilinear a = record {
  left = λ c x y. ap (residue_product a) (residue_bilinear.left c x y)
      ∙ residue_bilinear.right a (residue_product x c) (residue_product y c);
  right = λ b x y. ap (residue_product a) (residue_bilinear.right b x y)
      ∙ residue_bilinear.right a (residue_product b x) (residue_product b y);
}

assoc_test : all_below (λ m. agree_on_bits (first_two (2 ^ m)) (last_two (2 ^ m))) 8 ≡ true
unfolding product remainder residue_product
assoc_test = refl

pub residue_assoc : (a b c : ℕ) → a < 256 → b < 256 → c < 256 → first_two a b c ≡ last_two a b c
residue_assoc a b c below-a below-b below-c =
    linear_same (λ x. first_two x b c) (λ x. last_two x b c) linear_two (residue_bilinear.left (residue_product b c))
    8 at a below-a where
      linear_two : Linear (λ x. first_two x b c)
      linear_two x y =
          ap (λ n. residue_product n c) (residue_bilinear.left b x y)
          ∙ residue_bilinear.left c (residue_product x b) (residue_product y b)

      at : (m : ℕ) → m < 8 → first_two (2 ^ m) b c ≡ last_two (2 ^ m) b c
      at m h =
          bilinear_same (first_two (2 ^ m)) (last_two (2 ^ m)) (first_two_bilinear (2 ^ m)) (last_two_bilinear (2 ^ m))
          (all_below_at (λ k. agree_on_bits (first_two (2 ^ k)) (last_two (2 ^ k))) 8 assoc_test m h) b c below-b below-c

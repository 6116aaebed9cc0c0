-- Primes by a computed test, and the inverses that their residues have.
use Rattle.std.specs.Prelude.{◌≡◌, ℕ, zero, suc, ◌-◌, ◌*◌, ◌/◌, ◌%◌, ◌<◌, ◌≤◌, Bool, true, ◌||◌, ◌⊎◌, nat_lt, refl}
use Rattle.std.proofs.Common.{sym, ap, ◌∙◌, inl, inr, arith, mod-lt, mod-eq_of_lt, mul_comm, one-mul, ltb-true}
use Rattle.std.proofs.Math.Nat.{mod-zero}
use Rattle.std.proofs.Math.Decide.{dec_lt}
use Rattle.std.proofs.lemmas.Bool.{or_cases, cases_order}
use Rattle.field.specs.Residues.{IsPrime}
use Rattle.field.specs.Below.{all_below, all_below_at}
use Rattle.field.specs.Remainders.{mod_mul_mod, inversion_step}

-- a number from 2 on leaves a remainder
abbrev pub no_divisor : ℕ → ℕ → Bool
no_divisor q d = nat_lt d 2 || nat_lt 0 (q % d)

no_divisor_at : (q d : ℕ) → no_divisor q d ≡ true → 2 ≤ d → 0 < q % d
no_divisor_at q d t h =
    elim (or_cases (nat_lt d 2) (nat_lt 0 (q % d)) t)
    [ inl s ↦ absurd (omega (arith, ltb-true d 2 s)) | inr s ↦ ltb-true 0 (q % d) s ]

pub prime_by_test : (q : ℕ) → 2 ≤ q → q ≤ 251 → all_below (no_divisor q) q ≡ true → IsPrime q
prime_by_test q two small t = record { two = two; small = small; divisors = divisors } where
  divisors : (d : ℕ) → q % d ≡ 0 → (d ≡ 1) ⊎ (d ≡ q)
  divisors zero e = absurd (omega (arith, mod-zero q))
  divisors (suc zero) e = inl refl
  divisors (suc (suc n)) e =
      elim (cases_order (suc (suc n)) q) [
        | inl same ↦ inr same
        | inr (inl less) ↦
            (let passed : no_divisor q (suc (suc n)) ≡ true = all_below_at (no_divisor q) q t (suc (suc n)) less in
            absurd (omega (arith, no_divisor_at q (suc (suc n)) passed (omega arith))))
        | inr (inr more) ↦ absurd (omega (arith, mod-eq_of_lt more))
      ]

pub rest_positive : (q r : ℕ) → IsPrime q → 1 < r → r < q → 0 < q % r
rest_positive q r prime more less =
    elim (dec_lt 0 (q % r)) [
      | yes positive ↦ positive
      | no none ↦ (let zero_rest : q % r ≡ 0 = omega arith in
          elim (prime.divisors r zero_rest) [ inl one ↦ absurd (omega arith) | inr whole ↦ absurd (omega arith) ])
    ]

module _ (q a : ℕ) (prime : IsPrime q) where
  -- by smaller and smaller multiples of a
  from_multiple : (n r s : ℕ) → r ≤ n → 0 < r → r < q → (s * a) % q ≡ r → (x : ℕ) × ((x < q) × ((a * x) % q ≡ 1))
  from_multiple zero r s fuel positive less e = absurd (omega arith)
  from_multiple (suc n) r s fuel positive less e =
      elim (dec_lt 1 r) [
        | yes more ↦ (let smaller : q % r < r = mod-lt q positive in
            let step : ((q - (q / r * s) % q) % q * a) % q ≡ q % r =
            inversion_step q a r s (omega arith) (e ∙ sym (mod-eq_of_lt less)) ∙ mod-eq_of_lt (omega arith) in
            from_multiple n (q % r) ((q - (q / r * s) % q) % q) (omega arith) (rest_positive q r prime more less)
            (omega arith) step)
        | no last ↦ (let one : r ≡ 1 = omega arith in
            (s % q, (mod-lt s (omega arith), ap (λ n. n % q) (mul_comm a (s % q)) ∙ mod_mul_mod q s a ∙ e ∙ one)))
      ]

  pub unit : 0 < a % q → (x : ℕ) × ((x < q) × ((a * x) % q ≡ 1))
  unit positive =
      from_multiple (a % q) (a % q) 1 (omega arith) positive (mod-lt a (omega arith)) (ap (λ n. n % q) (one-mul a))

-- Zero, one and negatives in a field of codes, from its laws alone.
use Rattle.std.proofs.Common.{◌≡◌, ℕ, ◌<◌, sym, ap, ◌∙◌, mod-eq_of_lt, arith}
use Rattle.field.specs.Codes.{Codes, IsField}

-- equal terms have equal sums
pub plus_both : (f : Codes) {a b c d : ℕ} → a ≡ b → c ≡ d → f.plus a c ≡ f.plus b d
plus_both f {b = b} {c = c} p q = ap (λ (x : ℕ). f.plus x c) p ∙ ap (f.plus b) q

module _ (f : Codes) (law : IsField f) where
  pub zero_lt_order : 0 < f.order
  zero_lt_order = omega (arith, law.two)

  pub one_lt_order : 1 < f.order
  one_lt_order = omega (arith, law.two)

  -- a code stays as it is under the addition of zero and the multiplication by one
  pub plus_zero_code : (a : ℕ) → a < f.order → f.plus a 0 ≡ a
  plus_zero_code a below = law.plus_zero a ∙ mod-eq_of_lt below

  pub zero_plus_code : (a : ℕ) → a < f.order → f.plus 0 a ≡ a
  zero_plus_code a below = law.plus_comm 0 a ∙ plus_zero_code a below

  pub times_one_code : (a : ℕ) → a < f.order → f.times a 1 ≡ a
  times_one_code a below = law.times_one a ∙ mod-eq_of_lt below

  pub zero_plus_zero : f.plus 0 0 ≡ 0
  zero_plus_zero = plus_zero_code 0 zero_lt_order

  -- the middle two of four change places
  pub plus_four : (a b c d : ℕ) → f.plus (f.plus a b) (f.plus c d) ≡ f.plus (f.plus a c) (f.plus b d)
  plus_four a b c d =
      law.plus_assoc a b (f.plus c d)
      ∙ ap (f.plus a)
      (sym (law.plus_assoc b c d) ∙ ap (λ (x : ℕ). f.plus x d) (law.plus_comm b c) ∙ law.plus_assoc c b d)
      ∙ sym (law.plus_assoc a c (f.plus b d))

  -- what adds up to zero with a code is its negative
  pub minus_from_plus : (a b : ℕ) → b < f.order → f.plus a b ≡ 0 → b ≡ f.minus a
  minus_from_plus a b below e =
      sym (zero_plus_code b below)
      ∙ ap (λ (x : ℕ). f.plus x b) (sym (law.plus_minus a) ∙ law.plus_comm a (f.minus a))
      ∙ law.plus_assoc (f.minus a) a b ∙ ap (f.plus (f.minus a)) e
      ∙ plus_zero_code (f.minus a) (law.minus_below a)

  pub times_zero : (a : ℕ) → f.times a 0 ≡ 0
  times_zero a =
      let x : ℕ = f.times a 0 in
      let twice : f.plus x x ≡ x = sym (law.times_plus a 0 0) ∙ ap (f.times a) zero_plus_zero in
      sym (plus_zero_code x (law.times_below a 0)) ∙ ap (f.plus x) (sym (law.plus_minus x))
      ∙ sym (law.plus_assoc x x (f.minus x)) ∙ ap (λ (y : ℕ). f.plus y (f.minus x)) twice ∙ law.plus_minus x

  pub zero_times : (a : ℕ) → f.times 0 a ≡ 0
  zero_times a = law.times_comm 0 a ∙ times_zero a

  pub times_minus : (a b : ℕ) → f.times a (f.minus b) ≡ f.minus (f.times a b)
  times_minus a b =
      minus_from_plus (f.times a b) (f.times a (f.minus b)) (law.times_below a (f.minus b))
      (sym (law.times_plus a b (f.minus b)) ∙ ap (f.times a) (law.plus_minus b) ∙ times_zero a)

  pub minus_minus : (a : ℕ) → a < f.order → f.minus (f.minus a) ≡ a
  minus_minus a below =
      sym (minus_from_plus (f.minus a) a below (law.plus_comm (f.minus a) a ∙ law.plus_minus a))

  -- the product of -1 with 1 is -1, and with itself 1
  pub one_times_minus_one : f.times 1 (f.minus 1) ≡ f.minus 1
  one_times_minus_one = times_minus 1 1 ∙ ap f.minus (times_one_code 1 one_lt_order)

  pub minus_one_squared : f.times (f.minus 1) (f.minus 1) ≡ 1
  minus_one_squared =
      times_minus (f.minus 1) 1 ∙ ap f.minus (times_one_code (f.minus 1) (law.minus_below 1))
      ∙ minus_minus 1 one_lt_order

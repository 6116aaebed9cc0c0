-- Numerals with equally many digits: the order of the lists is that of the numbers.
--
-- Each digit is below the radix; the number before the digits is any.
use Rattle.std.specs.Prelude.{◌≡◌, ℕ, suc, ◌+◌, ◌*◌, ◌<◌, ◌≤◌, ◌⊎◌, ◌↔◌, List, [], ◌∷◌, length, refl}
use Rattle.std.proofs.Common.{ap, inl, inr, suc-mul, mul-le-mul_right, arith}
use Rattle.std.specs.List.{AllByRecursion}
use Rattle.std.proofs.lemmas.Bool.{cases_order}
use Rattle.cell.specs.Digits.{numeral, Before}

module _ (radix : ℕ) where
  -- each number of the list is below the radix
  abbrev pub Digits : List ℕ → Type 0
  Digits xs = AllByRecursion (λ x. x < radix) xs

  -- a digit does not make up for a lower number before it
  digit_lower : (n m x y : ℕ) → x < radix → n < m → n * radix + x < m * radix + y
  digit_lower n m x y h l =
      let e : suc n * radix ≤ m * radix = mul-le-mul_right radix l in omega (arith, suc-mul n radix)

  module _ (n m x y : ℕ) (h : x < radix) (k : y < radix) where
    -- the number and the digit are told by what they make
    digit_equal : n * radix + x ≡ m * radix + y → (n ≡ m) × (x ≡ y)
    digit_equal e =
        elim (cases_order n m) [
          | inl q ↦ (let p = ap (λ (i : ℕ). i * radix) q in (q, omega arith))
          | inr (inl l) ↦ absurd (omega (arith, digit_lower n m x y h l))
          | inr (inr l) ↦ absurd (omega (arith, digit_lower m n y x k l))
        ]

    digit_ascends : n * radix + x < m * radix + y → (n < m) ⊎ ((n ≡ m) × (x < y))
    digit_ascends s =
        elim (cases_order n m) [
          | inl q ↦ (let p = ap (λ (i : ℕ). i * radix) q in inr (q, omega arith))
          | inr (inl l) ↦ inl l
          | inr (inr l) ↦ absurd (omega (arith, digit_lower m n y x k l))
        ]

    -- one more digit before two lists
    before_more :
        (xs ys : List ℕ) → Before ((n * radix + x) ∷ xs) ((m * radix + y) ∷ ys) → Before (n ∷ x ∷ xs) (m ∷ y ∷ ys)
    before_more xs ys (inl l) = elim (digit_ascends l) [ inl s ↦ inl s | inr s ↦ inr (s.0, inl s.1) ]
    before_more xs ys (inr (e, b)) = let s = digit_equal e in inr (s.0, inr (s.1, b))

    before_less :
        (xs ys : List ℕ) → Before (n ∷ x ∷ xs) (m ∷ y ∷ ys) → Before ((n * radix + x) ∷ xs) ((m * radix + y) ∷ ys)
    before_less xs ys (inl l) = inl (digit_lower n m x y h l)
    before_less xs ys (inr (e, inl l)) = let p = ap (λ (i : ℕ). i * radix) e in inl (omega arith)
    before_less xs ys (inr (e, inr (q, b))) = let p = ap (λ (i : ℕ). i * radix) e in inr (omega arith, b)

  pub numeral_ascends :
      (n m : ℕ) (xs ys : List ℕ) → Digits xs → Digits ys → length xs ≡ length ys
      → (numeral radix n xs < numeral radix m ys) ↔ Before (n ∷ xs) (m ∷ ys)
  numeral_ascends n m [] [] d e q = (inl, λ s. elim s [ inl l ↦ l | inr t ↦ absurd t.1 ])
  numeral_ascends n m [] (y ∷ ys) d e q = absurd (omega arith)
  numeral_ascends n m (x ∷ xs) [] d e q = absurd (omega arith)
  numeral_ascends n m (x ∷ xs) (y ∷ ys) (h, d) (k, e) q =
      let rest = numeral_ascends (n * radix + x) (m * radix + y) xs ys d e (omega arith) in
      (λ l. before_more n m x y h k xs ys (rest.0 l), λ b. rest.1 (before_less n m x y h k xs ys b))

  pub numeral_equal :
      (n m : ℕ) (xs ys : List ℕ) → Digits xs → Digits ys → length xs ≡ length ys
      → numeral radix n xs ≡ numeral radix m ys → (n ≡ m) × (xs ≡ ys)
  numeral_equal n m [] [] d e q r = (r, refl)
  numeral_equal n m [] (y ∷ ys) d e q r = absurd (omega arith)
  numeral_equal n m (x ∷ xs) [] d e q r = absurd (omega arith)
  numeral_equal n m (x ∷ xs) (y ∷ ys) (h, d) (k, e) q r =
      let rest = numeral_equal (n * radix + x) (m * radix + y) xs ys d e (omega arith) r in
      let here = digit_equal n m x y h k rest.0 in
      (here.0, cc)

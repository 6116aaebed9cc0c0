-- A finite field of one-byte codes, and its laws.
--
-- The elements are the codes 0 to order - 1. Every operation takes any number: one not below the order
-- stands for its remainder by the order. So the laws have no side condition, and where a law of algebra
-- says `a`, the law here says `a % order`.
use Rattle.std.specs.Prelude.{◌≡◌, ℕ, ◌%◌, ◌<◌, ◌≤◌, Some, None, Option}

-- the operations of a field of codes; the inverse of zero is absent
pub record Codes : Type 0 where
  pub order : ℕ
  pub plus : ℕ → ℕ → ℕ
  pub minus : ℕ → ℕ
  pub times : ℕ → ℕ → ℕ
  pub inverse : ℕ → Option ℕ

-- what makes the codes a field of at most 256 elements: 0 is neutral for sums and 1 for products
pub record IsField (f : Codes) : Type 0 where
  pub two : 2 ≤ f.order
  pub small : f.order ≤ 256
  pub plus_below : (a b : ℕ) → f.plus a b < f.order
  pub minus_below : (a : ℕ) → f.minus a < f.order
  pub times_below : (a b : ℕ) → f.times a b < f.order
  pub plus_rem : (a b : ℕ) → f.plus (a % f.order) b ≡ f.plus a b
  pub minus_rem : (a : ℕ) → f.minus (a % f.order) ≡ f.minus a
  pub times_rem : (a b : ℕ) → f.times (a % f.order) b ≡ f.times a b
  pub plus_comm : (a b : ℕ) → f.plus a b ≡ f.plus b a
  pub plus_assoc : (a b c : ℕ) → f.plus (f.plus a b) c ≡ f.plus a (f.plus b c)
  pub plus_zero : (a : ℕ) → f.plus a 0 ≡ a % f.order
  pub plus_minus : (a : ℕ) → f.plus a (f.minus a) ≡ 0
  pub times_comm : (a b : ℕ) → f.times a b ≡ f.times b a
  pub times_assoc : (a b c : ℕ) → f.times (f.times a b) c ≡ f.times a (f.times b c)
  pub times_one : (a : ℕ) → f.times a 1 ≡ a % f.order
  pub times_plus : (a b c : ℕ) → f.times a (f.plus b c) ≡ f.plus (f.times a b) (f.times a c)
  pub inverse_rem : (a : ℕ) → f.inverse (a % f.order) ≡ f.inverse a
  pub inverse_some : (a x : ℕ) → f.inverse a ≡ Some x → (x < f.order) × (f.times a x ≡ 1)
  pub inverse_none : (a : ℕ) → f.inverse a ≡ None → a % f.order ≡ 0

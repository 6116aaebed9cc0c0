-- Calculation with matrices of all sizes, from the laws of sums and products alone.
--
-- The product takes the number of places that it runs over, as matrices do not tell their sizes. No unit is
-- asked for, and products do not commute. An equation between sums of signed products is proved by
-- `simp signs (simp sorts)`: the first multiplies out and moves negatives to the other side, the second sorts.
use Rattle.std.proofs.Common.{◌≡◌, ℕ, ◌↔◌, sym, ap, ◌∙◌}

pub record Algebra (M : Type 0) : Type 0 where
  pub zer : M
  pub add : M → M → M
  pub neg : M → M
  pub mul : ℕ → M → M → M
  pub add_assoc : (x y z : M) → add (add x y) z ≡ add x (add y z)
  pub add_comm : (x y : M) → add x y ≡ add y x
  pub add_zer : (x : M) → add x zer ≡ x
  pub add_neg : (x : M) → add x (neg x) ≡ zer
  pub mul_assoc : (m n : ℕ) (x y z : M) → mul n (mul m x y) z ≡ mul m x (mul n y z)
  pub mul_add : (n : ℕ) (x y z : M) → mul n x (add y z) ≡ add (mul n x y) (mul n x z)
  pub add_mul : (n : ℕ) (x y z : M) → mul n (add x y) z ≡ add (mul n x z) (mul n y z)

module _ {M : Type 0} (𝓐 : Algebra M) where
  open 𝓐 use {zer, add, neg, mul}

  pub add_assoc : (x y z : M) → add (add x y) z ≡ add x (add y z)
  add_assoc = 𝓐.add_assoc

  pub add_comm : (x y : M) → add x y ≡ add y x
  add_comm = 𝓐.add_comm

  pub add_zer : (x : M) → add x zer ≡ x
  add_zer = 𝓐.add_zer

  pub add_neg : (x : M) → add x (neg x) ≡ zer
  add_neg = 𝓐.add_neg

  pub mul_assoc : (m n : ℕ) (x y z : M) → mul n (mul m x y) z ≡ mul m x (mul n y z)
  mul_assoc = 𝓐.mul_assoc

  pub mul_add : (n : ℕ) (x y z : M) → mul n x (add y z) ≡ add (mul n x y) (mul n x z)
  mul_add = 𝓐.mul_add

  pub add_mul : (n : ℕ) (x y z : M) → mul n (add x y) z ≡ add (mul n x z) (mul n y z)
  add_mul = 𝓐.add_mul

  pub zer_add : (x : M) → add zer x ≡ x
  zer_add x = add_comm zer x ∙ add_zer x

  pub neg_add : (x : M) → add (neg x) x ≡ zer
  neg_add x = add_comm (neg x) x ∙ add_neg x

  pub add_left_comm : (x y z : M) → add x (add y z) ≡ add y (add x z)
  add_left_comm x y z = sym (add_assoc x y z) ∙ ap (λ w. add w z) (add_comm x y) ∙ add_assoc y x z

  -- equal sums with one equal part have the other part equal
  pub add_left_cancel : (x y z : M) → add x y ≡ add x z → y ≡ z
  add_left_cancel x y z h =
      let gone : (w : M) → add (neg x) (add x w) ≡ w =
      λ w. sym (add_assoc (neg x) x w) ∙ ap (λ u. add u w) (neg_add x) ∙ zer_add w in
      sym (gone y) ∙ ap (add (neg x)) h ∙ gone z

  pub zer_mul : (n : ℕ) (x : M) → mul n zer x ≡ zer
  zer_mul n x = sym (add_left_cancel (mul n zer x) zer (mul n zer x)
      (add_zer (mul n zer x) ∙ ap (λ w. mul n w x) (sym (add_zer zer)) ∙ add_mul n zer zer x))

  pub mul_zer : (n : ℕ) (x : M) → mul n x zer ≡ zer
  mul_zer n x = sym (add_left_cancel (mul n x zer) zer (mul n x zer)
      (add_zer (mul n x zer) ∙ ap (mul n x) (sym (add_zer zer)) ∙ mul_add n x zer zer))

  pub neg_unique : (x y : M) → add x y ≡ zer → y ≡ neg x
  neg_unique x y h = add_left_cancel x y (neg x) (h ∙ sym (add_neg x))

  pub neg_mul : (n : ℕ) (x y : M) → mul n (neg x) y ≡ neg (mul n x y)
  neg_mul n x y = neg_unique (mul n x y) (mul n (neg x) y)
      (sym (add_mul n x (neg x) y) ∙ ap (λ w. mul n w y) (add_neg x) ∙ zer_mul n y)

  pub mul_neg : (n : ℕ) (x y : M) → mul n x (neg y) ≡ neg (mul n x y)
  mul_neg n x y = neg_unique (mul n x y) (mul n x (neg y))
      (sym (mul_add n x y (neg y)) ∙ ap (mul n x) (add_neg y) ∙ mul_zer n x)

  pub neg_neg : (x : M) → neg (neg x) ≡ x
  neg_neg x = sym (neg_unique (neg x) x (neg_add x))

  pub neg_zer : neg zer ≡ zer
  neg_zer = sym (neg_unique zer zer (add_zer zer))

  pub neg_of_add : (x y : M) → neg (add x y) ≡ add (neg x) (neg y)
  neg_of_add x y = sym (neg_unique (add x y) (add (neg x) (neg y))
      (simp (add_assoc, add_left_comm y (neg x) (neg y), add_neg, add_zer)))

  -- a sum is brought to the form p - n, and an equation of two such to one with no sign
  pub add_sub : (x y z : M) → add x (add y (neg z)) ≡ add (add x y) (neg z)
  add_sub x y z = sym (add_assoc x y (neg z))

  pub neg_first : (x y : M) → add (neg x) y ≡ add y (neg x)
  neg_first x y = add_comm (neg x) y

  pub sub_add : (x y z : M) → add (add x (neg y)) z ≡ add (add x z) (neg y)
  sub_add x y z = add_assoc x (neg y) z ∙ ap (add x) (add_comm (neg y) z) ∙ sym (add_assoc x z (neg y))

  pub sub_sub : (x y z : M) → add (add x (neg y)) (neg z) ≡ add x (neg (add y z))
  sub_sub x y z = add_assoc x (neg y) (neg z) ∙ ap (add x) (sym (neg_of_add y z))

  pub neg_neg_add : (x y : M) → add (neg x) (neg y) ≡ neg (add x y)
  neg_neg_add x y = sym (neg_of_add x y)

  pub neg_sub : (x y : M) → neg (add x (neg y)) ≡ add y (neg x)
  neg_sub x y = neg_of_add x (neg y) ∙ ap (add (neg x)) (neg_neg y) ∙ add_comm (neg x) y

  pub sub_then_add : (x y : M) → add (add x (neg y)) y ≡ x
  sub_then_add x y = add_assoc x (neg y) y ∙ ap (add x) (neg_add y) ∙ add_zer x

  pub add_then_sub : (x y : M) → add (add x y) (neg y) ≡ x
  add_then_sub x y = add_assoc x y (neg y) ∙ ap (add x) (add_neg y) ∙ add_zer x

  -- what is subtracted on one side is added on the other
  pub sub_left : (x y z : M) → (add x (neg y) ≡ z) ↔ (x ≡ add z y)
  sub_left x y z =
      ((λ p. sym (sub_then_add x y) ∙ ap (λ w. add w y) p), (λ p. ap (λ w. add w (neg y)) p ∙ add_then_sub z y))

  pub sub_right : (x y z : M) → (x ≡ add y (neg z)) ↔ (add x z ≡ y)
  sub_right x y z =
      ((λ p. ap (λ w. add w z) p ∙ sub_then_add y z), (λ p. sym (add_then_sub x z) ∙ ap (λ w. add w (neg z)) p))

  pub neg_left : (y z : M) → (neg y ≡ z) ↔ (zer ≡ add z y)
  neg_left y z =
      ((λ p. sym (neg_add y) ∙ ap (λ w. add w y) p), (λ p. sym (zer_add (neg y)) ∙ (sub_left zer y z).1 p))

  pub neg_right : (x z : M) → (x ≡ neg z) ↔ (add x z ≡ zer)
  neg_right x z =
      ((λ p. ap (λ w. add w z) p ∙ neg_add z), (λ p. (sub_right x zer z).1 p ∙ zer_add (neg z)))

  -- an equation of a product of two, with more behind them
  pub tail : (m n : ℕ) {x y z : M} → mul m x y ≡ z → (w : M) → mul m x (mul n y w) ≡ mul n z w
  tail m n {x} {y} p w = sym (mul_assoc m n x y w) ∙ ap (λ u. mul n u w) p

pub ruleset words = (mul_assoc, mul_add, add_mul, mul_neg, neg_mul, mul_zer, zer_mul)

pub ruleset signs = (
  words,
  neg_neg,
  neg_zer,
  zer_add,
  add_zer,
  sub_sub,
  neg_neg_add,
  add_sub,
  neg_first,
  sub_add,
  neg_sub,
  sub_left,
  sub_right,
  neg_left,
  neg_right,
)

pub ruleset sorts = (add_assoc, add_comm, add_left_comm)

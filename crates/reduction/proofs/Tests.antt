-- Elements of an algebra of matrices that stand under a test, and are zero where it fails.
use Rattle.std.proofs.Common.{◌≡◌, ℕ, Bool, true, false, refl, ap, ◌∙◌}
use Rattle.reduction.proofs.Algebra.{Algebra, zer_mul, mul_zer}

module _ {M : Type 0} (𝓐 : Algebra M) where
  open 𝓐 use {zer, mul}

  -- x if the test passes, else zero
  abbrev pub only : Bool → M → M
  only true x = x
  only false x = zer

  pub only_mul : (t : Bool) (n : ℕ) (x y z : M) → (t ≡ true → mul n x y ≡ z) → mul n (only t x) (only t y) ≡ only t z
  only_mul true n x y z e = e refl
  only_mul false n x y z e = zer_mul 𝓐 n zer

  pub only_middle : (t : Bool) (n k : ℕ) (x d y z : M) → (t ≡ true → mul n x (mul k d y) ≡ z) →
      mul n (only t x) (mul k d (only t y)) ≡ only t z
  only_middle true n k x d y z e = e refl
  only_middle false n k x d y z e = zer_mul 𝓐 n _

  pub only_apart : (t u : Bool) (n : ℕ) (x y : M) → (t ≡ true → u ≡ true → ⊥) → mul n (only t x) (only u y) ≡ zer
  only_apart true true n x y e = absurd (e refl refl)
  only_apart true false n x y e = mul_zer 𝓐 n x
  only_apart false u n x y e = zer_mul 𝓐 n _

  pub only_apart_middle : (t u : Bool) (n k : ℕ) (x d y : M) → (t ≡ true → u ≡ true → ⊥) →
      mul n (only t x) (mul k d (only u y)) ≡ zer
  only_apart_middle true true n k x d y e = absurd (e refl refl)
  only_apart_middle true false n k x d y e = ap (mul n x) (mul_zer 𝓐 k d) ∙ mul_zer 𝓐 n x
  only_apart_middle false u n k x d y e = zer_mul 𝓐 n _

  pub mul_only : (t : Bool) (n : ℕ) (l x : M) → (t ≡ true → mul n l x ≡ x) → mul n l (only t x) ≡ only t x
  mul_only true n l x e = e refl
  mul_only false n l x e = mul_zer 𝓐 n l

  pub only_mul_right : (t : Bool) (n : ℕ) (l x : M) → (t ≡ true → mul n x l ≡ x) → mul n (only t x) l ≡ only t x
  only_mul_right true n l x e = e refl
  only_mul_right false n l x e = zer_mul 𝓐 n l

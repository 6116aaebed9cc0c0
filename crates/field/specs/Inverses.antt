-- The search for the largest number that passes a test, and the inverses that it finds.
use Rattle.std.specs.Prelude.{◌≡◌, ℕ, zero, suc, ◌%◌, ◌<◌, Bool, true, false, cond, Some, None, Option, ◌≢◌, nat_eq, refl}
use Rattle.std.proofs.Common.{sym, ap, ◌∙◌, arith, mod-eq_of_lt, eqb-true, eq-eqb, ne_eqb}
use Rattle.std.proofs.Math.Decide.{dec_lt}
use Rattle.std.proofs.lemmas.Bool.{both_ways, eqb-false}
use Rattle.field.specs.Inverse.{largest, inverse_by}

-- what the search finds is below the bound and passes
pub largest_some : (test : ℕ → Bool) (n x : ℕ) → largest test n ≡ Some x → (x < n) × (test x ≡ true)
unfolding largest
largest_some test zero x e = let clash : ◌≡◌ {A = ℕ} 0 1 = cc in absurd (omega arith)
largest_some test (suc n) x e = by_test (test n) refl e (largest_some test n x) where
  by_test : (b : Bool) → test n ≡ b → cond b (Some n) (largest test n) ≡ Some x →
      (largest test n ≡ Some x → (x < n) × (test x ≡ true)) → (x < suc n) × (test x ≡ true)
  by_test true t is before = let same : x ≡ n = cc in (omega arith, ap test same ∙ t)
  by_test false t is before = let found = before is in (omega arith, found.1)

-- where the search finds nothing, nothing below the bound passes
pub largest_none : (test : ℕ → Bool) (n : ℕ) → largest test n ≡ None → (k : ℕ) → k < n → test k ≡ false
unfolding largest
largest_none test zero e k h = absurd (omega arith)
largest_none test (suc n) e k h = by_test (test n) refl e (λ is less. largest_none test n is k less) where
  by_test : (b : Bool) → test n ≡ b → cond b (Some n) (largest test n) ≡ None →
      (largest test n ≡ None → k < n → test k ≡ false) → test k ≡ false
  by_test true t is before = let clash : ◌≡◌ {A = ℕ} 0 1 = cc in absurd (omega arith)
  by_test false t is before =
      elim (dec_lt k n) [
        | yes less ↦ before is less
        | no equal ↦ (let same : k ≡ n = omega arith in ap test same ∙ t)
      ]

-- where nothing below the bound passes, the search finds nothing
pub none_passes : (test : ℕ → Bool) (n : ℕ) → ((k : ℕ) → k < n → test k ≡ false) → largest test n ≡ None
none_passes test n none = by_case (largest test n) refl where
  by_case : (o : Option ℕ) → largest test n ≡ o → largest test n ≡ None
  by_case None e = e
  by_case (Some x) e =
      let found = largest_some test n x e in absurd (both_ways (test x) (none x found.0) found.1)

-- where just one number below the bound passes, the search finds it
pub one_passes : (test : ℕ → Bool) (n x : ℕ) → x < n → test x ≡ true → ((k : ℕ) → k < n → test k ≡ true → k ≡ x) →
    largest test n ≡ Some x
one_passes test n x less t only = by_case (largest test n) refl where
  by_case : (o : Option ℕ) → largest test n ≡ o → largest test n ≡ Some x
  by_case None e = absurd (both_ways (test x) (largest_none test n e x less) t)
  by_case (Some y) e = let found = largest_some test n y e in e ∙ ap Some (only y found.0 found.1)

-- two tests with the same answers find the same
pub largest_same : (test other : ℕ → Bool) (n : ℕ) → ((k : ℕ) → test k ≡ other k) → largest test n ≡ largest other n
unfolding largest
largest_same test other zero same = refl
largest_same test other (suc n) same =
    ap (λ b. cond b (Some n) (largest test n)) (same n)
    ∙ ap (λ o. cond (other n) (Some n) o) (largest_same test other n same)

module _ (q : ℕ) (times : ℕ → ℕ → ℕ) where
  pub inverse_some : (a x : ℕ) → inverse_by q times a ≡ Some x → (x < q) × (times a x ≡ 1)
  inverse_some a x e =
      let found = largest_some (λ y. nat_eq (times a y) 1) q x e in (found.0, eqb-true (times a x) 1 found.1)

  pub inverse_none : (a : ℕ) → inverse_by q times a ≡ None → (x : ℕ) → x < q → times a x ≢ 1
  inverse_none a e x less = eqb-false (times a x) 1 (largest_none (λ y. nat_eq (times a y) 1) q e x less)

  pub no_inverse : (a : ℕ) → ((x : ℕ) → x < q → times a x ≢ 1) → inverse_by q times a ≡ None
  no_inverse a never = none_passes (λ y. nat_eq (times a y) 1) q (λ k less. ne_eqb (times a k) 1 (never k less))

  pub inverse_same : (a b : ℕ) → ((x : ℕ) → times a x ≡ times b x) → inverse_by q times a ≡ inverse_by q times b
  inverse_same a b same =
      largest_same (λ y. nat_eq (times a y) 1) (λ y. nat_eq (times b y) 1) q (λ k. ap (λ n. nat_eq n 1) (same k))

-- in a commutative product with the one 1 there is at most one inverse, so the search finds it
module _ (q : ℕ) (times : ℕ → ℕ → ℕ) (comm : (a b : ℕ) → times a b ≡ times b a)
    (assoc : (a b c : ℕ) → times (times a b) c ≡ times a (times b c)) (one : (a : ℕ) → times a 1 ≡ a % q) where
  inverse_only : (a x y : ℕ) → x < q → y < q → times a x ≡ 1 → times a y ≡ 1 → x ≡ y
  inverse_only a x y below-x below-y e f =
      sym (one x ∙ mod-eq_of_lt below-x) ∙ ap (times x) (sym f) ∙ sym (assoc x a y) ∙ ap (λ n. times n y) (comm x a ∙ e)
      ∙ comm 1 y ∙ one y ∙ mod-eq_of_lt below-y

  pub inverse_is : (a x : ℕ) → x < q → times a x ≡ 1 → inverse_by q times a ≡ Some x
  inverse_is a x less e =
      one_passes (λ y. nat_eq (times a y) 1) q x less (eq-eqb (times a x) 1 e)
      (λ k below t. inverse_only a k x below less (eqb-true (times a k) 1 t) e)

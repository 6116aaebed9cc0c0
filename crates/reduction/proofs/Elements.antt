-- What a reduction says of elements x of one degree, in an algebra of matrices.
use Rattle.std.proofs.Common.{◌≡◌, ℕ, zero, suc, sym, refl, ap, ◌∙◌}
use Rattle.reduction.proofs.Algebra.{Algebra, tail, add_zer, zer_add, mul_assoc, mul_add, add_mul, mul_zer, zer_mul}
use Rattle.reduction.proofs.Composing.{Red, lowered}

module _ {M : Type 0} (𝓐 : Algebra M) (n : ℕ → ℕ) {J B D F G H L : ℕ → M} (r : Red 𝓐 n J B D F G H L) where
  open 𝓐 use {zer, add, mul}

  -- x has no boundary, or stands in degree 0
  abbrev pub Closed : ℕ → M → Type 0
  Closed k x = (d : ℕ) → k ≡ suc d → mul (n k) (B d) x ≡ zer

  low_closed : (k : ℕ) (x : M) → Closed k x → mul (n k) (lowered 𝓐 n (λ d. mul (n d) (H d) (B d)) k) x ≡ zer
  low_closed zero x c = zer_mul 𝓐 (n 0) x
  low_closed (suc k) x c = mul_assoc 𝓐 (n k) (n (suc k)) (H k) (B k) x ∙ ap (mul (n k) (H k)) (c k refl)
      ∙ mul_zer 𝓐 (n k) (H k)

  -- if F x is the boundary of w among the survivors, x is the boundary of G w + H x
  pub rises : (k : ℕ) (x w : M) → mul (n k) (J k) x ≡ x → Closed k x → mul (n k) (F k) x ≡ mul (n (suc k)) (D k) w →
      x ≡ mul (n (suc k)) (B k) (add (mul (n (suc k)) (G (suc k)) w) (mul (n k) (H k) x))
  rises k x w jx c fx =
      sym jx ∙ ap (λ u. mul (n k) u x) (sym (r.hom k))
      ∙ add_mul 𝓐 (n k) _ _ x
      ∙ ap (add (mul (n k) (mul (n k) (G k) (F k)) x)) (add_mul 𝓐 (n k) _ _ x
      ∙ ap (add (mul (n k) (mul (n (suc k)) (B k) (H k)) x)) (low_closed k x c) ∙ add_zer 𝓐 _)
      ∙ (λ t. add (first t) (mul_assoc 𝓐 (n (suc k)) (n k) (B k) (H k) x t))
      ∙ sym (mul_add 𝓐 (n (suc k)) (B k) _ _)
    where
      first : mul (n k) (mul (n k) (G k) (F k)) x ≡ mul (n (suc k)) (B k) (mul (n (suc k)) (G (suc k)) w)
      first =
          mul_assoc 𝓐 (n k) (n k) (G k) (F k) x ∙ ap (mul (n k) (G k)) fx
          ∙ sym (mul_assoc 𝓐 (n k) (n (suc k)) (G k) (D k) w) ∙ ap (λ u. mul (n (suc k)) u w) (sym (r.BG k))
          ∙ mul_assoc 𝓐 (n (suc k)) (n (suc k)) (B k) (G (suc k)) w

  -- if F x is zero, x is the boundary of H x
  pub rises_by_H : (k : ℕ) (x : M) → mul (n k) (J k) x ≡ x → Closed k x → mul (n k) (F k) x ≡ zer →
      x ≡ mul (n (suc k)) (B k) (mul (n k) (H k) x)
  rises_by_H k x jx c fx =
      rises k x zer jx c (fx ∙ sym (mul_zer 𝓐 (n (suc k)) (D k)))
      ∙ ap (mul (n (suc k)) (B k)) (ap (λ u. add u (mul (n k) (H k) x)) (mul_zer 𝓐 (n (suc k)) (G (suc k)))
      ∙ zer_add 𝓐 _)

  -- if x is the boundary of w, F x is the boundary of F w among the survivors
  pub falls : (k : ℕ) (x w : M) → x ≡ mul (n (suc k)) (B k) w →
      mul (n k) (F k) x ≡ mul (n (suc k)) (D k) (mul (n (suc k)) (F (suc k)) w)
  falls k x w e =
      ap (mul (n k) (F k)) e ∙ sym (mul_assoc 𝓐 (n k) (n (suc k)) (F k) (B k) w)
      ∙ ap (λ u. mul (n (suc k)) u w) (sym (r.DF k)) ∙ mul_assoc 𝓐 (n (suc k)) (n (suc k)) (D k) (F (suc k)) w

  pub returns : (k : ℕ) (x : M) → mul (n k) (L k) x ≡ x → mul (n k) (F k) (mul (n k) (G k) x) ≡ x
  returns k x lx = tail 𝓐 (n k) (n k) (r.FG k) x ∙ lx

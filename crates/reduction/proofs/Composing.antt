-- Reductions as families in an algebra of matrices, and their composition.
--
-- Degrees are 0 and up, and n k is the number of cells of degree k. The families B and D and H are numbered by
-- the lower of their two degrees: D k goes from degree k + 1 to degree k, and H k from degree k to degree k + 1.
use Rattle.std.proofs.Common.{◌≡◌, ℕ, zero, suc, sym, refl, ap, ◌∙◌}
use Rattle.reduction.proofs.Algebra.{
  Algebra,
  tail,
  signs,
  sorts,
  add_zer,
  mul_assoc,
  mul_add,
  add_mul,
  zer_mul,
  mul_zer,
}

module _ {M : Type 0} (𝓐 : Algebra M) (n : ℕ → ℕ) where
  open 𝓐 use {zer, add, neg, mul}

  -- a family numbered by the lower degree, seen from the upper one; nothing is below degree 0
  abbrev pub lowered : (ℕ → M) → ℕ → M
  lowered x zero = zer
  lowered x (suc k) = x k

  -- J is the unit of all cells, L that of the live ones
  pub record Red (J B D F G H L : ℕ → M) : Type 0 where
    pub DD : (k : ℕ) → mul (n (suc k)) (D k) (D (suc k)) ≡ zer
    pub DF : (k : ℕ) → mul (n (suc k)) (D k) (F (suc k)) ≡ mul (n k) (F k) (B k)
    pub BG : (k : ℕ) → mul (n (suc k)) (B k) (G (suc k)) ≡ mul (n k) (G k) (D k)
    pub FG : (k : ℕ) → mul (n k) (F k) (G k) ≡ L k
    pub hom : (k : ℕ) → add (mul (n k) (G k) (F k))
        (add (mul (n (suc k)) (B k) (H k)) (lowered (λ d. mul (n d) (H d) (B d)) k)) ≡ J k
    pub LD : (k : ℕ) → mul (n k) (L k) (D k) ≡ D k
    pub DL : (k : ℕ) → mul (n (suc k)) (D k) (L (suc k)) ≡ D k
    pub LF : (k : ℕ) → mul (n k) (L k) (F k) ≡ F k
    pub GL : (k : ℕ) → mul (n k) (G k) (L k) ≡ G k
    pub JG : (k : ℕ) → mul (n k) (J k) (G k) ≡ G k
    pub FJ : (k : ℕ) → mul (n k) (F k) (J k) ≡ F k

  lowered_zer : (k : ℕ) → lowered (λ _. zer) k ≡ zer
  lowered_zer zero = refl
  lowered_zer (suc k) = refl

  lowered_ext : (x y : ℕ → M) → ((k : ℕ) → x k ≡ y k) → (k : ℕ) → lowered x k ≡ lowered y k
  lowered_ext x y e zero = refl
  lowered_ext x y e (suc k) = e k

  pub initial : (J B : ℕ → M) → ((k : ℕ) → mul (n (suc k)) (B k) (B (suc k)) ≡ zer) →
      ((k : ℕ) → mul (n k) (J k) (J k) ≡ J k) → ((k : ℕ) → mul (n k) (J k) (B k) ≡ B k) →
      ((k : ℕ) → mul (n (suc k)) (B k) (J (suc k)) ≡ B k) → Red J B B J J (λ _. zer) J
  initial J B bb jj jb bj = record {
    DD = bb;
    DF = λ k. bj k ∙ sym (jb k);
    BG = λ k. bj k ∙ sym (jb k);
    FG = jj;
    hom = λ k. ap (λ w. add (mul (n k) (J k) (J k)) (add (mul (n (suc k)) (B k) zer) w))
        (lowered_ext (λ d. mul (n d) zer (B d)) (λ _. zer) (λ d. zer_mul 𝓐 (n d) (B d)) k ∙ lowered_zer k)
        ∙ simp (jj, mul_zer, add_zer);
    LD = jb;
    DL = bj;
    LF = jj;
    GL = jj;
    JG = jj;
    FJ = jj;
  }

  module _ {J B D F G H L C f g h K : ℕ → M} (r : Red J B D F G H L) (s : Red L D C f g h K) where
    abbrev more_H : ℕ → M
    more_H k = add (H k) (mul (n (suc k)) (G (suc k)) (mul (n k) (h k) (F k)))

    abbrev low_h : ℕ → M
    low_h = lowered (λ d. mul (n d) (h d) (D d))

    abbrev low_H : ℕ → M
    low_H = lowered (λ d. mul (n d) (H d) (B d))

    -- H B and B H in the composition
    below_step : (k : ℕ) → mul (n k) (more_H k) (B k) ≡
        add (mul (n k) (H k) (B k)) (mul (n (suc k)) (G (suc k)) (mul (n (suc k)) (mul (n k) (h k) (D k)) (F (suc k))))
    below_step k = simp (mul_assoc, add_mul, ← r.DF k)

    below : (k : ℕ) → lowered (λ d. mul (n d) (more_H d) (B d)) k ≡
        add (low_H k) (mul (n k) (G k) (mul (n k) (low_h k) (F k)))
    below zero = sym (ap (add zer) (ap (mul (n 0) (G 0)) (zer_mul 𝓐 (n 0) (F 0)) ∙ mul_zer 𝓐 (n 0) (G 0))
        ∙ add_zer 𝓐 zer)
    below (suc k) = below_step k

    above : (k : ℕ) → mul (n (suc k)) (B k) (more_H k) ≡
        add (mul (n (suc k)) (B k) (H k)) (mul (n k) (G k) (mul (n k) (mul (n (suc k)) (D k) (h k)) (F k)))
    above k = simp (mul_add, mul_assoc, tail 𝓐 (n (suc k)) (n (suc k)) (r.BG k))

    -- a common factor on each side is taken out
    regroup : (m : ℕ) (x y a b c p q : M) →
        add (mul m x (mul m a y)) (add (add p (mul m x (mul m b y))) (add q (mul m x (mul m c y)))) ≡
        add (mul m x (mul m (add a (add b c)) y)) (add p q)
    regroup m x y a b c p q = simp signs (simp sorts)

    compose_hom : (k : ℕ) → add (mul (n k) (mul (n k) (G k) (g k)) (mul (n k) (f k) (F k)))
        (add (mul (n (suc k)) (B k) (more_H k)) (lowered (λ d. mul (n d) (more_H d) (B d)) k)) ≡ J k
    compose_hom k =
        (λ t. add (first t) (add (above k t) (below k t)))
        ∙ regroup (n k) (G k) (F k) (mul (n k) (g k) (f k)) (mul (n (suc k)) (D k) (h k)) (low_h k)
        (mul (n (suc k)) (B k) (H k)) (low_H k)
        ∙ ap (λ w. add (mul (n k) (G k) (mul (n k) w (F k))) (add (mul (n (suc k)) (B k) (H k)) (low_H k))) (s.hom k)
        ∙ ap (λ w. add (mul (n k) (G k) w) (add (mul (n (suc k)) (B k) (H k)) (low_H k))) (r.LF k)
        ∙ r.hom k
      where
        first : mul (n k) (mul (n k) (G k) (g k)) (mul (n k) (f k) (F k)) ≡
            mul (n k) (G k) (mul (n k) (mul (n k) (g k) (f k)) (F k))
        first = simp mul_assoc

    pub compose : Red J B C (λ k. mul (n k) (f k) (F k)) (λ k. mul (n k) (G k) (g k)) more_H K
    compose = record {
      DD = s.DD;
      DF = λ k. tail 𝓐 (n (suc k)) (n (suc k)) (s.DF k) (F (suc k))
          ∙ simp (mul_assoc, r.DF k);
      BG = λ k. tail 𝓐 (n (suc k)) (n (suc k)) (r.BG k) (g (suc k))
          ∙ simp (mul_assoc, s.BG k);
      FG = λ k. simp (mul_assoc, tail 𝓐 (n k) (n k) (r.FG k), tail 𝓐 (n k) (n k) (s.FJ k), s.FG k);
      hom = compose_hom;
      LD = s.LD;
      DL = s.DL;
      LF = λ k. tail 𝓐 (n k) (n k) (s.LF k) (F k);
      GL = λ k. mul_assoc 𝓐 (n k) (n k) (G k) (g k) (K k) ∙ ap (mul (n k) (G k)) (s.GL k);
      JG = λ k. tail 𝓐 (n k) (n k) (r.JG k) (g k);
      FJ = λ k. mul_assoc 𝓐 (n k) (n k) (f k) (F k) (J k) ∙ ap (mul (n k) (f k)) (r.FJ k);
    }

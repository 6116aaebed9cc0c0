-- The products of the parts of a pair of cells, and the reduction that cancels the pair.
--
-- Each product is a rule, alone and with more behind it; the rules calculate the equations of the reduction.
use Rattle.std.proofs.Common.{◌≡◌, ℕ, zero, suc, sym, ap, ◌∙◌, subst}
use Rattle.reduction.proofs.Algebra.{Algebra, tail, signs, sorts, mul_assoc, zer_mul, mul_zer}
use Rattle.reduction.proofs.Composing.{Red, lowered}
use Rattle.reduction.proofs.PairLaws.{Pair}

module _ {M : Type 0} (𝓐 : Algebra M) (n : ℕ → ℕ) where
  open 𝓐 use {zer, add, neg, mul}

  -- an equation of a product of three, with more behind them
  tail_three : (l m k : ℕ) {x y z d : M} → mul l x (mul m y z) ≡ d → (w : M) → mul l x (mul m y (mul k z w)) ≡ mul k d w
  tail_three l m k {x} {y} {z} p w = ap (mul l x) (sym (mul_assoc 𝓐 m k y z w)) ∙ tail 𝓐 l k p w

  module _ {D L e c h P : ℕ → M} (p : Pair 𝓐 n D L e c h P) where
    P_suc : (k : ℕ) → P (suc k) ≡ mul (n k) (h k) (D k)
    P_suc = p.P_suc

    DD : (k : ℕ) → mul (n (suc k)) (D k) (D (suc k)) ≡ zer
    DD = p.DD

    LD : (k : ℕ) → mul (n k) (L k) (D k) ≡ D k
    LD = p.LD

    DL : (k : ℕ) → mul (n (suc k)) (D k) (L (suc k)) ≡ D k
    DL = p.DL

    LL : (k : ℕ) → mul (n k) (L k) (L k) ≡ L k
    LL = p.LL

    Le : (k : ℕ) → mul (n k) (L k) (e k) ≡ e k
    Le = p.Le

    eL : (k : ℕ) → mul (n k) (e k) (L k) ≡ e k
    eL = p.eL

    Lc : (k : ℕ) → mul (n k) (L k) (c k) ≡ c k
    Lc = p.Lc

    cL : (k : ℕ) → mul (n k) (c k) (L k) ≡ c k
    cL = p.cL

    ee : (k : ℕ) → mul (n k) (e k) (e k) ≡ e k
    ee = p.ee

    cc : (k : ℕ) → mul (n k) (c k) (c k) ≡ c k
    cc = p.cc

    ec : (k : ℕ) → mul (n k) (e k) (c k) ≡ zer
    ec = p.ec

    ce : (k : ℕ) → mul (n k) (c k) (e k) ≡ zer
    ce = p.ce

    eh : (k : ℕ) → mul (n (suc k)) (e (suc k)) (h k) ≡ h k
    eh = p.eh

    hc : (k : ℕ) → mul (n k) (h k) (c k) ≡ h k
    hc = p.hc

    hDe : (k : ℕ) → mul (n k) (h k) (mul (n (suc k)) (D k) (e (suc k))) ≡ e (suc k)
    hDe = p.hDe

    cDh : (k : ℕ) → mul (n k) (c k) (mul (n (suc k)) (D k) (h k)) ≡ c k
    cDh = p.cDh

    eDe : (k : ℕ) → mul (n k) (e k) (mul (n (suc k)) (D k) (e (suc k))) ≡ zer
    eDe = p.eDe

    cDc : (k : ℕ) → mul (n k) (c k) (mul (n (suc k)) (D k) (c (suc k))) ≡ zer
    cDc = p.cDc

    eDc : (k : ℕ) → mul (n k) (e k) (mul (n (suc k)) (D k) (c (suc k))) ≡ zer
    eDc = p.eDc

    Lh : (k : ℕ) → mul (n (suc k)) (L (suc k)) (h k) ≡ h k
    Lh k = ap (mul (n (suc k)) (L (suc k))) (sym (eh k)) ∙ tail 𝓐 (n (suc k)) (n (suc k)) (Le (suc k)) (h k) ∙ eh k

    hL : (k : ℕ) → mul (n k) (h k) (L k) ≡ h k
    hL k = ap (λ w. mul (n k) w (L k)) (sym (hc k)) ∙ mul_assoc 𝓐 (n k) (n k) (h k) (c k) (L k)
        ∙ ap (mul (n k) (h k)) (cL k) ∙ hc k

    he : (k : ℕ) → mul (n k) (h k) (e k) ≡ zer
    he k = ap (λ w. mul (n k) w (e k)) (sym (hc k)) ∙ mul_assoc 𝓐 (n k) (n k) (h k) (c k) (e k)
        ∙ ap (mul (n k) (h k)) (ce k) ∙ mul_zer 𝓐 (n k) (h k)

    hh : (k : ℕ) → mul (n (suc k)) (h (suc k)) (h k) ≡ zer
    hh k = ap (mul (n (suc k)) (h (suc k))) (sym (eh k)) ∙ tail 𝓐 (n (suc k)) (n (suc k)) (he (suc k)) (h k)
        ∙ zer_mul 𝓐 (n (suc k)) (h k)

    eDh : (k : ℕ) → mul (n k) (e k) (mul (n (suc k)) (D k) (h k)) ≡ zer
    eDh k = ap (λ w. mul (n k) (e k) (mul (n (suc k)) (D k) w)) (sym (eh k))
        ∙ tail_three (n k) (n (suc k)) (n (suc k)) (eDe k) (h k) ∙ zer_mul 𝓐 (n (suc k)) (h k)

    hDc : (k : ℕ) → mul (n k) (h k) (mul (n (suc k)) (D k) (c (suc k))) ≡ zer
    hDc k = ap (λ w. mul (n k) w (mul (n (suc k)) (D k) (c (suc k)))) (sym (hc k))
        ∙ mul_assoc 𝓐 (n k) (n k) (h k) (c k) (mul (n (suc k)) (D k) (c (suc k))) ∙ ap (mul (n k) (h k)) (cDc k)
        ∙ mul_zer 𝓐 (n k) (h k)

    -- h D seen from the upper degree
    at_degree : (A : ℕ → M → Type 0) → A 0 zer → ((k : ℕ) → A (suc k) (mul (n k) (h k) (D k))) → (k : ℕ) → A k (P k)
    at_degree A z s zero = subst (A 0) (sym p.P_zero) z
    at_degree A z s (suc k) = subst (A (suc k)) (sym (P_suc k)) (s k)

    LP : (k : ℕ) → mul (n k) (L k) (P k) ≡ P k
    LP = at_degree (λ k x. mul (n k) (L k) (x) ≡ x)
        (mul_zer 𝓐 (n 0) (L 0))
        (λ k. tail 𝓐 (n (suc k)) (n k) (Lh k) (D k))

    PL : (k : ℕ) → mul (n k) (P k) (L k) ≡ P k
    PL = at_degree (λ k x. mul (n k) (x) (L k) ≡ x)
        (zer_mul 𝓐 (n 0) (L 0))
        (λ k. mul_assoc 𝓐 (n k) (n (suc k)) (h k) (D k) (L (suc k)) ∙ ap (mul (n k) (h k)) (DL k))

    eP : (k : ℕ) → mul (n k) (e k) (P k) ≡ P k
    eP = at_degree (λ k x. mul (n k) (e k) (x) ≡ x)
        (mul_zer 𝓐 (n 0) (e 0))
        (λ k. tail 𝓐 (n (suc k)) (n k) (eh k) (D k))

    Pe : (k : ℕ) → mul (n k) (P k) (e k) ≡ e k
    Pe = at_degree (λ k x. mul (n k) (x) (e k) ≡ e k)
        (zer_mul 𝓐 (n 0) (e 0) ∙ sym p.e_zero)
        (λ k. mul_assoc 𝓐 (n k) (n (suc k)) (h k) (D k) (e (suc k)) ∙ hDe k)

    Pc : (k : ℕ) → mul (n k) (P k) (c k) ≡ zer
    Pc = at_degree (λ k x. mul (n k) (x) (c k) ≡ zer)
        (zer_mul 𝓐 (n 0) (c 0))
        (λ k. mul_assoc 𝓐 (n k) (n (suc k)) (h k) (D k) (c (suc k)) ∙ hDc k)

    PD : (k : ℕ) → mul (n k) (P k) (D k) ≡ zer
    PD = at_degree (λ k x. mul (n k) (x) (D k) ≡ zer)
        (zer_mul 𝓐 (n 0) (D 0))
        (λ k. mul_assoc 𝓐 (n k) (n (suc k)) (h k) (D k) (D (suc k)) ∙ ap (mul (n k) (h k)) (DD k)
        ∙ mul_zer 𝓐 (n k) (h k))

    hP : (k : ℕ) → mul (n k) (h k) (P k) ≡ zer
    hP = at_degree (λ k x. mul (n k) (h k) (x) ≡ zer)
        (mul_zer 𝓐 (n 0) (h 0))
        (λ k. tail 𝓐 (n (suc k)) (n k) (hh k) (D k) ∙ zer_mul 𝓐 (n k) (D k))

    DD+ : (k m : ℕ) (x : M) → mul (n (suc k)) (D k) (mul m (D (suc k)) x) ≡ mul m zer x
    DD+ k m x = tail 𝓐 (n (suc k)) m (DD k) x

    LD+ : (k m : ℕ) (x : M) → mul (n k) (L k) (mul m (D k) x) ≡ mul m (D k) x
    LD+ k m x = tail 𝓐 (n k) m (LD k) x

    Le+ : (k m : ℕ) (x : M) → mul (n k) (L k) (mul m (e k) x) ≡ mul m (e k) x
    Le+ k m x = tail 𝓐 (n k) m (Le k) x

    ee+ : (k m : ℕ) (x : M) → mul (n k) (e k) (mul m (e k) x) ≡ mul m (e k) x
    ee+ k m x = tail 𝓐 (n k) m (ee k) x

    ce+ : (k m : ℕ) (x : M) → mul (n k) (c k) (mul m (e k) x) ≡ mul m zer x
    ce+ k m x = tail 𝓐 (n k) m (ce k) x

    Pe+ : (k m : ℕ) (x : M) → mul (n k) (P k) (mul m (e k) x) ≡ mul m (e k) x
    Pe+ k m x = tail 𝓐 (n k) m (Pe k) x

    PD+ : (k m : ℕ) (x : M) → mul (n k) (P k) (mul m (D k) x) ≡ mul m zer x
    PD+ k m x = tail 𝓐 (n k) m (PD k) x

    hDe+ : (k m : ℕ) (w : M) → mul (n k) (h k) (mul (n (suc k)) (D k) (mul m (e (suc k)) w)) ≡ mul m (e (suc k)) w
    hDe+ k m w = tail_three (n k) (n (suc k)) m (hDe k) w

    cDh+ : (k m : ℕ) (w : M) → mul (n k) (c k) (mul (n (suc k)) (D k) (mul m (h k) w)) ≡ mul m (c k) w
    cDh+ k m w = tail_three (n k) (n (suc k)) m (cDh k) w

    eDe+ : (k m : ℕ) (w : M) → mul (n k) (e k) (mul (n (suc k)) (D k) (mul m (e (suc k)) w)) ≡ mul m zer w
    eDe+ k m w = tail_three (n k) (n (suc k)) m (eDe k) w

    eDh+ : (k m : ℕ) (w : M) → mul (n k) (e k) (mul (n (suc k)) (D k) (mul m (h k) w)) ≡ mul m zer w
    eDh+ k m w = tail_three (n k) (n (suc k)) m (eDh k) w

    abbrev pub next_D : ℕ → M
    next_D k = add (D k) (neg (add (mul (n (suc k)) (D k) (mul (n k) (h k) (D k)))
        (add (mul (n k) (e k) (D k)) (mul (n (suc k)) (D k) (c (suc k))))))

    abbrev pub next_F : ℕ → M
    next_F k = add (L k) (neg (add (e k) (mul (n (suc k)) (D k) (h k))))

    abbrev pub next_G : ℕ → M
    next_G k = add (L k) (neg (add (c k) (P k)))

    abbrev pub next_L : ℕ → M
    next_L k = add (L k) (neg (add (e k) (c k)))

    ruleset pair-words = (
      DD,
      LD,
      DL,
      LL,
      Le,
      eL,
      Lc,
      cL,
      ee,
      cc,
      ec,
      ce,
      hc,
      hL,
      LP,
      PL,
      eP,
      Pe,
      Pc,
      PD,
      hP,
      hDe,
      cDh,
      eDe,
      cDc,
      eDc,
      eDh,
      hDc,
      DD+,
      LD+,
      Le+,
      ee+,
      ce+,
      Pe+,
      PD+,
      hDe+,
      cDh+,
      eDe+,
      eDh+,
    )

    ruleset expand = (pair-words, signs)

    lowered_P : (k : ℕ) → lowered 𝓐 n (λ d. mul (n d) (h d) (D d)) k ≡ P k
    lowered_P zero = sym p.P_zero
    lowered_P (suc k) = sym (P_suc k)

    pair_DD : (k : ℕ) → mul (n (suc k)) (next_D k) (next_D (suc k)) ≡ zer
    pair_DD k = simp expand (simp sorts)

    pair_DF : (k : ℕ) → mul (n (suc k)) (next_D k) (next_F (suc k)) ≡ mul (n k) (next_F k) (D k)
    pair_DF k = simp expand (simp sorts)

    pair_BG : (k : ℕ) → mul (n (suc k)) (D k) (next_G (suc k)) ≡ mul (n k) (next_G k) (next_D k)
    pair_BG k = simp (P_suc, expand) (simp sorts)

    pair_FG : (k : ℕ) → mul (n k) (next_F k) (next_G k) ≡ next_L k
    pair_FG k = simp expand (simp sorts)

    pair_hom : (k : ℕ) → add (mul (n k) (next_G k) (next_F k)) (add (mul (n (suc k)) (D k) (h k)) (P k)) ≡ L k
    pair_hom k = simp expand (simp sorts)

    pub one_pair : Red 𝓐 n L D next_D next_F next_G h next_L
    one_pair = record {
      DD = pair_DD;
      DF = pair_DF;
      BG = pair_BG;
      FG = pair_FG;
      hom = λ k. ap (λ w. add (mul (n k) (next_G k) (next_F k)) (add (mul (n (suc k)) (D k) (h k)) w)) (lowered_P k)
          ∙ pair_hom k;
      LD = λ k. simp expand (simp sorts);
      DL = λ k. simp expand (simp sorts);
      LF = λ k. simp expand (simp sorts);
      GL = λ k. simp expand (simp sorts);
      JG = λ k. simp expand;
      FJ = λ k. simp expand;
    }

-- A pair of cells to be cancelled, in an algebra of matrices.
--
-- e is the unit of the upper cell of the pair, c that of the lower one, and h the arrow from the lower to the
-- upper cell with the inverse of the entry. P is h D seen from the upper degree.
use Rattle.std.proofs.Common.{◌≡◌, ℕ, suc}
use Rattle.reduction.proofs.Algebra.{Algebra}

module _ {M : Type 0} (𝓐 : Algebra M) (n : ℕ → ℕ) where
  open 𝓐 use {zer, add, neg, mul}

  pub record Pair (D L e c h P : ℕ → M) : Type 0 where
    pub DD : (k : ℕ) → mul (n (suc k)) (D k) (D (suc k)) ≡ zer
    pub LD : (k : ℕ) → mul (n k) (L k) (D k) ≡ D k
    pub DL : (k : ℕ) → mul (n (suc k)) (D k) (L (suc k)) ≡ D k
    pub LL : (k : ℕ) → mul (n k) (L k) (L k) ≡ L k
    pub Le : (k : ℕ) → mul (n k) (L k) (e k) ≡ e k
    pub eL : (k : ℕ) → mul (n k) (e k) (L k) ≡ e k
    pub Lc : (k : ℕ) → mul (n k) (L k) (c k) ≡ c k
    pub cL : (k : ℕ) → mul (n k) (c k) (L k) ≡ c k
    pub ee : (k : ℕ) → mul (n k) (e k) (e k) ≡ e k
    pub cc : (k : ℕ) → mul (n k) (c k) (c k) ≡ c k
    pub ec : (k : ℕ) → mul (n k) (e k) (c k) ≡ zer
    pub ce : (k : ℕ) → mul (n k) (c k) (e k) ≡ zer
    pub eh : (k : ℕ) → mul (n (suc k)) (e (suc k)) (h k) ≡ h k
    pub hc : (k : ℕ) → mul (n k) (h k) (c k) ≡ h k
    pub hDe : (k : ℕ) → mul (n k) (h k) (mul (n (suc k)) (D k) (e (suc k))) ≡ e (suc k)
    pub cDh : (k : ℕ) → mul (n k) (c k) (mul (n (suc k)) (D k) (h k)) ≡ c k
    pub eDe : (k : ℕ) → mul (n k) (e k) (mul (n (suc k)) (D k) (e (suc k))) ≡ zer
    pub cDc : (k : ℕ) → mul (n k) (c k) (mul (n (suc k)) (D k) (c (suc k))) ≡ zer
    pub eDc : (k : ℕ) → mul (n k) (e k) (mul (n (suc k)) (D k) (c (suc k))) ≡ zer
    pub e_zero : e 0 ≡ zer
    pub P_zero : P 0 ≡ zer
    pub P_suc : (k : ℕ) → P (suc k) ≡ mul (n k) (h k) (D k)

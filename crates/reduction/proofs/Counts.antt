-- Counts of places that pass a test.
use Rattle.std.proofs.Common.{◌≡◌, ℕ, zero, suc, ◌<◌, Bool, true, false, cond, ltb, sym, refl, ap, ◌∙◌, arith, lt-ltb}
use native.Mathlib.Decide.{ℕ_discrete}
use Rattle.linear.specs.Sums.{total}
use Rattle.linear.proofs.Totals.{total_ext}
use Rattle.reduction.specs.Cancelling.{count}

-- a total of which one part is one less
pub total_one_less : (n c : ℕ) (g h : ℕ → ℕ) → c < n → g c ≡ suc (h c) → ((i : ℕ) → (i ≡ c → ⊥) → g i ≡ h i) →
    total n g ≡ suc (total n h)
total_one_less zero c g h l e same = absurd (omega arith)
total_one_less (suc n) c g h l e same = elim (ℕ_discrete n c) [
  | yes here ↦
      (let first = total_ext n g h (λ i k. same i (λ z. omega arith)) in
      let last : g n ≡ suc (h n) = ap g here ∙ e ∙ ap (λ (w : ℕ). suc (h w)) (sym here) in omega arith)
  | no other ↦
      (let first = total_one_less n c g h (omega arith) e same in let last = same n other in omega arith)
]

-- the parts of a total of zero
pub total_zero_part : (n : ℕ) (g : ℕ → ℕ) → total n g ≡ 0 → (i : ℕ) → i < n → g i ≡ 0
total_zero_part zero g e i l = absurd (omega arith)
total_zero_part (suc n) g e i l = elim (ℕ_discrete i n) [
  | yes here ↦ (let last : g n ≡ 0 = omega arith in ap g here ∙ last)
  | no other ↦ (let rest : total n g ≡ 0 = omega arith in total_zero_part n g rest i (omega arith))
]

pub count_one_less : (n c : ℕ) (test other : ℕ → Bool) → c < n → test c ≡ true → other c ≡ false →
    ((i : ℕ) → (i ≡ c → ⊥) → test i ≡ other i) → count test n ≡ suc (count other n)
count_one_less n c test other l yes-c no-c same =
    total_one_less n c (λ i. cond (test i) 1 0) (λ i. cond (other i) 1 0) l
    (ap (λ t. cond t 1 0) yes-c ∙ sym (ap (λ t. suc (cond t 1 0)) no-c)) (λ i d. ap (λ t. cond t 1 0) (same i d))

pub count_ext : (n : ℕ) (test other : ℕ → Bool) → ((i : ℕ) → test i ≡ other i) → count test n ≡ count other n
count_ext n test other same = total_ext n (λ i. cond (test i) 1 0) (λ i. cond (other i) 1 0)
    (λ i _. ap (λ t. cond t 1 0) (same i))

pub count_none : (n : ℕ) (test : ℕ → Bool) → count test n ≡ 0 → (i : ℕ) → i < n → test i ≡ false
count_none n test e i l = by_test (test i) (total_zero_part n (λ i. cond (test i) 1 0) e i l) where
  by_test : (t : Bool) → ◌≡◌ {A = ℕ} (cond t 1 0) 0 → t ≡ false
  by_test true z = absurd (omega arith)
  by_test false z = refl

-- every place below the bound counts
pub count_below : (n : ℕ) → count (λ i. ltb i n) n ≡ n
count_below n = total_ext n (λ i. cond (ltb i n) 1 0) (λ _. 1) (λ i l. ap (λ t. cond t 1 0) (lt-ltb i n l))
    ∙ ones n where
      ones : (n : ℕ) → total n (λ _. 1) ≡ n
      ones zero = refl
      ones (suc n) = let before = ones n in omega arith

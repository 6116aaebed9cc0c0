-- Sums over blocks that lie one after another, over a grid row by row, and sums in which few terms count.
use Rattle.std.proofs.Common.{◌≡◌, ℕ, zero, suc, ◌+◌, ◌*◌, ◌<◌, sym, refl, ap, ◌∙◌, subst, inl, inr, suc-mul, zero-mul, arith}
use Rattle.std.proofs.lemmas.Bool.{cases_eq}
use Rattle.field.specs.Codes.{Codes, IsField}
use Rattle.linear.specs.Sums.{sum, total}
use Rattle.linear.proofs.Codes.{plus_both, plus_zero_code}
use Rattle.linear.proofs.Sums.{sum_zero, sum_split, sum_single}

module _ (f : Codes) (law : IsField f) where
  pub sum_blocks :
      (size : ℕ → ℕ) (n : ℕ) (g : ℕ → ℕ) →
      sum f (total n size) g ≡ sum f n (λ p. sum f (size p) (λ x. g (total p size + x)))
  sum_blocks size zero g = refl
  sum_blocks size (suc n) g =
      sum_split f law (total n size) (size n) g
      ∙ ap (λ (x : ℕ). f.plus x (sum f (size n) (λ y. g (total n size + y)))) (sum_blocks size n g)

  pub sum_grid :
      (m n : ℕ) (g : ℕ → ℕ) → sum f (m * n) g ≡ sum f m (λ i. sum f n (λ j. g (i * n + j)))
  sum_grid zero n g = ap (λ (k : ℕ). sum f k g) (zero-mul n)
  sum_grid (suc m) n g =
      ap (λ (k : ℕ). sum f k g) (suc-mul m n) ∙ sum_split f law (m * n) n g
      ∙ ap (λ (x : ℕ). f.plus x (sum f n (λ j. g (m * n + j)))) (sum_grid m n g)

  -- a double sum with one term that counts
  pub sum_single_two :
      (m n a b : ℕ) (g : ℕ → ℕ → ℕ) → a < m → b < n → ((i j : ℕ) → g i j < f.order) →
      ((i j : ℕ) → (i ≡ a → j ≡ b → ⊥) → g i j ≡ 0) → sum f m (λ i. sum f n (g i)) ≡ g a b
  sum_single_two m n a b g l k below e =
      let row : sum f n (g a) ≡ g a b =
      sum_single f law n b (g a) k (below a b) (λ j w apart. e a j (λ _ same. apart same)) in
      sum_single f law m a (λ i. sum f n (g i)) l (subst (λ (x : ℕ). x < f.order) (sym row) (below a b))
      (λ i w apart. sum_zero f law n (g i) (λ j v. e i j (λ same _. apart same)))
      ∙ row

  -- a sum with two neighbours that count
  pub sum_neighbours :
      (n c : ℕ) (g : ℕ → ℕ) → suc c < n → g c < f.order →
      ((m : ℕ) → m < n → (m ≡ c → ⊥) → (m ≡ suc c → ⊥) → g m ≡ 0) → sum f n g ≡ f.plus (g c) (g (suc c))
  sum_neighbours zero c g l below e = absurd (omega arith)
  sum_neighbours (suc n) c g l below e =
      elim (cases_eq n (suc c)) [
        | inl same ↦
            plus_both f (sum_single f law n c g (omega arith) below
            (λ m k apart. e m (omega arith) apart (λ z. omega arith))) (ap g same)
        | inr other ↦
            (plus_both f (sum_neighbours n c g (omega arith) below
            (λ m k one two. e m (omega arith) one two)) (e n (omega arith) (λ z. omega arith) other)
            ∙ plus_zero_code f law (f.plus (g c) (g (suc c))) (law.plus_below (g c) (g (suc c))))
      ]

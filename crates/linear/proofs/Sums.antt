-- The laws of finite sums in a field of codes.
--
-- Every sum is a code, the empty sum too; where a term stands alone for a sum it has to be a code itself.
use Rattle.std.proofs.Common.{◌≡◌, ℕ, zero, suc, ◌+◌, ◌<◌, sym, refl, ap, ◌∙◌, inl, inr, add-zero, add-suc, arith}
use Rattle.std.proofs.lemmas.Bool.{cases_eq}
use Rattle.field.specs.Codes.{Codes, IsField}
use Rattle.linear.specs.Sums.{sum}
use Rattle.linear.proofs.Codes.{zero_lt_order, plus_zero_code, zero_plus_code, zero_plus_zero, plus_four, times_zero}

module _ (f : Codes) (law : IsField f) where
  pub sum_below : (n : ℕ) (g : ℕ → ℕ) → sum f n g < f.order
  sum_below zero g = zero_lt_order f law
  sum_below (suc n) g = law.plus_below (sum f n g) (g n)

  pub sum_ext : (n : ℕ) (g h : ℕ → ℕ) → ((m : ℕ) → m < n → g m ≡ h m) → sum f n g ≡ sum f n h
  sum_ext zero g h e = refl
  sum_ext (suc n) g h e =
      ap (λ (x : ℕ). f.plus x (g n)) (sum_ext n g h (λ m l. e m (omega arith)))
      ∙ ap (f.plus (sum f n h)) (e n (omega arith))

  pub sum_zero : (n : ℕ) (g : ℕ → ℕ) → ((m : ℕ) → m < n → g m ≡ 0) → sum f n g ≡ 0
  sum_zero zero g e = refl
  sum_zero (suc n) g e =
      ap (λ (x : ℕ). f.plus x (g n)) (sum_zero n g (λ m l. e m (omega arith)))
      ∙ ap (f.plus 0) (e n (omega arith)) ∙ zero_plus_zero f law

  -- a sum in two parts, and its first term
  pub sum_split :
      (m n : ℕ) (g : ℕ → ℕ) → sum f (m + n) g ≡ f.plus (sum f m g) (sum f n (λ x. g (m + x)))
  sum_split m zero g =
      ap (λ (k : ℕ). sum f k g) (add-zero m) ∙ sym (plus_zero_code f law (sum f m g) (sum_below m g))
  sum_split m (suc n) g =
      ap (λ (k : ℕ). sum f k g) (add-suc m n) ∙ ap (λ (x : ℕ). f.plus x (g (m + n))) (sum_split m n g)
      ∙ law.plus_assoc (sum f m g) (sum f n (λ x. g (m + x))) (g (m + n))

  pub sum_first : (n : ℕ) (g : ℕ → ℕ) → g 0 < f.order → sum f (suc n) g ≡ f.plus (g 0) (sum f n (λ m. g (suc m)))
  sum_first zero g below = law.plus_comm 0 (g 0)
  sum_first (suc n) g below =
      ap (λ (x : ℕ). f.plus x (g (suc n))) (sum_first n g below)
      ∙ law.plus_assoc (g 0) (sum f n (λ m. g (suc m))) (g (suc n))

  pub sum_plus :
      (n : ℕ) (g h : ℕ → ℕ) → sum f n (λ m. f.plus (g m) (h m)) ≡ f.plus (sum f n g) (sum f n h)
  sum_plus zero g h = sym (zero_plus_zero f law)
  sum_plus (suc n) g h =
      ap (λ (x : ℕ). f.plus x (f.plus (g n) (h n))) (sum_plus n g h)
      ∙ plus_four f law (sum f n g) (sum f n h) (g n) (h n)

  pub sum_swap :
      (m n : ℕ) (g : ℕ → ℕ → ℕ) → sum f m (λ i. sum f n (λ j. g i j)) ≡ sum f n (λ j. sum f m (λ i. g i j))
  sum_swap zero n g = sym (sum_zero n (λ j. 0) (λ j l. refl))
  sum_swap (suc m) n g =
      ap (λ (x : ℕ). f.plus x (sum f n (λ j. g m j))) (sum_swap m n g)
      ∙ sym (sum_plus n (λ j. sum f m (λ i. g i j)) (λ j. g m j))

  pub times_sum : (a n : ℕ) (g : ℕ → ℕ) → f.times a (sum f n g) ≡ sum f n (λ m. f.times a (g m))
  times_sum a zero g = times_zero f law a
  times_sum a (suc n) g =
      law.times_plus a (sum f n g) (g n) ∙ ap (λ (x : ℕ). f.plus x (f.times a (g n))) (times_sum a n g)

  -- a sum with one term that counts
  pub sum_single :
      (n c : ℕ) (g : ℕ → ℕ) → c < n → g c < f.order → ((m : ℕ) → m < n → (m ≡ c → ⊥) → g m ≡ 0) → sum f n g ≡ g c
  sum_single zero c g l below e = absurd (omega arith)
  sum_single (suc n) c g l below e =
      elim (cases_eq n c) [
        | inl same ↦
            (ap (λ (x : ℕ). f.plus x (g n)) (sum_zero n g (λ m k. e m (omega arith) (λ z. omega arith)))
            ∙ ap (λ (x : ℕ). f.plus 0 (g x)) same ∙ zero_plus_code f law (g c) below)
        | inr other ↦
            (ap (λ (x : ℕ). f.plus x (g n))
            (sum_single n c g (omega arith) below (λ m k apart. e m (omega arith) apart))
            ∙ ap (f.plus (g c)) (e n (omega arith) other) ∙ plus_zero_code f law (g c) below)
      ]

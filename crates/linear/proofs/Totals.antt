-- The laws of sums of numbers.
use Rattle.std.proofs.Common.{◌≡◌, ℕ, zero, suc, ◌+◌, ◌-◌, ◌*◌, ◌<◌, ◌≤◌, sym, refl, ap, ◌∙◌, subst, inl, inr, add-mul, zero-mul, add-one, arith}
use Rattle.std.proofs.lemmas.Bool.{cases_lt}
use Rattle.linear.specs.Sums.{total}

pub total_ext : (n : ℕ) (g h : ℕ → ℕ) → ((m : ℕ) → m < n → g m ≡ h m) → total n g ≡ total n h
total_ext zero g h e = refl
total_ext (suc n) g h e = omega (arith, total_ext n g h (λ m l. e m (omega arith)), e n (omega arith))

pub total_zero : (n : ℕ) (g : ℕ → ℕ) → ((m : ℕ) → m < n → g m ≡ 0) → total n g ≡ 0
total_zero zero g e = refl
total_zero (suc n) g e = omega (arith, total_zero n g (λ m l. e m (omega arith)), e n (omega arith))

pub total_more : (n : ℕ) (g : ℕ → ℕ) → total (n + 1) g ≡ total n g + g n
total_more n g = ap (λ (m : ℕ). total m g) (add-one n)

pub total_first : (n : ℕ) (g : ℕ → ℕ) → total (suc n) g ≡ g 0 + total n (λ m. g (suc m))
total_first zero g = omega arith
total_first (suc n) g = omega (arith, total_first n g)

pub total_plus : (n : ℕ) (g h : ℕ → ℕ) → total n (λ m. g m + h m) ≡ total n g + total n h
total_plus zero g h = refl
total_plus (suc n) g h = omega (arith, total_plus n g h)

pub total_times : (n b : ℕ) (g : ℕ → ℕ) → total n (λ m. g m * b) ≡ total n g * b
total_times zero b g = sym (zero-mul b)
total_times (suc n) b g =
    ap (λ (x : ℕ). x + g n * b) (total_times n b g) ∙ sym (add-mul (total n g) (g n) b)

-- terms past the last that counts add nothing
pub total_past : (m n : ℕ) (g : ℕ → ℕ) → m ≤ n → ((i : ℕ) → m ≤ i → g i ≡ 0) → total n g ≡ total m g
total_past m zero g l past = let all : 0 ≡ m = omega arith in ap (λ (x : ℕ). total x g) all
total_past m (suc n) g l past =
    elim (cases_lt n m) [
      | inl over ↦ (let all : suc n ≡ m = omega arith in ap (λ (x : ℕ). total x g) all)
      | inr within ↦ omega (arith, total_past m n g within past, past n within)
    ]

-- the same numbers in the other order
pub total_reversed :
    (n : ℕ) (g d : ℕ → ℕ) → ((m : ℕ) → m < n → g m ≡ d (n - suc m)) → total n g ≡ total n d
total_reversed zero g d e = refl
total_reversed (suc n) g d e =
    let rest : total n g ≡ total n (λ m. d (suc m)) =
    total_reversed n g (λ m. d (suc m)) (λ m l. e m (omega arith) ∙ ap d (omega arith)) in
    let last : g n ≡ d 0 = e n (omega arith) ∙ ap d (omega arith) in
    omega (arith, total_first n d)

pub total_le : (m n : ℕ) (g : ℕ → ℕ) → m ≤ n → total m g ≤ total n g
total_le m zero g l = let none : m ≡ 0 = omega arith in subst (λ (x : ℕ). total x g ≤ 0) (sym none) (omega arith)
total_le m (suc n) g l =
    elim (cases_lt n m) [
      | inl over ↦
          (let all : m ≡ suc n = omega arith in
          subst (λ (x : ℕ). total x g ≤ total (suc n) g) (sym all) (omega arith))
      | inr within ↦ omega (arith, total_le m n g within)
    ]

-- a term is at most the sum, and what stands before the end of a block before the whole
pub term_le_total : (m n : ℕ) (g : ℕ → ℕ) → m < n → g m ≤ total n g
term_le_total m n g l = omega (arith, total_le (suc m) n g (omega arith))

pub place_lt_total : (m n x : ℕ) (g : ℕ → ℕ) → m < n → x < g m → total m g + x < total n g
place_lt_total m n x g l within = omega (arith, total_le (suc m) n g (omega arith))

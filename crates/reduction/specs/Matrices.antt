-- Matrices and chains of codes, and their products as finite sums.
--
-- A matrix is given by the code at each row and column, a chain by the code at each place; sizes are said
-- where they matter. A product over no places is 0.
use Rattle.std.specs.Prelude.{◌≡◌, ℕ, ◌<◌, ◌≤◌, Bool, cond, ◌&&◌, ◌==◌}
use Rattle.field.specs.Codes.{Codes}
use Rattle.linear.specs.Sums.{sum}

abbrev pub Matrix : Type 0
Matrix = ℕ → ℕ → ℕ

abbrev pub Chain : Type 0
Chain = ℕ → ℕ

-- the entries are codes, and 0 outside the rows and columns
pub record IsMatrix (f : Codes) (rows columns : ℕ) (a : Matrix) : Type 0 where
  pub below : (i j : ℕ) → a i j < f.order
  pub past_rows : (i j : ℕ) → rows ≤ i → a i j ≡ 0
  pub past_columns : (i j : ℕ) → columns ≤ j → a i j ≡ 0

-- a matrix with n columns times a matrix with n rows
abbrev pub product : Codes → ℕ → Matrix → Matrix → Matrix
product f n a b i j = sum f n (λ h. f.times (a i h) (b h j))

-- a matrix with n columns times a chain over n places
abbrev pub apply : Codes → ℕ → Matrix → Chain → Chain
apply f n a c i = sum f n (λ h. f.times (a i h) (c h))

-- 1 at the same row and column if the place counts, else 0
abbrev pub identity_on : (ℕ → Bool) → Matrix
identity_on counts i j = cond (counts i && i == j) 1 0

-- 0 everywhere
abbrev pub IsZero : Matrix → Type 0
IsZero a = (i j : ℕ) → a i j ≡ 0

-- the same code at each of n places
abbrev pub Same : ℕ → Chain → Chain → Type 0
Same n z y = (j : ℕ) → j < n → z j ≡ y j

-- the first chain less the second
abbrev pub difference : Codes → Chain → Chain → Chain
difference f z y j = f.plus (z j) (f.minus (y j))

-- the sum of n chains, the s-th times the coefficient c s
abbrev pub combination : Codes → ℕ → (ℕ → ℕ) → (ℕ → Chain) → Chain
combination f n c z j = sum f n (λ s. f.times (c s) (z s j))

-- Numbers by their digits, and the order of lists of numbers from the first.
--
-- Nothing is assumed: a digit may exceed the radix, and of two lists one may be longer.
use Rattle.std.specs.Prelude.{◌≡◌, ℕ, ◌+◌, ◌*◌, ◌<◌, ◌⊎◌, List, [], ◌∷◌}

-- the number that n and then the digits make at a radix
abbrev pub numeral : ℕ → ℕ → List ℕ → ℕ
numeral radix n [] = n
numeral radix n (d ∷ ds) = numeral radix (n * radix + d) ds

-- at the first place where the lists differ, the first list has the lower number
abbrev pub Before : List ℕ → List ℕ → Type 0
Before [] ys = ⊥
Before (x ∷ xs) [] = ⊥
Before (x ∷ xs) (y ∷ ys) = (x < y) ⊎ ((x ≡ y) × Before xs ys)

-- The powers of t in the field of 256 and their exponents, as two tables.
--
-- Every code but 0 is one of the 255 different powers of t. The code of t is 2.
use Rattle.std.specs.Prelude.{ℕ, zero, suc, cond, List, [], ◌∷◌, ◌==◌}
use Rattle.field256.specs.Polynomials.{residue_product}

-- t to the exponent
unfoldable pub power : ℕ → ℕ
power zero = 1
power (suc i) = residue_product 2 (power i)

-- `n` codes from `x` on, each the product of t and the one before it
abbrev pub multiples : ℕ → ℕ → List ℕ
multiples zero x = []
multiples (suc n) x = x ∷ multiples n (residue_product 2 x)

-- the powers to the exponents 0 to 254
unfoldable pub powers : List ℕ
powers = multiples 255 1

-- the index of `x` in the list; the length if it is not there
abbrev pub place : ℕ → List ℕ → ℕ
place x [] = 0
place x (y ∷ ys) = cond (x == y) 0 (suc (place x ys))

-- the indices in the list of `n` numbers from `x` on
abbrev pub places : ℕ → ℕ → List ℕ → List ℕ
places zero x ys = []
places (suc n) x ys = place x ys ∷ places n (suc x) ys

-- the exponents of the codes 1 to 255
unfoldable pub logarithms : List ℕ
logarithms = places 255 1 powers

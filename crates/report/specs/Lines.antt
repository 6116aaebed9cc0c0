-- The lines of a report: a word, then decimal numbers, parted by single spaces; a line ends with the byte 0A.
use Rattle.std.specs.Prelude.{ℕ, List, [], ◌∷◌, ◌++◌, codes, decimal}

-- numbers, a space before each
abbrev pub numbers : List ℕ → List ℕ
numbers [] = []
numbers (n ∷ ns) = 32 ∷ (decimal n ++ numbers ns)

-- a word of the report and its numbers
abbrev pub line : List ℕ → List ℕ → List ℕ
line word ns = word ++ (numbers ns ++ 10 ∷ [])

-- the field's order, the form, and how many cells the complex has in each degree from 0 on
abbrev pub report_text : ℕ → ℕ → List ℕ → List ℕ
report_text order form cells =
    line (codes "field") (order ∷ []) ++ (line (codes "form") (form ∷ []) ++ line (codes "cells") cells)

-- A word of a private function of the leaf: one cell that is counted by its degree.
use Rattle.std.specs.Prelude.{ℕ, cond, Some, None, Option, nat_lt}
use Rattle.cell.specs.Kind.{Kind}

-- 1 for a cell of a degree below d, else 0
abbrev pub one_below : {K : Type 0} → Kind K → ℕ → Option K → ℕ
one_below k d None = 0
one_below k d (Some c) = cond (nat_lt (k.degree c) d) 1 0

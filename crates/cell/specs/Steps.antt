-- Steps to the face of a cube with a number: where it stands and which sign it has.
use Rattle.std.specs.Prelude.{ℕ, ◌+◌, ◌-◌, ◌/◌, ◌%◌, cond, ◌==◌}
use Rattle.cell.specs.declared.Sign.{Sign}
use Rattle.cell.specs.declared.Sign.TheVariants.{Plus, Minus}

-- the coordinate of face f along a coordinate n: the number after n first, then the one before
abbrev pub moved : ℕ → ℕ → ℕ
moved n f = cond (f % 2 == 0) (n + 1) (n - 1)

-- the sign of face f: that of the coordinate f / 2, counted over the odd ones, and then the other
abbrev pub alternating : ℕ → Sign
alternating f = cond (f / 2 % 2 == f % 2) Plus Minus

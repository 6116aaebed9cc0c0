-- The test of the limits of a complex: the cells are counted before the top is looked at.
use Rattle.std.specs.Prelude.{◌≡◌, ℕ, suc, ◌<◌, ◌≤◌, cond, ◌↔◌, Ok, Err, Result, nat_lt}
use Rattle.linear.specs.Complexes.{Meaning}
use Rattle.linear.specs.Sums.{total}
use Rattle.complex.specs.declared.fault.PileFault.{PileFault}
use Rattle.complex.specs.declared.fault.PileFault.TheVariants.{TooMany, TopTooHigh}

-- how many cells a complex has in all its degrees
abbrev pub cells : Meaning → ℕ
cells m = total (suc m.top) m.dim

abbrev pub limits_test : ℕ → ℕ → Result (Unit {0}) PileFault
limits_test n top = cond (nat_lt 1024 n) (Err TooMany) (cond (nat_lt 8 top) (Err TopTooHigh) (Ok tt))

-- what the answer says of the number of cells and of the top, exactly then
pub record Limited (n top : ℕ) (r : Result (Unit {0}) PileFault) : Type 0 where
  pub accepted : (r ≡ Ok tt) ↔ ((n ≤ 1024) × (top ≤ 8))
  pub too_many : (r ≡ Err TooMany) ↔ (1024 < n)
  pub too_high : (r ≡ Err TopTooHigh) ↔ ((n ≤ 1024) × (8 < top))

-- The live cells of a reduction as a complex of their own, numbered anew in their order.
use Rattle.std.specs.Prelude.{ℕ, zero, suc, ◌-◌, Bool, cond, ◌&&◌, ◌==◌, nat_lt}
use Rattle.linear.specs.Complexes.{Meaning}
use Rattle.reduction.specs.Reductions.{State}
use Rattle.reduction.specs.Cancelling.{count}

-- the place of the r-th number below n that passes a test, counted from 0; 0 if there is none
abbrev pub place : (ℕ → Bool) → ℕ → ℕ → ℕ
place test zero r = 0
place test (suc n) r = cond (test n && r == count test n) n (place test n r)

-- the number of live cells of a degree
abbrev pub live_dim : Meaning → State → ℕ → ℕ
live_dim m s k = count (s.live k) (m.dim k)

-- the cell that is the r-th live one of a degree
abbrev pub survivor : Meaning → State → ℕ → ℕ → ℕ
survivor m s k r = place (s.live k) (m.dim k) r

-- the live cells with the boundaries D
abbrev pub survivors : Meaning → State → Meaning
survivors m s = record {
  top = m.top;
  dim = live_dim m s;
  entry = λ k i j. cond (nat_lt i (live_dim m s (k - 1)) && nat_lt j (live_dim m s k))
      (s.D k (survivor m s (k - 1) i) (survivor m s k j)) 0;
}

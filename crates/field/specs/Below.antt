-- A computed test of every number below a bound, carried to each of them.
use Rattle.std.specs.Prelude.{◌≡◌, ℕ, zero, suc, ◌<◌, Bool, true, ◌&&◌}
use Rattle.std.proofs.Common.{ap, ◌∙◌, arith}
use Rattle.std.proofs.Math.Decide.{dec_lt}
use Rattle.std.proofs.lemmas.Bool.{and_parts}

-- the test passes at every number below the bound
abbrev pub all_below : (ℕ → Bool) → ℕ → Bool
all_below test zero = true
all_below test (suc n) = test n && all_below test n

pub all_below_at : (test : ℕ → Bool) (n : ℕ) → all_below test n ≡ true → (k : ℕ) → k < n → test k ≡ true
all_below_at test zero t k h = absurd (omega arith)
all_below_at test (suc n) t k h =
    let parts = and_parts (test n) (all_below test n) t in
    elim (dec_lt k n) [
      | yes less ↦ all_below_at test n parts.1 k less
      | no equal ↦ (let same : k ≡ n = omega arith in ap test same ∙ parts.0)
    ]

-- Within the limits of a complex no degree has more than 1,024 cells.
use Rattle.std.proofs.Common.{ℕ, suc, ◌≤◌, inl, inr, arith}
use Rattle.std.proofs.lemmas.Bool.{cases_lt}
use Rattle.field.specs.Codes.{Codes}
use Rattle.linear.specs.Complexes.{Meaning, IsComplex, WithinLimits}
use Rattle.linear.proofs.Totals.{term_le_total}

pub dim_le : (f : Codes) (m : Meaning) → IsComplex f m → WithinLimits m → (k : ℕ) → m.dim k ≤ 1024
dim_le f m law limits k =
    elim (cases_lt m.top k) [
      | inl over ↦ omega (arith, law.above_top k over)
      | inr within ↦ omega (arith, term_le_total k (suc m.top) m.dim (omega arith), limits.cells)
    ]

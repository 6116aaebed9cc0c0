-- A block has at most 1024 * 1024 pairs.
use Rattle.std.proofs.Common.{◌≡◌, ℕ, ◌-◌, ◌*◌, ◌≤◌, rules}
use Rattle.field.specs.Codes.{Codes}
use Rattle.linear.specs.Complexes.{Meaning, IsComplex, WithinLimits}
use Rattle.linear.proofs.tensor.Counts.{block_le}
use Rattle.tensor.proofs.Tensor.count_block.Goals as goal

pairs_few :
    (f : Codes) (c d : Meaning) → IsComplex f c → WithinLimits c → IsComplex f d → WithinLimits d →
    (k p m n : ℕ) → m ≡ c.dim p → n ≡ d.dim (k - p) → m * n ≤ 1024 * 1024
pairs_few f c d left few right few' k p m n first second =
    rw (first, second) (block_le f c d left few right few' k p)

pub overflow_mul-result : goal.overflow_mul-result
overflow_mul-result g c =
    let few = pairs_few _ _ _ c.law.ensures.complex c.law.ensures.limits c.law-2.ensures.complex
    c.law-2.ensures.limits c.args.k c.args.p _ _ c.dim.ensures c.dim-2.ensures in
    search rules

pub returns-clause-few : goal.returns-clause-few
returns-clause-few g c =
    pairs_few _ _ _ c.law.ensures.complex c.law.ensures.limits c.law-2.ensures.complex c.law-2.ensures.limits
    c.args.k c.args.p _ _ c.dim.ensures c.dim-2.ensures

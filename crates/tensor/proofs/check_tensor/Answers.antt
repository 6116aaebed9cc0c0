-- The tensor has as many cells as there are pairs.
use Rattle.linear.proofs.tensor.Counts.{total_tensor}
use Rattle.tensor.proofs.check_tensor.Goals as goal

pub returns-clause-is : goal.returns-clause-is
returns-clause-is g c =
    let pairs = total_tensor _ _ _ c.law.ensures.complex c.law-2.ensures.complex in
    let left = c.count_cells.ensures.is in let right = c.count_cells-2.ensures.is in
    rw (pairs, ← left, ← right, ← c.top.ensures, ← c.top-2.ensures) c.check_limits.ensures.is

pub returns-clause-law : goal.returns-clause-law
returns-clause-law g c =
    let pairs = total_tensor _ _ _ c.law.ensures.complex c.law-2.ensures.complex in
    let left = c.count_cells.ensures.is in let right = c.count_cells-2.ensures.is in
    rw (pairs, ← left, ← right, ← c.top.ensures, ← c.top-2.ensures) c.check_limits.ensures.law

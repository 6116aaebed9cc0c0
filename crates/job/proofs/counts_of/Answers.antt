use Rattle.std.proofs.Common.{refl}
use Rattle.job.specs.Jobs.{lists_of}
use Rattle.job.proofs.Counting.{hold_lists}
use Rattle.job.proofs.counts_of.Goals as goal

pub returns-clause-is : goal.returns-clause-is
returns-clause-is c = λ k shows.
    rw (← shows.order, ← shows.question)
    (c.count_cells.ensures.is (lists_of k)
    (hold_lists c.args.sheet.now k shows _ c.block_of.ensures.holds c.block_of-2.ensures.holds refl))

pub returns-clause-law : goal.returns-clause-law
returns-clause-law c = λ k shows.
    rw (← shows.question)
    (c.count_cells.ensures.law (lists_of k)
    (hold_lists c.args.sheet.now k shows _ c.block_of.ensures.holds c.block_of-2.ensures.holds refl))

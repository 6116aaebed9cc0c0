-- A block with no filled voxel, the start, and a list that is overfull.
use Rattle.std.proofs.Common.{sym, ◌∙◌, subst, arith}
use Rattle.lists.specs.Block.{belongs}
use Rattle.lists.specs.Ranks.{row}
use Rattle.lists.specs.Working.{Holds}
use Rattle.lists.proofs.Below.{block_below_none}
use Rattle.lists.proofs.Blocks.{block_blank, overfull_early}
use Rattle.lists.proofs.block.block_of.Goals as goal

pub returns-then-is_blank-clause-holds : goal.returns-then-is_blank-clause-holds
returns-then-is_blank-clause-holds c =
    subst (Holds c.new-list.result) (block_blank c.args.voxels.now (c.is_blank.ensures.0 c.if-is_blank.true))
    c.new-list.ensures

pub loop-degree-init : goal.loop-degree-init
loop-degree-init c = subst (Holds _) (sym (block_below_none (belongs c.args.voxels.now))) c.new-list.ensures

pub returns-then-is_overfull-clause-holds : goal.returns-then-is_overfull-clause-holds
returns-then-is_overfull-clause-holds c =
    overfull_early c.args.voxels.now (row c.loop-degree.degree c.loop-y.y c.loop-z.z) (omega arith) c.loop-y.list
    c.loop-y.invariant (sym c.is_overfull.ensures ∙ c.if-is_overfull.true)

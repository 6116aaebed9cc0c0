use Rattle.lists.specs.Block.{belongs}
use Rattle.lists.specs.Ranks.{block_below, row}
use Rattle.lists.specs.Working.{Holds}
use Rattle.lists.proofs.block.block_of.Given as goal

abbrev pub invariant-loop-degree : goal.invariant-loop-degree
invariant-loop-degree l = Holds l.list (block_below (belongs l.voxels) (row l.degree 0 0))

abbrev pub invariant-loop-z : goal.invariant-loop-z
invariant-loop-z l = Holds l.list (block_below (belongs l.voxels) (row l.degree 0 l.z))

abbrev pub invariant-loop-y : goal.invariant-loop-y
invariant-loop-y l = Holds l.list (block_below (belongs l.voxels) (row l.degree l.y l.z))

use Rattle.std.proofs.Common.{◌+◌, ◌*◌, min}
use Rattle.lists.specs.Block.{belongs}
use Rattle.lists.specs.Ranks.{block_below, row}
use Rattle.lists.specs.Working.{Holds}
use Rattle.lists.proofs.block.choose_row.Given as goal

abbrev pub invariant-loop-half : goal.invariant-loop-half
invariant-loop-half l =
    Holds l.list (block_below (belongs l.voxels) (row l.degree l.y l.z + min (2 * l.half) 17))

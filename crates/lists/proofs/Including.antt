-- Of two blocks, if each filled voxel of the one is filled in the other, each cube of the one stands in the other.
use Rattle.std.proofs.Common.{◌≡◌, ℕ, Bool, true, false, List, get_or}
use Rattle.std.specs.List.{AllByRecursion}
use Rattle.std.proofs.ByRecursion.{All-weaker}
use Rattle.cell.specs.declared.cube.Cube.{Cube}
use Rattle.cell.specs.Cubes.{cubes}
use Rattle.index.specs.Closed.{held}
use Rattle.lists.specs.Block.{belongs, block}
use Rattle.lists.specs.BlockLaw.{Near}
use Rattle.lists.proofs.BlockLaws.{is_block}
use Rattle.lists.proofs.Chosen.{block_below_belongs}
use Rattle.lists.proofs.Nearness.{decides_belongs}

module _ (few more : List Bool) (within : (n : ℕ) → get_or few n false ≡ true → get_or more n false ≡ true) where
  near_more : (c : Cube) → Near few c → Near more c
  near_more c w = record {
    i = w.i;
    j = w.j;
    k = w.k;
    along_x = w.along_x;
    along_y = w.along_y;
    along_z = w.along_z;
    is_filled = within _ w.is_filled;
  }

  pub all_held_block : AllByRecursion (λ c. held cubes (cubes.rank c) (block more) ≡ true) (block few)
  all_held_block =
      All-weaker (λ c. (cubes.valid c ≡ true) × (belongs few c ≡ true))
      (λ c. held cubes (cubes.rank c) (block more) ≡ true)
      (λ c h. ((is_block more).exact c h.0).1 (near_more c ((decides_belongs few c h.0).0 h.1)))
      (block few) (block_below_belongs (belongs few) 19652)

-- The law of a block.
use Rattle.std.proofs.Common.{◌≡◌, ℕ, ◌≤◌, Bool, true, List, [], ◌∷◌, length, sym, ◌∙◌}
use Rattle.std.specs.List.{AllByRecursion}
use Rattle.std.proofs.ByRecursion.{All-weaker}
use Rattle.cell.specs.declared.Face.{Face}
use Rattle.cell.specs.declared.cube.Cube.{Cube}
use Rattle.cell.specs.Cubes.{cubes}
use Rattle.cell.specs.Kind.{Faces}
use Rattle.cell.specs.CubeLaws.{cubes_kind}
use Rattle.index.specs.Closed.{Closed, HasFaces, held}
use Rattle.lists.specs.Block.{belongs, block}
use Rattle.lists.specs.BlockLaw.{IsBlock, Near}
use Rattle.lists.proofs.Chosen.{block_below_ascending, block_below_belongs, block_below_valid, held_block}
use Rattle.lists.proofs.Nearness.{decides_belongs, faces_near}

module _ (flags : List Bool) where
  held_near : (c : Cube) → cubes.valid c ≡ true → Near flags c → held cubes (cubes.rank c) (block flags) ≡ true
  held_near c valid w = held_block (belongs flags) c valid ∙ (decides_belongs flags c valid).1 w

  near_held : (c : Cube) → cubes.valid c ≡ true → held cubes (cubes.rank c) (block flags) ≡ true → Near flags c
  near_held c valid h = (decides_belongs flags c valid).0 (sym (held_block (belongs flags) c valid) ∙ h)

  faces_held :
      (d : ℕ) (fs : List (Face Cube)) → Faces cubes d fs → AllByRecursion (λ f. Near flags f.cell) fs
      → AllByRecursion (λ f. held cubes (cubes.rank f.cell) (block flags) ≡ true) fs
  faces_held d [] below near = tt
  faces_held d (f ∷ fs) below near =
      (held_near f.cell below.0 near.0, faces_held d fs below.3 near.1)

  has_faces : (c : Cube) → (cubes.valid c ≡ true) × (belongs flags c ≡ true) → HasFaces cubes (block flags) c
  has_faces c h =
      faces_held (cubes.degree c) (cubes.faces c) (cubes_kind.faces_below c h.0)
      (faces_near flags c h.0 ((decides_belongs flags c h.0).0 h.1))

  block_faces : AllByRecursion (HasFaces cubes (block flags)) (block flags)
  block_faces =
      All-weaker (λ c. (cubes.valid c ≡ true) × (belongs flags c ≡ true)) (HasFaces cubes (block flags)) has_faces
      (block flags) (block_below_belongs (belongs flags) 19652)

  block_closed : length (block flags) ≤ 1024 → Closed cubes (block flags)
  block_closed few = record {
    few = few;
    valid = block_below_valid (belongs flags) 19652;
    ascending = block_below_ascending (belongs flags) 19652;
    faces = block_faces;
  }

  pub is_block : IsBlock flags (block flags)
  is_block = record {
    exact = λ c valid. (near_held c valid, held_near c valid);
    valid = block_below_valid (belongs flags) 19652;
    ascending = block_below_ascending (belongs flags) 19652;
    faces = block_faces;
    closed = (block_closed, λ h. h.few);
  }

-- A closed list grows by a cell that passes, and each of its cells passes after those before it.
use Rattle.std.proofs.Common.{◌≡◌, ◌<◌, true, List, [], ◌∷◌, ◌++◌, length, arith, length-append}
use Rattle.std.specs.List.{AllByRecursion}
use Rattle.std.proofs.ByRecursion.{All-push, All-weaker}
use Rattle.cell.specs.Kind.{Kind, IsKind, Faces}
use Rattle.cell.specs.declared.Face.{Face}
use Rattle.index.specs.Closed.{held, HasFaces, Closed}
use Rattle.index.proofs.Ascents.{ascending_push, above_last_middle}
use Rattle.index.proofs.Held.{held_append, held_before, all_from_all_held, all_held_from_all}
use Rattle.index.proofs.Fits.{Fits}

all_middle : {K : Type 0} (P : K → Type 0) (before after : List K) (c : K) → AllByRecursion P (before ++ c ∷ after) → P c
all_middle P [] after c h = h.0
all_middle P (b ∷ before) after c h = all_middle P before after c h.1

module _ {K : Type 0} (k : Kind K) where
  has_faces_append : (cs ds : List K) (c : K) → HasFaces k cs c → HasFaces k (cs ++ ds) c
  has_faces_append cs ds c =
      All-weaker _ (λ f. held k (k.rank f.cell) (cs ++ ds) ≡ true) (λ f. held_append k cs ds (k.rank f.cell))
      (k.faces c)

  pub closed_push : (cs : List K) (c : K) → length cs < 1024 → Closed k cs → Fits k cs c → Closed k (cs ++ c ∷ [])
  closed_push cs c w h f = record {
    few = simp length-append (omega arith);
    valid = All-push (λ d. k.valid d ≡ true) cs c h.valid f.valid;
    ascending = ascending_push k cs c h.ascending f.above;
    faces =
        All-push (HasFaces k (cs ++ c ∷ [])) cs c
        (All-weaker (HasFaces k cs) (HasFaces k (cs ++ c ∷ [])) (has_faces_append cs (c ∷ [])) cs h.faces)
        (has_faces_append cs (c ∷ []) c (all_from_all_held k cs (k.faces c) f.faces));
  }

  module _ (law : IsKind k) (before after : List K) (c : K) (h : Closed k (before ++ c ∷ after)) where
    valid_middle : k.valid c ≡ true
    valid_middle = all_middle (λ d. k.valid d ≡ true) before after c h.valid

    -- the faces of a cell have a lower degree, so they stand before it
    faces_before :
        (fs : List (Face K)) → Faces k (k.degree c) fs →
        AllByRecursion (λ f. held k (k.rank f.cell) (before ++ c ∷ after) ≡ true) fs →
        AllByRecursion (λ f. held k (k.rank f.cell) before ≡ true) fs
    faces_before [] below there = tt
    faces_before (f ∷ fs) below there = (
      held_before k before after c (k.rank f.cell) h.ascending
          (law.lower_first f.cell c below.0 valid_middle (omega (arith, below.1))) there.0,
      faces_before fs below.3 there.1,
    )

    pub fits_middle : Fits k before c
    fits_middle = record {
      valid = valid_middle;
      above = above_last_middle k before after c h.ascending;
      faces =
          all_held_from_all k before (k.faces c)
          (faces_before (k.faces c) (law.faces_below c valid_middle)
          (all_middle (HasFaces k (before ++ c ∷ after)) before after c h.faces));
    }

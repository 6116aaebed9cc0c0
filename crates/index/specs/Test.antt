-- The test of a list of cells: first its length, then cell by cell whether it is a cell, whether it stands
-- above the one before it, and whether its faces stand before it. The first fault decides.
use Rattle.std.specs.Prelude.{ℕ, ◌+◌, Bool, true, false, cond, List, [], ◌∷◌, ◌++◌, length, Ok, Err, Result, nat_lt}
use Rattle.cell.specs.declared.Face.{Face}
use Rattle.cell.specs.Kind.{Kind}
use Rattle.index.specs.Closed.{held}
use Rattle.index.specs.declared.LeafFault.{LeafFault}
use Rattle.index.specs.declared.LeafFault.TheVariants.{OutOfRange, NotAbove, FaceMissing, TooMany}

-- the next test, if this one is passed
abbrev pub and_then : Result (Unit {0}) LeafFault → Result (Unit {0}) LeafFault → Result (Unit {0}) LeafFault
and_then (Ok _) next = next
and_then (Err e) next = Err e

module _ {K : Type 0} (k : Kind K) where
  -- whether c stands above the last cell of a list
  abbrev pub above_last : List K → K → Bool
  above_last [] c = true
  above_last (b ∷ []) c = nat_lt (k.rank b) (k.rank c)
  above_last (b ∷ d ∷ bs) c = above_last (d ∷ bs) c

  -- whether each listed face stands in the list before
  abbrev pub all_held : List K → List (Face K) → Bool
  all_held before [] = true
  all_held before (f ∷ fs) = cond (held k (k.rank f.cell) before) (all_held before fs) false

  -- the cell c with the number n, after the cells before it
  abbrev pub cell_test : List K → ℕ → K → Result (Unit {0}) LeafFault
  cell_test before n c =
      cond (k.valid c)
      (cond (above_last before c)
      (cond (all_held before (k.faces c)) (Ok tt) (Err (FaceMissing n)))
      (Err (NotAbove n)))
      (Err OutOfRange)

  -- the cells of a list from the number n on, after the cells before them
  abbrev pub cells_test : List K → ℕ → List K → Result (Unit {0}) LeafFault
  cells_test before n [] = Ok tt
  cells_test before n (c ∷ cs) = and_then (cell_test before n c) (cells_test (before ++ c ∷ []) (n + 1) cs)

  abbrev pub list_test : List K → Result (Unit {0}) LeafFault
  list_test cs = cond (nat_lt 1024 (length cs)) (Err TooMany) (cells_test [] 0 cs)

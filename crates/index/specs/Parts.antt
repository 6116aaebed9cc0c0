-- What the parts of the test of a list answer after an ascending list; after another they may answer anything.
use Rattle.std.specs.Prelude.{◌≡◌, ℕ, Bool, List, Result}
use Rattle.cell.specs.Kind.{Kind}
use Rattle.index.specs.Closed.{Ascending}
use Rattle.index.specs.Test.{all_held, cell_test}
use Rattle.index.specs.declared.LeafFault.{LeafFault}

module _ {K : Type 0} (k : Kind K) where
  -- r tells whether all faces of c stand in the list
  abbrev pub TellsFaces : List K → K → Bool → Type 0
  TellsFaces before c r = Ascending k before → r ≡ all_held k before (k.faces c)

  -- r is the answer of the test of c, which has the number n
  abbrev pub TellsCell : List K → ℕ → K → Result (Unit {0}) LeafFault → Type 0
  TellsCell before n c r = Ascending k before → r ≡ cell_test k before n c

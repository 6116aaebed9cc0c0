-- The test of an inclusion: the first cell of the smaller list that does not stand in the larger one decides.
use Rattle.std.specs.Prelude.{◌≡◌, ℕ, ◌+◌, false, cond, ◌↔◌, List, [], ◌∷◌, take, Ok, Err, Result, MatchOption}
use Rattle.std.specs.List.{slice_get}
use Rattle.cell.specs.Kind.{Kind}
use Rattle.index.specs.Closed.{held}
use Rattle.complex.specs.declared.fault.PileFault.{PileFault}
use Rattle.complex.specs.declared.fault.PileFault.TheVariants.{NotIncluded}
use Rattle.maps.specs.Inclusion.{Included}

module _ {K : Type 0} (k : Kind K) where
  -- the listed cells, numbered from n on
  abbrev pub included_from : ℕ → List K → List K → Result (Unit {0}) PileFault
  included_from n cs [] = Ok tt
  included_from n cs (b ∷ bs) = cond (held k (k.rank b) cs) (included_from (n + 1) cs bs) (Err (NotIncluded n))

  abbrev pub inclusion_test : List K → List K → Result (Unit {0}) PileFault
  inclusion_test bs cs = included_from 0 cs bs

  -- the cells before the number n stand in the larger list, and the cell with that number does not
  abbrev pub FirstMissing : List K → List K → ℕ → Type 0
  FirstMissing bs cs n = Included k (take n bs) cs × MatchOption (slice_get bs n) ⊥ (λ b. held k (k.rank b) cs ≡ false)

  -- what the answer says of the two lists, exactly then
  pub record TellsInclusion (bs cs : List K) (r : Result (Unit {0}) PileFault) : Type 0 where
    pub accepted : (r ≡ Ok tt) ↔ Included k bs cs
    pub refused : (n : ℕ) → (r ≡ Err (NotIncluded n)) ↔ FirstMissing bs cs n

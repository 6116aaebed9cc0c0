-- What the test of a list says of it: it accepts exactly the closed lists, and each fault tells the truth.
use Rattle.std.specs.Prelude.{◌≡◌, ℕ, ◌<◌, true, false, List, [], ◌∷◌, ◌++◌, length, take, Ok, Result, MatchOption, MatchResult}
use Rattle.std.specs.List.{slice_get}
use Rattle.cell.specs.Kind.{Kind}
use Rattle.index.specs.Closed.{Ascending, HasFaces, Closed}
use Rattle.index.specs.declared.LeafFault.{LeafFault}
use Rattle.index.specs.declared.LeafFault.TheVariants.{OutOfRange, NotAbove, FaceMissing, TooMany}

module _ {K : Type 0} (k : Kind K) where
  -- the cells before the number n make a closed list, and P holds of the cell with that number
  abbrev pub FirstAt : ℕ → List K → (K → Type 0) → Type 0
  FirstAt n cs P = Closed k (take n cs) × MatchOption (slice_get cs n) ⊥ P

  -- what a fault says of the list; the first fault of a list is of one kind
  abbrev pub Tells : List K → LeafFault → Type 0
  Tells cs TooMany = 1024 < length cs
  Tells cs OutOfRange = (n : ℕ) × FirstAt n cs (λ c. k.valid c ≡ false)
  Tells cs (NotAbove n) = FirstAt n cs (λ c. (k.valid c ≡ true) × (Ascending k (take n cs ++ c ∷ []) → ⊥))
  Tells cs (FaceMissing n) =
      FirstAt n cs (λ c. (k.valid c ≡ true) × Ascending k (take n cs ++ c ∷ []) × (HasFaces k (take n cs) c → ⊥))

  pub record Verdict (cs : List K) (r : Result (Unit {0}) LeafFault) : Type 0 where
    pub accepts : Closed k cs → r ≡ Ok tt
    pub tells : MatchResult r (λ _. Closed k cs) (Tells cs)

-- The theorems on reductions: each for every field of codes, every complex and every reduction of it.
use Rattle.std.specs.Prelude.{◌≡◌, ℕ, suc, ◌+◌, ◌<◌, ◌≤◌, Bool, cond, ◌↔◌, Some}
use Rattle.field.specs.Codes.{Codes, IsField}
use Rattle.linear.specs.Complexes.{Meaning, IsComplex}
use Rattle.linear.specs.Sums.{sum, total}
use Rattle.reduction.specs.Matrices.{Chain, Same, IsZero, apply, difference}
use Rattle.reduction.specs.Chains.{IsCycle, Bounds, IsBoundary, IsBetti}
use Rattle.reduction.specs.Reductions.{State, IsReduction, loaded}
use Rattle.reduction.specs.Cancelling.{cancelled, Cancels, count, live_count, IsZeroBefore}
use Rattle.reduction.specs.Classes.{class_codes, IsOnLive, IsSurvivorBoundary, HasOneCycle}
use Rattle.reduction.specs.Dimensions.{AreDependent}
use Rattle.reduction.specs.Survivors.{live_dim, survivors}

-- the state of a complex before any cancel is a reduction
abbrev pub LoadingReduces : Type 0
LoadingReduces = (f : Codes) (m : Meaning) → IsField f → IsComplex f m → IsReduction f m (loaded m)

-- a cancel at an entry of D that has an inverse, wherever it stands, leaves a reduction
abbrev pub CancellingKeeps : Type 0
CancellingKeeps = (f : Codes) (m : Meaning) (s : State) (k b a v : ℕ) → IsField f → IsComplex f m →
    IsReduction f m s → f.inverse (s.D k b a) ≡ Some v → IsReduction f m (cancelled f k b a v s)

-- class codes of two cycles differ by a boundary of the survivors exactly if the cycles differ by a boundary
abbrev pub ClassesTell : Type 0
ClassesTell = (f : Codes) (m : Meaning) (s : State) (k : ℕ) (z y : Chain) → IsField f → IsComplex f m →
    IsReduction f m s → IsCycle f m k z → IsCycle f m k y →
    IsSurvivorBoundary f m s k (difference f (class_codes f m s k z) (class_codes f m s k y)) ↔
    IsBoundary f m k (difference f z y)

-- where D is zero into a degree, class codes of two cycles are equal exactly if the cycles differ by a boundary
abbrev pub EqualClasses : Type 0
EqualClasses = (f : Codes) (m : Meaning) (s : State) (k : ℕ) (z y : Chain) → IsField f → IsComplex f m →
    IsReduction f m s → IsZero (s.D (suc k)) → IsCycle f m k z → IsCycle f m k y →
    Same (m.dim k) (class_codes f m s k z) (class_codes f m s k y) ↔ IsBoundary f m k (difference f z y)

-- where class codes of two cycles are equal, H of their difference is a chain with their difference as boundary
abbrev pub HomotopyFills : Type 0
HomotopyFills = (f : Codes) (m : Meaning) (s : State) (k : ℕ) (z y : Chain) → IsField f → IsComplex f m →
    IsReduction f m s → IsCycle f m k z → IsCycle f m k y →
    Same (m.dim k) (class_codes f m s k z) (class_codes f m s k y) →
    Bounds f m k (apply f (m.dim k) (s.H k) (difference f z y)) (difference f z y)

-- where D is zero out of a degree, all codes over its live cells are the class codes of exactly one cycle of G
abbrev pub ClassCodesAreReached : Type 0
ClassCodesAreReached = (f : Codes) (m : Meaning) (s : State) (k : ℕ) (c : Chain) → IsField f → IsComplex f m →
    IsReduction f m s → IsZero (s.D k) → IsOnLive f m s k c → HasOneCycle f m s k c

-- before any cancel the live cells are all cells
abbrev pub LoadedCellsAreLive : Type 0
LoadedCellsAreLive = (m : Meaning) → live_count m (loaded m) ≡ total (suc m.top) m.dim

-- cancels at entries that have an inverse lead from a reduction to a reduction, and each removes two live cells
abbrev pub CancelsKeep : Type 0
CancelsKeep = (f : Codes) (m : Meaning) (n : ℕ) (s t : State) → IsField f → IsComplex f m → IsReduction f m s →
    Cancels f n s t → IsReduction f m t × (n + n + live_count m t ≡ live_count m s)

-- as many cancels as half the live cells leave D zero
abbrev pub CancelsEnd : Type 0
CancelsEnd = (f : Codes) (m : Meaning) (n : ℕ) (s t : State) → IsField f → IsComplex f m → IsReduction f m s →
    Cancels f n s t → live_count m s ≤ n + n → (k : ℕ) → IsZero (t.D k)

-- from every reduction some run of cancels leads to one with D zero
abbrev pub CancelsComplete : Type 0
CancelsComplete = (f : Codes) (m : Meaning) (s : State) → IsField f → IsComplex f m → IsReduction f m s →
    (n : ℕ) × (t : State) × Cancels f n s t × ((k : ℕ) → IsZero (t.D k))

-- where D is zero before a row, it is zero before the next row after a cancel in that row
abbrev pub RowsStayZero : Type 0
RowsStayZero = (f : Codes) (m : Meaning) (s : State) (k b a v : ℕ) → IsField f → IsReduction f m s →
    f.inverse (s.D k b a) ≡ Some v → IsZeroBefore s k b → IsZeroBefore (cancelled f k b a v s) k (suc b)

-- more chains than places are dependent
abbrev pub MoreChainsAreDependent : Type 0
MoreChainsAreDependent = (f : Codes) (test : ℕ → Bool) (bound n : ℕ) (z : ℕ → Chain) → IsField f →
    count test bound < n → AreDependent f test bound n z

-- where D is zero into and out of a degree, the number of its live cells is its Betti number
abbrev pub LiveCellsCount : Type 0
LiveCellsCount = (f : Codes) (m : Meaning) (s : State) (k : ℕ) → IsField f → IsComplex f m → IsReduction f m s →
    IsZero (s.D k) → IsZero (s.D (suc k)) → IsBetti f m k (live_dim m s k)

-- each degree of a complex has exactly one Betti number
abbrev pub BettiIsOne : Type 0
BettiIsOne = (f : Codes) (m : Meaning) (k : ℕ) → IsField f → IsComplex f m →
    (b : ℕ) × IsBetti f m k b × ((c : ℕ) → IsBetti f m k c → c ≡ b)

-- two reductions of one complex, with D zero into and out of a degree, have the same number of live cells there
abbrev pub LiveCellsAgree : Type 0
LiveCellsAgree = (f : Codes) (m : Meaning) (s t : State) (k : ℕ) → IsField f → IsComplex f m →
    IsReduction f m s → IsZero (s.D k) → IsZero (s.D (suc k)) →
    IsReduction f m t → IsZero (t.D k) → IsZero (t.D (suc k)) → live_dim m s k ≡ live_dim m t k

-- D times D is zero as a sum over the live cells of the middle degree
abbrev pub LiveSumsVanish : Type 0
LiveSumsVanish = (f : Codes) (m : Meaning) (s : State) (k i j : ℕ) → IsField f → IsReduction f m s →
    sum f (m.dim k) (λ h. cond (s.live k h) (f.times (s.D k i h) (s.D (suc k) h j)) 0) ≡ 0

-- the survivors are a complex
abbrev pub SurvivorsAreAComplex : Type 0
SurvivorsAreAComplex = (f : Codes) (m : Meaning) (s : State) → IsField f → IsComplex f m → IsReduction f m s →
    IsComplex f (survivors m s)

-- Where D is zero around a degree, its live cells are as many as its Betti number.
use Rattle.std.proofs.Common.{◌≡◌, ℕ, suc, ◌<◌, ◌≤◌, Bool, true, false, cond, eqb, sym, refl, ap, ◌∙◌, arith, eq-eqb, ne_eqb}
use native.Mathlib.Decide.{dec_lt}
use Rattle.std.proofs.lemmas.Bool.{both_ways}
use Rattle.field.specs.Codes.{Codes, IsField}
use Rattle.linear.specs.Complexes.{Meaning, IsComplex}
use Rattle.linear.proofs.Codes.{one_lt_order, times_zero, times_one_code}
use Rattle.linear.proofs.Sums.{sum_ext, sum_single}
use Rattle.reduction.specs.Matrices.{Chain, Same, IsZero, apply, combination}
use Rattle.reduction.specs.Chains.{AreCodes, IsCycle, Bounds, IsBoundary, AreIndependent, IsBetti}
use Rattle.reduction.specs.Reductions.{State, IsReduction, loaded}
use Rattle.reduction.specs.Classes.{class_codes, cycle_of, IsOnLive}
use Rattle.reduction.specs.Dimensions.{AreDependent}
use Rattle.reduction.specs.Survivors.{live_dim, survivor}
use Rattle.reduction.specs.Laws.{LiveCellsCount, BettiIsOne, LiveCellsAgree}
use Rattle.reduction.proofs.Units.{cond_below}
use Rattle.reduction.proofs.Columns.{apply_zero_row}
use Rattle.reduction.proofs.Classes.{class_of_cycle, cycle_of_cycle}
use Rattle.reduction.proofs.Lifting.{from_zero, to_survivors}
use Rattle.reduction.proofs.Combinations.{apply_combination, combination_cycle}
use Rattle.reduction.proofs.Loading.{loading_reduces}
use Rattle.reduction.proofs.Runs.{cancels_keep}
use Rattle.reduction.proofs.Completing.{cancels_complete}
use Rattle.reduction.proofs.Dimensions.{dependent}
use Rattle.reduction.proofs.Places.{IsPlace, place_passes, place_injective}

module _ (f : Codes) (law : IsField f) (m : Meaning) (complex : IsComplex f m) (s : State) (r : IsReduction f m s)
    (k : ℕ) where
  -- a boundary has class codes zero where D is zero
  class_of_boundary : IsZero (s.D (suc k)) → (x : Chain) → IsCycle f m k x → IsBoundary f m k x →
      Same (m.dim k) (class_codes f m s k x) (λ _. 0)
  class_of_boundary d x cycle (w, b) i l =
      let (u, c) = to_survivors f law m complex s r k x cycle w b in
      sym (c.bounds i l) ∙ apply_zero_row f law (m.dim (suc k)) (s.D (suc k)) u i (d i)

  -- 1 at one place, else 0
  spot : ℕ → Chain
  spot p j = cond (eqb j p) 1 0

  spot_live : (p : ℕ) → s.live k p ≡ true → IsOnLive f m s k (spot p)
  unfolding spot
  spot_live p e = record {
    codes = λ j _. cond_below f law (eqb j p) 1 (one_lt_order f law);
    dead = λ j d. ap (λ t. cond t 1 0) (ne_eqb j p (λ h. both_ways (s.live k j) d (ap (s.live k) h ∙ e)));
  }

  -- the cycles of G at the live cells
  cycles : ℕ → Chain
  cycles u = cycle_of f m s k (spot (survivor m s k u))

  live_place : (u : ℕ) → u < live_dim m s k → IsPlace (s.live k) (m.dim k) (survivor m s k u)
  live_place u l = place_passes (s.live k) (m.dim k) u l

  class_of_cycles : (u : ℕ) → u < live_dim m s k →
      Same (m.dim k) (class_codes f m s k (cycles u)) (spot (survivor m s k u))
  unfolding cycles
  class_of_cycles u l = class_of_cycle f law m complex s r k (spot (survivor m s k u))
      (spot_live (survivor m s k u) (live_place u l).passes)

  -- a combination of spots has each coefficient at its place
  spots_at : (c : ℕ → ℕ) → AreCodes f (live_dim m s k) c → (u : ℕ) → u < live_dim m s k →
      combination f (live_dim m s k) c (λ t. spot (survivor m s k t)) (survivor m s k u) ≡ c u
  unfolding spot
  spots_at c codes u l =
      sum_single f law (live_dim m s k) u (λ t. f.times (c t) (spot (survivor m s k t) (survivor m s k u))) l
      (law.times_below _ _)
      (λ t h apart. ap (λ w. f.times (c t) (cond w 1 0)) (ne_eqb (survivor m s k u) (survivor m s k t)
      (λ e. apart (sym (place_injective (s.live k) (m.dim k) u t l h e)))) ∙ times_zero f law (c t))
      ∙ ap (λ w. f.times (c u) (cond w 1 0)) (eq-eqb (survivor m s k u) (survivor m s k u) refl)
      ∙ times_one_code f law (c u) (codes u l)

  independent : IsZero (s.D k) → IsZero (s.D (suc k)) → AreIndependent f m k (live_dim m s k) cycles
  independent d e = record { cycles = are_cycles; free = free } where
    are_cycles : (u : ℕ) → u < live_dim m s k → IsCycle f m k (cycles u)
    are_cycles u l = unfold cycles in cycle_of_cycle f law m complex s r k (spot (survivor m s k u)) d

    free : (c : ℕ → ℕ) → AreCodes f (live_dim m s k) c → IsBoundary f m k (combination f (live_dim m s k) c cycles) →
        (u : ℕ) → u < live_dim m s k → c u ≡ 0
    free c codes b u l =
        let p = (live_place u l).inside in
        sym (spots_at c codes u l)
        ∙ sum_ext f law (live_dim m s k) _ _
        (λ t h. ap (f.times (c t)) (sym (class_of_cycles t h (survivor m s k u) p)))
        ∙ sym (apply_combination f law (m.dim k) (live_dim m s k) (s.F k) c cycles (survivor m s k u))
        ∙ class_of_boundary e (combination f (live_dim m s k) c cycles)
        (combination_cycle f law m k (live_dim m s k) c cycles are_cycles) b (survivor m s k u) p

  -- cycles whose class codes are dependent have a combination that is a boundary
  bounded : (n : ℕ) (z : ℕ → Chain) → AreIndependent f m k n z →
      AreDependent f (s.live k) (m.dim k) n (λ u. class_codes f m s k (z u)) → ⊥
  bounded n z free d = d.nonzero.2
      (free.free c d.codes (apply f (m.dim k) (s.H k) x, fills) d.nonzero.0 d.nonzero.1) where
        c : ℕ → ℕ
        c = d.coefficients

        x : Chain
        x = combination f n c z

        class_zero : (t : Bool) (i : ℕ) → i < m.dim k → s.live k i ≡ t → class_codes f m s k x i ≡ 0
        class_zero true i l e = apply_combination f law (m.dim k) n (s.F k) c z i ∙ d.vanish i l e
        class_zero false i l e = apply_zero_row f law (m.dim k) (s.F k) x i (λ h. r.shape.F_rows k i h e)

        fills : Bounds f m k (apply f (m.dim k) (s.H k) x) x
        fills = from_zero f law m complex s r k x (combination_cycle f law m k n c z free.cycles)
            (λ i l. class_zero (s.live k i) i l refl)

  at_most : (n : ℕ) (z : ℕ → Chain) → AreIndependent f m k n z → n ≤ live_dim m s k
  at_most n z free = elim (dec_lt (live_dim m s k) n) [
    | yes more ↦ absurd (bounded n z free
        (dependent f law (s.live k) (m.dim k) n (λ u. class_codes f m s k (z u)) more))
    | no most ↦ omega arith
  ]

pub live_cells_count : LiveCellsCount
live_cells_count f m s k law complex r d e = record {
  reached = (cycles f law m complex s r k, independent f law m complex s r k d e);
  largest = at_most f law m complex s r k;
}

betti_unique : (f : Codes) (m : Meaning) (k b c : ℕ) → IsBetti f m k b → IsBetti f m k c → c ≡ b
betti_unique f m k b c one other =
    let l = other.largest b one.reached.0 one.reached.1 in
    let h = one.largest c other.reached.0 other.reached.1 in omega arith

pub betti_is_one : BettiIsOne
betti_is_one f m k law complex =
    let start = loading_reduces f m law complex in
    let (n, t, run, zero) = cancels_complete f m (loaded m) law complex start in
    let kept = (cancels_keep f m n (loaded m) t law complex start run).0 in
    let betti = live_cells_count f m t k law complex kept (zero k) (zero (suc k)) in
    (live_dim m t k, betti, λ c other. betti_unique f m k (live_dim m t k) c betti other)

pub live_cells_agree : LiveCellsAgree
live_cells_agree f m s t k law complex r d e q g h =
    betti_unique f m k _ _ (live_cells_count f m t k law complex q g h) (live_cells_count f m s k law complex r d e)

-- The survivors of a reduction are a complex.
use Rattle.std.proofs.Common.{◌≡◌, ℕ, suc, ◌-◌, ◌<◌, ◌≤◌, Bool, true, false, cond, ◌&&◌, ltb, refl, ap, ◌∙◌, add-one, arith}
use Rattle.std.proofs.lemmas.Bool.Decides.{nat_tests}
use Rattle.field.specs.Codes.{Codes, IsField}
use Rattle.linear.specs.Complexes.{Meaning, IsComplex}
use Rattle.linear.specs.Sums.{sum}
use Rattle.linear.proofs.Codes.{times_zero, zero_times}
use Rattle.linear.proofs.Sums.{sum_zero, sum_ext}
use Rattle.reduction.specs.Reductions.{State, IsReduction}
use Rattle.reduction.specs.Cancelling.{count}
use Rattle.reduction.specs.Survivors.{live_dim, survivor, survivors}
use Rattle.reduction.specs.Laws.{LiveSumsVanish, SurvivorsAreAComplex}
use Rattle.reduction.proofs.Units.{cond_below}
use Rattle.reduction.proofs.Families.{keep, suc_less_one}
use Rattle.reduction.proofs.CancelledShape.{zero_cond}
use Rattle.reduction.proofs.Places.{sum_places}

pub live_sums_vanish : LiveSumsVanish
live_sums_vanish f m s k i j law r =
    sum_ext f law (m.dim k) _ _ (λ h _. keep (s.live k h) _
    (λ e. ap (λ (w : ℕ). f.times w (s.D (suc k) h j)) (r.shape.D_columns k i h e) ∙ zero_times f law _))
    ∙ r.D_D k i j

past_rows : (x y i j : ℕ) → x ≤ i → (ltb i x && ltb j y) ≡ false
past_rows x y i j l = grind (arith, nat_tests)

past_columns : (x y i j : ℕ) → y ≤ j → (ltb i x && ltb j y) ≡ false
past_columns x y i j l = grind (arith, nat_tests)

module _ (f : Codes) (law : IsField f) (m : Meaning) (complex : IsComplex f m) (s : State) (r : IsReduction f m s) where
  abbrev entry : ℕ → ℕ → ℕ → ℕ
  entry = (survivors m s).entry

  -- the product of two entries, with the tests of the middle cell passed
  product_entry : (k i j h : ℕ) → h < live_dim m s k →
      f.times (entry k i h) (entry (suc k) h j) ≡
      cond (ltb i (live_dim m s (k - 1)))
      (cond (ltb j (live_dim m s (suc k)))
      (f.times (s.D k (survivor m s (k - 1) i) (survivor m s k h))
      (s.D (suc k) (survivor m s k h) (survivor m s (suc k) j))) 0) 0
  product_entry k i j h l =
      (λ t. f.times
      (cond (ltb i (live_dim m s (k - 1)) && (inside t)) (s.D k (survivor m s (k - 1) i) (survivor m s k h)) 0)
      (cond (upper t && ltb j (live_dim m s (suc k)))
      (s.D (suc k) (survivor m s (suc_less_one k t) h) (survivor m s (suc k) j)) 0))
      ∙ by_tests (ltb i (live_dim m s (k - 1))) (ltb j (live_dim m s (suc k)))
      (s.D k (survivor m s (k - 1) i) (survivor m s k h)) (s.D (suc k) (survivor m s k h) (survivor m s (suc k) j))
    where
      inside : ltb h (live_dim m s k) ≡ true
      inside = grind (arith, nat_tests)

      upper : ltb h (live_dim m s (suc k - 1)) ≡ true
      upper = ap (λ (w : ℕ). ltb h (live_dim m s w)) (suc_less_one k) ∙ inside

      by_tests : (t u : Bool) (x y : ℕ) →
          f.times (cond (t && true) x 0) (cond (true && u) y 0) ≡ cond t (cond u (f.times x y) 0) 0
      by_tests true true x y = refl
      by_tests true false x y = times_zero f law x
      by_tests false u x y = zero_times f law (cond u y 0)

  square : (k i j : ℕ) → sum f (live_dim m s k) (λ h. f.times (entry k i h) (entry (suc k) h j)) ≡ 0
  square k i j =
      sum_ext f law (live_dim m s k) _ _ (product_entry k i j)
      ∙ by_tests (ltb i (live_dim m s (k - 1))) (ltb j (live_dim m s (suc k)))
    where
      g : ℕ → ℕ
      g h = f.times (s.D k (survivor m s (k - 1) i) h) (s.D (suc k) h (survivor m s (suc k) j))

      by_tests : (t u : Bool) → sum f (live_dim m s k) (λ h. cond t (cond u (g (survivor m s k h)) 0) 0) ≡ 0
      by_tests true true = sum_places f law (s.live k) (m.dim k) g (λ h. law.times_below _ _)
          ∙ live_sums_vanish f m s k (survivor m s (k - 1) i) (survivor m s (suc k) j) law r
      by_tests true false = sum_zero f law (live_dim m s k) _ (λ h _. refl)
      by_tests false u = sum_zero f law (live_dim m s k) _ (λ h _. refl)

pub survivors_are_a_complex : SurvivorsAreAComplex
survivors_are_a_complex f m s law complex r = record {
  below = λ k i j. cond_below f law _ _ ((r.shape.D_shape k).below _ _);
  above_top = λ k l. ap (λ (w : ℕ). count (s.live k) w) (complex.above_top k l);
  degree_zero = λ i j. zero_cond _ (λ _. r.shape.D_zero _ _) (λ _. refl);
  rows = λ k i j l. ap (λ t. cond t (s.D k (survivor m s (k - 1) i) (survivor m s k j)) 0)
      (past_rows (live_dim m s (k - 1)) (live_dim m s k) i j l);
  columns = λ k i j l. ap (λ t. cond t (s.D k (survivor m s (k - 1) i) (survivor m s k j)) 0)
      (past_columns (live_dim m s (k - 1)) (live_dim m s k) i j l);
  square = λ k i j. ap
      (λ (w : ℕ). sum f (live_dim m s k) (λ h. f.times ((survivors m s).entry k i h) ((survivors m s).entry w h j)))
      (add-one k) ∙ square f law m complex s r k i j;
}

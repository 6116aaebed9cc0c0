-- An entry of D with an inverse gives a pair that can be cancelled in the algebra of matrices.
use Rattle.std.proofs.Common.{◌≡◌, ℕ, zero, suc, ◌<◌, Bool, true, false, eqb, Some, sym, refl, ap, ◌∙◌, arith, ne_eqb, eqb-true}
use Rattle.field.specs.Codes.{Codes, IsField}
use Rattle.linear.specs.Complexes.{Meaning, IsComplex}
use Rattle.linear.proofs.Codes.{one_lt_order, zero_times, times_one_code}
use Rattle.reduction.specs.Reductions.{State, HasShape}
use Rattle.reduction.proofs.Algebra.{Algebra}
use Rattle.reduction.proofs.Codes.{CodeMatrix, matrices, times_matrix}
use Rattle.reduction.proofs.Units.{
  unit,
  unit_unit,
  unit_middle,
  diagonal_unit,
  unit_diagonal,
  diagonal_diagonal,
  one_times,
}
use Rattle.reduction.proofs.Composing.{lowered}
use Rattle.reduction.proofs.PairLaws.{Pair}
use Rattle.reduction.proofs.Tests.{only, only_mul, only_middle, only_apart, only_apart_middle, mul_only, only_mul_right}
use Rattle.reduction.proofs.Families.{D_family, live_family, Reduces, suc_less_one}

-- a pivot: the entry at row b and column a of D in degree q + 1 has the inverse v
pub record Pivot (f : Codes) (s : State) (q b a v : ℕ) : Type 0 where
  pub code : v < f.order
  pub inverse : f.times (s.D (suc q) b a) v ≡ 1

-- an entry with an inverse stands in a degree above 0
pub pivot_of : (f : Codes) → IsField f → (m : Meaning) (s : State) → HasShape f m s → (k b a v : ℕ) →
    f.inverse (s.D k b a) ≡ Some v → (q : ℕ) × (k ≡ suc q) × Pivot f s q b a v
pivot_of f law m s shape zero b a v inverse =
    let pair = law.inverse_some (s.D 0 b a) v inverse in
    let z : ◌≡◌ {A = ℕ} 0 1 = sym (ap (λ (w : ℕ). f.times w v) (shape.D_zero b a) ∙ zero_times f law v)
    ∙ pair.1 in
    absurd (omega arith)
pivot_of f law m s shape (suc q) b a v inverse =
    let pair = law.inverse_some (s.D (suc q) b a) v inverse in (q, refl, record { code = pair.0; inverse = pair.1 })

module _ (f : Codes) (law : IsField f) (m : Meaning) (complex : IsComplex f m) (s : State) (shape : HasShape f m s)
    (q b a v : ℕ) (pivot : Pivot f s q b a v) where
  abbrev A : Algebra (CodeMatrix f)
  A = matrices f law

  pivot_apart : s.D (suc q) b a ≡ 0 → ⊥
  pivot_apart e =
      let z : ◌≡◌ {A = ℕ} 0 1 = sym (ap (λ (w : ℕ). f.times w v) e ∙ zero_times f law v) ∙ pivot.inverse in
      omega arith

  pub live_b : s.live q b ≡ true
  live_b = by_test (s.live q b) refl where
    by_test : (t : Bool) → s.live q b ≡ t → s.live q b ≡ true
    by_test true e = e
    by_test false e = absurd
        (pivot_apart (shape.D_rows (suc q) b a (ap (λ (w : ℕ). s.live w b) (suc_less_one q) ∙ e)))

  pub live_a : s.live (suc q) a ≡ true
  live_a = by_test (s.live (suc q) a) refl where
    by_test : (t : Bool) → s.live (suc q) a ≡ t → s.live (suc q) a ≡ true
    by_test true e = e
    by_test false e = absurd (pivot_apart (shape.D_columns (suc q) b a e))

  -- the tests for the upper and the lower degree of the pair
  abbrev pub upper : ℕ → Bool
  upper k = eqb k (suc q)

  abbrev pub lower : ℕ → Bool
  lower k = eqb (suc k) (suc q)

  pub not_both : (k : ℕ) → upper k ≡ true → lower k ≡ true → ⊥
  not_both k t u = let e = eqb-true k (suc q) t in let d = eqb-true (suc k) (suc q) u in omega arith

  pub upper_live : (k : ℕ) → upper k ≡ true → s.live k a ≡ true
  upper_live k t = ap (λ (w : ℕ). s.live w a) (eqb-true k (suc q) t) ∙ live_a

  pub lower_live : (k : ℕ) → lower k ≡ true → s.live k b ≡ true
  lower_live k t = let e = eqb-true (suc k) (suc q) t in let d : k ≡ q = omega arith in
      ap (λ (w : ℕ). s.live w b) d ∙ live_b

  pub upper_inside : (k : ℕ) → upper k ≡ true → a < m.dim k
  upper_inside k t = shape.live_cells k a (upper_live k t)

  pub lower_inside : (k : ℕ) → lower k ≡ true → b < m.dim k
  lower_inside k t = shape.live_cells k b (lower_live k t)

  pub lower_inverse : (k : ℕ) → lower k ≡ true → f.times (s.D (suc k) b a) v ≡ 1
  lower_inverse k t = ap (λ (w : ℕ). f.times (s.D w b a) v) (eqb-true (suc k) (suc q) t) ∙ pivot.inverse

  abbrev E : CodeMatrix f
  E = unit f law a a 1 (one_lt_order f law)

  abbrev C : CodeMatrix f
  C = unit f law b b 1 (one_lt_order f law)

  abbrev V : CodeMatrix f
  V = unit f law a b v pivot.code

  abbrev pub e_family : ℕ → CodeMatrix f
  e_family k = only A (upper k) E

  abbrev pub c_family : ℕ → CodeMatrix f
  c_family k = only A (lower k) C

  abbrev pub h_family : ℕ → CodeMatrix f
  h_family k = only A (lower k) V

  abbrev pub P_family : ℕ → CodeMatrix f
  P_family = lowered A m.dim (λ d. times_matrix f law (m.dim d) (h_family d) (D_family f law m complex s shape d))

  one_one : f.times 1 1 ≡ 1
  one_one = times_one_code f law 1 (one_lt_order f law)

  pub pair : Reduces f law m complex s shape →
      Pair A m.dim (D_family f law m complex s shape) (live_family f law m complex s shape) e_family c_family
      h_family P_family
  pair r = record {
    DD = r.DD;
    LD = r.LD;
    DL = r.DL;
    LL = λ k. diagonal_diagonal f law (m.dim k) (s.live k) (shape.live_cells k);
    Le = λ k. mul_only A (upper k) (m.dim k) _ E
        (λ t. diagonal_unit f law (m.dim k) (s.live k) (shape.live_cells k) a a 1 _ (upper_live k t));
    eL = λ k. only_mul_right A (upper k) (m.dim k) _ E
        (λ t. unit_diagonal f law (m.dim k) (s.live k) (shape.live_cells k) a a 1 _ (upper_live k t));
    Lc = λ k. mul_only A (lower k) (m.dim k) _ C
        (λ t. diagonal_unit f law (m.dim k) (s.live k) (shape.live_cells k) b b 1 _ (lower_live k t));
    cL = λ k. only_mul_right A (lower k) (m.dim k) _ C
        (λ t. unit_diagonal f law (m.dim k) (s.live k) (shape.live_cells k) b b 1 _ (lower_live k t));
    ee = λ k. only_mul A (upper k) (m.dim k) E E E
        (λ t. unit_unit f law (m.dim k) a a a 1 1 1 _ _ _ (upper_inside k t) one_one);
    cc = λ k. only_mul A (lower k) (m.dim k) C C C
        (λ t. unit_unit f law (m.dim k) b b b 1 1 1 _ _ _ (lower_inside k t) one_one);
    ec = λ k. only_apart A (upper k) (lower k) (m.dim k) E C (not_both k);
    ce = λ k. only_apart A (lower k) (upper k) (m.dim k) C E (λ t u. not_both k u t);
    eh = λ k. only_mul A (lower k) (m.dim (suc k)) E V V
        (λ t. unit_unit f law (m.dim (suc k)) a a b 1 v v _ _ _ (upper_inside (suc k) t)
        (one_times f law v pivot.code));
    hc = λ k. only_mul A (lower k) (m.dim k) V C V
        (λ t. unit_unit f law (m.dim k) a b b v 1 v _ _ _ (lower_inside k t) (times_one_code f law v pivot.code));
    hDe = λ k. only_middle A (lower k) (m.dim k) (m.dim (suc k)) V _ E E
        (λ t. unit_middle f law (m.dim k) (m.dim (suc k)) a b a a v 1 1 _ _ _ (D_family f law m complex s shape k)
        (lower_inside k t) (upper_inside (suc k) t)
        (ap (f.times v) (times_one_code f law _ ((shape.D_shape (suc k)).below b a)) ∙ law.times_comm v _
        ∙ lower_inverse k t));
    cDh = λ k. only_middle A (lower k) (m.dim k) (m.dim (suc k)) C _ V C
        (λ t. unit_middle f law (m.dim k) (m.dim (suc k)) b b a b 1 v 1 _ _ _ (D_family f law m complex s shape k)
        (lower_inside k t) (upper_inside (suc k) t) (ap (f.times 1) (lower_inverse k t) ∙ one_one));
    eDe = λ k. only_apart_middle A (upper k) (upper (suc k)) (m.dim k) (m.dim (suc k)) E _ E (not_both k);
    cDc = λ k. only_apart_middle A (lower k) (lower (suc k)) (m.dim k) (m.dim (suc k)) C _ C (not_both (suc k));
    eDc = λ k. only_apart_middle A (upper k) (lower (suc k)) (m.dim k) (m.dim (suc k)) E _ C
        (λ t u. let e = eqb-true k (suc q) t in let d = eqb-true (suc (suc k)) (suc q) u in omega arith);
    e_zero = ap (λ t. only A t E) (ne_eqb 0 (suc q) (λ e. omega arith));
    P_zero = refl;
    P_suc = λ k. refl;
  }

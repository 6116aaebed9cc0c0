-- The entries of a state after a cancel are those of the cancelled pair in the algebra of matrices.
use Rattle.std.proofs.Common.{◌≡◌, ℕ, zero, suc, ◌<◌, Bool, true, false, cond, ◌&&◌, ◌||◌, eqb, sym, refl, ap, ◌∙◌, arith, ne_eqb, eqb-true}
use lib.Dec.{eqb-suc-suc}
use Rattle.std.proofs.lemmas.Bool.Decides.{nat_tests}
use Rattle.field.specs.Codes.{Codes, IsField}
use Rattle.linear.specs.Complexes.{Meaning, IsComplex}
use Rattle.linear.proofs.Codes.{one_lt_order, times_zero, times_one_code}
use Rattle.linear.proofs.Sums.{sum_zero}
use Rattle.reduction.specs.Reductions.{State, HasShape}
use Rattle.reduction.specs.Cancelling.{cancelled, in_pair, minus_product}
use Rattle.reduction.proofs.Algebra.{Algebra}
use Rattle.reduction.proofs.Codes.{CodeMatrix, matrices, times_matrix, plus_matrix, minus_matrix, zero_matrix}
use Rattle.reduction.proofs.Units.{unit, diagonal, one_times, cond_below}
use Rattle.reduction.proofs.Entries.{only_row, only_column, only_between}
use Rattle.reduction.proofs.PairLaws.{Pair}
use Rattle.reduction.proofs.PairWords.{next_D, next_L}
use Rattle.reduction.proofs.Pairs.{cancel_F, cancel_G, cancel_H}
use Rattle.reduction.proofs.Tests.{only}
use Rattle.reduction.proofs.Clearing.{clear_either, clear_or_lose, lose_or_clear, gain}
use Rattle.reduction.proofs.Families.{D_family, F_family, G_family, live_family, Reduces}
use Rattle.reduction.proofs.Pivots.{
  Pivot,
  pair,
  upper,
  lower,
  not_both,
  upper_live,
  lower_live,
  upper_inside,
  lower_inside,
  lower_inverse,
  e_family,
  c_family,
  h_family,
  P_family,
}

or_comm : (x y : Bool) → (x || y) ≡ (y || x)
or_comm true true = refl
or_comm true false = refl
or_comm false true = refl
or_comm false false = refl

same_test : (i j a : ℕ) → eqb i a ≡ true → eqb i j ≡ eqb j a
same_test i j a e = grind (arith, nat_tests)

cleared_live : (c l t : Bool) → ◌≡◌ {A = ℕ} (cond c 0 (cond (l && t) 1 0)) (cond (cond c false l && t) 1 0)
cleared_live true l t = refl
cleared_live false l t = refl

module _ (f : Codes) (law : IsField f) (m : Meaning) (complex : IsComplex f m) (s : State) (shape : HasShape f m s)
    (r : Reduces f law m complex s shape) (q b a v : ℕ) (pivot : Pivot f s q b a v) where
  abbrev pub A : Algebra (CodeMatrix f)
  A = matrices f law

  abbrev pub after : State
  after = cancelled f (suc q) b a v s

  abbrev up : ℕ → Bool
  up = upper f law m complex s shape q b a v pivot

  abbrev low : ℕ → Bool
  low = lower f law m complex s shape q b a v pivot

  abbrev pub D : ℕ → CodeMatrix f
  D = D_family f law m complex s shape

  abbrev F : ℕ → CodeMatrix f
  F = F_family f law m complex s shape

  abbrev G : ℕ → CodeMatrix f
  G = G_family f law m complex s shape

  pub pairing : Pair A m.dim D (live_family f law m complex s shape) (e_family f law m complex s shape q b a v pivot)
      (c_family f law m complex s shape q b a v pivot) (h_family f law m complex s shape q b a v pivot)
      (P_family f law m complex s shape q b a v pivot)
  pairing = pair f law m complex s shape q b a v pivot r

  ina : (k : ℕ) → up k ≡ true → a < m.dim k
  ina = upper_inside f law m complex s shape q b a v pivot

  inb : (k : ℕ) → low k ≡ true → b < m.dim k
  inb = lower_inside f law m complex s shape q b a v pivot

  apart : (k : ℕ) → up k ≡ true → low k ≡ true → ⊥
  apart = not_both f law m complex s shape q b a v pivot

  pub D_is : (k i j : ℕ) → (next_D A m.dim pairing k).0 i j ≡ after.D (suc k) i j
  unfolding plus_matrix minus_matrix
  D_is k i j =
      (λ t. f.plus (s.D (suc k) i j) (f.minus (f.plus
      (only_between f law (low k) (m.dim (suc k)) (m.dim k) a b v pivot.code (D k) (D k) i j (ina (suc k))
      (inb k) t)
      (f.plus (only_row f law (up k) (m.dim k) a (D k) i j (ina k) t)
      (only_column f law (low (suc k)) (m.dim (suc k)) b (D k) i j (inb (suc k)) t)))))
      ∙ lose_or_clear f law (s.D (suc k) i j) (below i j) (low k) (up k) (eqb i a) (low (suc k)) (eqb j b)
      (s.D (suc k) a j) (s.D (suc k) i b) (f.times (s.D (suc k) i a) (f.times v (s.D (suc k) b j)))
      (minus_product f (s.D (suc q) i j) (s.D (suc q) i a) v (s.D (suc q) b j))
      (below a j) (below i b) (law.times_below _ _) (λ t u. apart k u t) (apart (suc k))
      (λ t u. let e = eqb-true k (suc q) t in let d = eqb-true (suc (suc k)) (suc q) u in omega arith)
      (λ _ e. ap (λ (w : ℕ). s.D (suc k) w j) (sym (eqb-true i a e)))
      (λ _ e. ap (s.D (suc k) i) (sym (eqb-true j b e)))
      (λ t. ap (λ (d : ℕ). minus_product f (s.D d i j) (s.D d i a) v (s.D d b j))
      (sym (eqb-true (suc k) (suc q) t)))
      ∙ ap (λ t. cond (low k) (minus_product f (s.D (suc q) i j) (s.D (suc q) i a) v (s.D (suc q) b j))
      (cond ((t && eqb i a) || (low (suc k) && eqb j b)) 0 (s.D (suc k) i j))) (sym (eqb-suc-suc k (suc q)))
    where
      below : (i j : ℕ) → s.D (suc k) i j < f.order
      below = (shape.D_shape (suc k)).below

  pub F_is : (k i h : ℕ) → (cancel_F A m.dim pairing r k).0 i h ≡ after.F k i h
  unfolding plus_matrix minus_matrix
  F_is k i h =
      (λ t. f.plus (s.F k i h) (f.minus (f.plus (only_row f law (up k) (m.dim k) a (F k) i h (ina k) t)
      (only_between f law (low k) (m.dim (suc k)) (m.dim k) a b v pivot.code (D k) (F k) i h (ina (suc k))
      (inb k) t))))
      ∙ clear_or_lose f law (s.F k i h) (below i h) (up k) (eqb i a) (low k) (eqb i b) (s.F k a h)
      (f.times (s.D (suc k) i a) (f.times v (s.F k b h)))
      (minus_product f (s.F k i h) (s.D (suc q) i a) v (s.F k b h))
      (below a h) (law.times_below _ _) (apart k) (λ _ e. ap (λ (w : ℕ). s.F k w h) (sym (eqb-true i a e)))
      (λ t e. row_b t (eqb-true i b e))
      (λ t. ap (λ (d : ℕ). minus_product f (s.F k i h) (s.D d i a) v (s.F k b h))
      (sym (eqb-true (suc k) (suc q) t)))
      ∙ ap (λ t. cond t 0 (cond (low k) (minus_product f (s.F k i h) (s.D (suc q) i a) v (s.F k b h)) (s.F k i h)))
      (or_comm (up k && eqb i a) (low k && eqb i b))
    where
      below : (i h : ℕ) → s.F k i h < f.order
      below = (shape.F_shape k).below

      row_b : low k ≡ true → i ≡ b → f.times (s.D (suc k) i a) (f.times v (s.F k b h)) ≡ s.F k i h
      row_b t e =
          ap (λ (w : ℕ). f.times (s.D (suc k) w a) (f.times v (s.F k b h))) e
          ∙ sym (law.times_assoc (s.D (suc k) b a) v (s.F k b h))
          ∙ ap (λ (w : ℕ). f.times w (s.F k b h)) (lower_inverse f law m complex s shape q b a v pivot k t)
          ∙ one_times f law (s.F k b h) (below b h) ∙ ap (λ (w : ℕ). s.F k w h) (sym e)

  P_entry : (k p j : ℕ) →
      (times_matrix f law (m.dim k) (G k) (P_family f law m complex s shape q b a v pivot k)).0 p j ≡
      cond (up k) (f.times (s.G k p a) (f.times v (s.D k b j))) 0
  unfolding times_matrix zero_matrix
  P_entry zero p j = sum_zero f law (m.dim 0) _ (λ h _. times_zero f law (s.G 0 p h))
      ∙ ap (λ t. cond t (f.times (s.G 0 p a) (f.times v (s.D 0 b j))) 0) (sym (ne_eqb 0 (suc q) (λ e. omega arith)))
  P_entry (suc k) p j =
      only_between f law (low k) (m.dim (suc k)) (m.dim k) a b v pivot.code (G (suc k)) (D k) p j (ina (suc k))
      (inb k)

  pub G_is : (k p j : ℕ) → (cancel_G A m.dim pairing r k).0 p j ≡ after.G k p j
  unfolding plus_matrix minus_matrix
  G_is k p j =
      (λ t. f.plus (s.G k p j)
      (f.minus (f.plus (only_column f law (low k) (m.dim k) b (G k) p j (inb k) t) (P_entry k p j t))))
      ∙ clear_or_lose f law (s.G k p j) (below p j) (low k) (eqb j b) (up k) (eqb j a) (s.G k p b)
      (f.times (s.G k p a) (f.times v (s.D k b j)))
      (minus_product f (s.G (suc q) p j) (s.G (suc q) p a) v (s.D (suc q) b j))
      (below p b) (law.times_below _ _) (λ t u. apart k u t) (λ _ e. ap (s.G k p) (sym (eqb-true j b e)))
      (λ t e. column_a (eqb-true k (suc q) t) (eqb-true j a e))
      (λ t. ap (λ (d : ℕ). minus_product f (s.G d p j) (s.G d p a) v (s.D d b j)) (sym (eqb-true k (suc q) t)))
    where
      below : (p j : ℕ) → s.G k p j < f.order
      below = (shape.G_shape k).below

      column_a : k ≡ suc q → j ≡ a → f.times (s.G k p a) (f.times v (s.D k b j)) ≡ s.G k p j
      column_a d e =
          (λ t. f.times (s.G k p a) (f.times v (s.D (d t) b (e t))))
          ∙ ap (f.times (s.G k p a)) (law.times_comm v (s.D (suc q) b a) ∙ pivot.inverse)
          ∙ times_one_code f law (s.G k p a) (below p a) ∙ ap (s.G k p) (sym e)

  pub H_is : (k p h : ℕ) → (cancel_H A m.dim pairing r k).0 p h ≡ after.H k p h
  unfolding plus_matrix
  H_is k p h =
      ap (f.plus (s.H k p h))
      (only_between f law (low k) (m.dim (suc k)) (m.dim k) a b v pivot.code (G (suc k)) (F k) p h
      (ina (suc k)) (inb k))
      ∙ gain f law (s.H k p h) ((shape.H_shape k).below p h) (low k)
      (f.times (s.G (suc k) p a) (f.times v (s.F k b h)))
      (f.plus (s.H k p h) (f.times (s.G (suc q) p a) (f.times v (s.F k b h))))
      (λ t. ap (λ (d : ℕ). f.plus (s.H k p h) (f.times (s.G d p a) (f.times v (s.F k b h))))
      (sym (eqb-true (suc k) (suc q) t)))

  only_entry : (t : Bool) (c i j : ℕ) → (only A t (unit f law c c 1 (one_lt_order f law))).0 i j ≡
      cond t (cond (eqb i c) (cond (eqb j c) 1 0) 0) 0
  unfolding unit zero_matrix
  only_entry true c i j = refl
  only_entry false c i j = refl

  pub live_is : (k i j : ℕ) → (next_L A m.dim pairing k).0 i j ≡ (diagonal f law (after.live k)).0 i j
  unfolding plus_matrix minus_matrix diagonal
  live_is k i j =
      (λ t. f.plus (cond (s.live k i && eqb i j) 1 0)
      (f.minus (f.plus (only_entry (up k) a i j t) (only_entry (low k) b i j t))))
      ∙ clear_either f law (cond (s.live k i && eqb i j) 1 0) (code (s.live k i && eqb i j)) (up k) (eqb i a)
      (low k) (eqb i b)
      (cond (eqb j a) 1 0) (cond (eqb j b) 1 0) (code (eqb j a)) (code (eqb j b)) (apart k)
      (λ t e. was_one a (eqb-true i a e) e (upper_live f law m complex s shape q b a v pivot k t))
      (λ t e. was_one b (eqb-true i b e) e (lower_live f law m complex s shape q b a v pivot k t))
      ∙ ap (λ t. cond t 0 (cond (s.live k i && eqb i j) 1 0)) (or_comm (up k && eqb i a) (low k && eqb i b))
      ∙ cleared_live (in_pair (suc q) b a k i) (s.live k i) (eqb i j)
    where
      code : (t : Bool) → cond t 1 0 < f.order
      code t = cond_below f law t 1 (one_lt_order f law)

      was_one : (c : ℕ) → i ≡ c → eqb i c ≡ true → s.live k c ≡ true →
          ◌≡◌ {A = ℕ} (cond (eqb j c) 1 0) (cond (s.live k i && eqb i j) 1 0)
      was_one c e t l =
          ap (λ u. cond u 1 0) (sym (same_test i j c t))
          ∙ ap (λ u. cond (u && eqb i j) 1 0) (sym (ap (s.live k) e ∙ l))

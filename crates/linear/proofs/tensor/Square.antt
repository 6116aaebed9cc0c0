-- Two consecutive boundaries of a tensor compose to zero: the faces of left cells and those of right cells cancel
-- among themselves, and a left face followed by a right one cancels with the right followed by the left.
use Rattle.std.proofs.Common.{◌≡◌, ℕ, suc, ◌+◌, ◌-◌, ◌<◌, Some, sym, refl, ap, ◌∙◌, subst, inl, inr, add-one, arith}
use Rattle.std.proofs.lemmas.Bool.{cases_eq}
use Rattle.field.specs.Codes.{Codes, IsField}
use Rattle.linear.specs.Complexes.{Meaning, IsComplex}
use Rattle.linear.specs.Sums.{sum}
use Rattle.linear.specs.Tensor.{Pair, signed, between}
use Rattle.linear.specs.TensorLaw.{IsPair}
use Rattle.linear.proofs.Codes.{plus_both, times_zero, zero_times, times_minus}
use Rattle.linear.proofs.Sums.{sum_below, sum_ext, sum_zero, sum_single}
use Rattle.linear.proofs.Blocks.{sum_single_two, sum_neighbours}
use Rattle.linear.proofs.tensor.Pairs.{pair}
use Rattle.linear.proofs.tensor.Entries.{
  Way,
  way_left,
  way_right,
  way_apart,
  between_left,
  between_right,
  between_ways,
  signed_suc,
  signed_times_signed,
}

-- what a pair m of degree k + 1 adds between the row of x and the column of y
abbrev pub term : (f : Codes) (c d : Meaning) (k : ℕ) (x y m : Pair) → ℕ
term f c d k x y m = f.times (between f c d (suc k) (Some x) (Some m)) (between f c d (suc (suc k)) (Some m) (Some y))

-- what the pairs with the left cell in degree p add
abbrev pub block_sum : (f : Codes) (c d : Meaning) (k : ℕ) (x y : Pair) → ℕ → ℕ
block_sum f c d k x y p = sum f (c.dim p) (λ i. sum f (d.dim (suc k - p)) (λ j. term f c d k x y (pair p i j)))

module _ (f : Codes) (law : IsField f) (c d : Meaning) (left : IsComplex f c) (right : IsComplex f d) (k : ℕ) where
  term_zero : (x y m : Pair) → (Way x m → Way m y → ⊥) → term f c d k x y m ≡ 0
  term_zero x y m never =
      elim (between_ways f c d (suc k) x m) [
        | inl first ↦
            elim (between_ways f c d (suc (suc k)) m y) [
              | inl second ↦ absurd (never first second)
              | inr none ↦ ap (f.times (between f c d (suc k) (Some x) (Some m))) none ∙ times_zero f law _
            ]
        | inr none ↦
            (ap (λ (v : ℕ). f.times v (between f c d (suc (suc k)) (Some m) (Some y))) none ∙ zero_times f law _)
      ]

  term_is :
      (x y m : Pair) (a b : ℕ) → between f c d (suc k) (Some x) (Some m) ≡ a →
      between f c d (suc (suc k)) (Some m) (Some y) ≡ b → term f c d k x y m ≡ f.times a b
  term_is x y m a b first second = cc

  block_zero :
      (x y : Pair) (p : ℕ) → ((i j : ℕ) → Way x (pair p i j) → Way (pair p i j) y → ⊥) → block_sum f c d k x y p ≡ 0
  block_zero x y p never =
      sum_zero f law _ _ (λ i _. sum_zero f law _ _ (λ j _. term_zero x y (pair p i j) (never i j)))

  -- through two left faces: only pairs with the right cell of x count, and it is the one of y
  module _ (q i j I J : ℕ) (row : IsPair c d k (pair q i j)) where
    left_left_row :
        j ≡ J → (h : ℕ) →
        sum f (d.dim (suc k - suc q)) (λ m. term f c d k (pair q i j) (pair (suc (suc q)) I J) (pair (suc q) h m))
        ≡ f.times (c.entry (suc q) i h) (c.entry (suc q + 1) h I)
    left_left_row same h =
        let x = pair q i j in let y = pair (suc (suc q)) I J in
        sum_single f law (d.dim (suc k - suc q)) j (λ m. term f c d k x y (pair (suc q) h m))
        (subst (λ (n : ℕ). j < d.dim n) (omega arith) row.right) (law.times_below _ _)
        (λ m _ apart. term_zero x y (pair (suc q) h m) (λ one _. apart (sym (way_left x (pair (suc q) h m) one refl))))
        ∙ term_is x y (pair (suc q) h j) _ _ (between_left f c d (suc k) x (pair (suc q) h j) (refl, refl))
        (between_left f c d (suc (suc k)) (pair (suc q) h j) y (refl, same))
        ∙ ap (λ (n : ℕ). f.times (c.entry (suc q) i h) (c.entry n h I)) (sym (add-one (suc q)))

    left_left : block_sum f c d k (pair q i j) (pair (suc (suc q)) I J) (suc q) ≡ 0
    left_left =
        elim (cases_eq j J) [
          | inl same ↦ sum_ext f law (c.dim (suc q)) _ _ (λ h _. left_left_row same h) ∙ left.square (suc q) i I
          | inr other ↦
              block_zero _ _ (suc q) (λ h m one two. other
              (way_left (pair q i j) (pair (suc q) h m) one refl
              ∙ way_left (pair (suc q) h m) (pair (suc (suc q)) I J) two refl))
        ]

  -- through two right faces: only pairs with the left cell of x count, and it is the one of y
  module _ (q i j I J : ℕ) (row : IsPair c d k (pair q i j)) where
    right_right_term :
        i ≡ I → (m : ℕ) →
        term f c d k (pair q i j) (pair q I J) (pair q i m)
        ≡ f.times (d.entry (suc k - q) j m) (d.entry (suc k - q + 1) m J)
    right_right_term same m =
        let x = pair q i j in let y = pair q I J in
        let degree : suc (suc k) - q ≡ suc k - q + 1 = omega (arith, row.degree) in
        term_is x y (pair q i m) _ _ (between_right f c d (suc k) x (pair q i m) (refl, refl))
        (between_right f c d (suc (suc k)) (pair q i m) y (refl, same))
        ∙ signed_times_signed f law q _ _ (right.below _ _ _) (right.below _ _ _)
        ∙ ap (λ (n : ℕ). f.times (d.entry (suc k - q) j m) (d.entry n m J)) degree

    right_right_row :
        i ≡ I → (h : ℕ) →
        sum f (d.dim (suc k - q)) (λ m. term f c d k (pair q i j) (pair q I J) (pair q h m)) ≡ 0
    right_right_row same h =
        let x = pair q i j in let y = pair q I J in
        elim (cases_eq i h) [
          | inl equal ↦
              subst (λ (n : ℕ). sum f (d.dim (suc k - q)) (λ m. term f c d k x y (pair q n m)) ≡ 0) equal
              (sum_ext f law (d.dim (suc k - q)) _ _ (λ m _. right_right_term same m) ∙ right.square (suc k - q) j J)
          | inr apart ↦
              sum_zero f law _ _ (λ m _. term_zero x y (pair q h m)
              (λ one _. apart (way_right x (pair q h m) one refl)))
        ]

    right_right : block_sum f c d k (pair q i j) (pair q I J) q ≡ 0
    right_right =
        elim (cases_eq i I) [
          | inl same ↦ sum_zero f law (c.dim q) _ (λ h _. right_right_row same h)
          | inr other ↦
              block_zero _ _ q (λ h m one two. other
              (way_right (pair q i j) (pair q h m) one refl ∙ way_right (pair q h m) (pair q I J) two refl))
        ]

  -- through a right face and a left face, in either order: one pair counts for each, with opposite signs
  module _ (q i j I J : ℕ) (row : IsPair c d k (pair q i j))
      (column : IsPair c d (suc (suc k)) (pair (suc q) I J)) where
    right_left :
        block_sum f c d k (pair q i j) (pair (suc q) I J) q
        ≡ f.times (signed f q (d.entry (suc k - q) j J)) (c.entry (suc q) i I)
    right_left =
        let x = pair q i j in let y = pair (suc q) I J in
        sum_single_two f law (c.dim q) (d.dim (suc k - q)) i J (λ h m. term f c d k x y (pair q h m)) row.left
        (subst (λ (n : ℕ). J < d.dim n) (omega arith) column.right) (λ h m. law.times_below _ _)
        (λ h m apart. term_zero x y (pair q h m) (λ one two.
        apart (sym (way_right x (pair q h m) one refl)) (way_left (pair q h m) y two refl)))
        ∙ term_is x y (pair q i J) _ _ (between_right f c d (suc k) x (pair q i J) (refl, refl))
        (between_left f c d (suc (suc k)) (pair q i J) y (refl, refl))

    left_right :
        block_sum f c d k (pair q i j) (pair (suc q) I J) (suc q)
        ≡ f.times (c.entry (suc q) i I) (f.minus (signed f q (d.entry (suc k - q) j J)))
    left_right =
        let x = pair q i j in let y = pair (suc q) I J in
        let degree : suc (suc k) - suc q ≡ suc k - q = omega arith in
        sum_single_two f law (c.dim (suc q)) (d.dim (suc k - suc q)) I j (λ h m. term f c d k x y (pair (suc q) h m))
        column.left (subst (λ (n : ℕ). j < d.dim n) (omega arith) row.right) (λ h m. law.times_below _ _)
        (λ h m apart. term_zero x y (pair (suc q) h m) (λ one two.
        apart (way_right (pair (suc q) h m) y two refl) (sym (way_left x (pair (suc q) h m) one refl))))
        ∙ term_is x y (pair (suc q) I j) _ _ (between_left f c d (suc k) x (pair (suc q) I j) (refl, refl))
        (between_right f c d (suc (suc k)) (pair (suc q) I j) y (refl, refl)
        ∙ ap (λ (n : ℕ). signed f (suc q) (d.entry n j J)) degree
        ∙ signed_suc f law q (d.entry (suc k - q) j J) (right.below _ _ _))

    mixed : sum f (suc (suc k)) (block_sum f c d k (pair q i j) (pair (suc q) I J)) ≡ 0
    mixed =
        let x = pair q i j in let y = pair (suc q) I J in
        let l : ℕ = c.entry (suc q) i I in let r : ℕ = signed f q (d.entry (suc k - q) j J) in
        sum_neighbours f law (suc (suc k)) q (block_sum f c d k x y) (omega (arith, row.degree)) (sum_below f law _ _)
        (λ p _ one two. block_zero x y p (λ h m first _.
        way_apart x (pair p h m) first (λ e. two (sym e)) (λ e. one (sym e))))
        ∙ plus_both f right_left left_right
        ∙ plus_both f (law.times_comm r l) (times_minus f law l r) ∙ law.plus_minus (f.times l r)

  -- where x is not one left degree below y, no block counts
  above_of :
      (x y : Pair) → IsPair c d k x → (suc x.p ≡ y.p → ⊥) → block_sum f c d k x y (suc x.p) ≡ 0
  above_of x y row other =
      elim (cases_eq (suc (suc x.p)) y.p) [
        | inl next ↦
            subst (λ (p : ℕ). block_sum f c d k x (pair p y.i y.j) (suc x.p) ≡ 0) next
            (left_left x.p x.i x.j y.i y.j row)
        | inr apart ↦ block_zero x y (suc x.p) (λ h m _ two. way_apart (pair (suc x.p) h m) y two apart other)
      ]

  level_of :
      (x y : Pair) → IsPair c d k x → (suc x.p ≡ y.p → ⊥) → block_sum f c d k x y x.p ≡ 0
  level_of x y row other =
      elim (cases_eq x.p y.p) [
        | inl same ↦
            subst (λ (p : ℕ). block_sum f c d k x (pair p y.i y.j) x.p ≡ 0) same
            (right_right x.p x.i x.j y.i y.j row)
        | inr apart ↦ block_zero x y x.p (λ h m _ two. way_apart (pair x.p h m) y two other apart)
      ]

  block_of :
      (x y : Pair) → IsPair c d k x → (suc x.p ≡ y.p → ⊥) → (p : ℕ) → block_sum f c d k x y p ≡ 0
  block_of x y row other p =
      elim (cases_eq (suc x.p) p) [
        | inl up ↦ subst (λ (n : ℕ). block_sum f c d k x y n ≡ 0) up (above_of x y row other)
        | inr no-left ↦
            elim (cases_eq x.p p) [
              | inl level ↦ subst (λ (n : ℕ). block_sum f c d k x y n ≡ 0) level (level_of x y row other)
              | inr no-right ↦ block_zero x y p (λ h m one _. way_apart x (pair p h m) one no-left no-right)
            ]
      ]

  pub square_pairs :
      (x y : Pair) → IsPair c d k x → IsPair c d (suc (suc k)) y → sum f (suc (suc k)) (block_sum f c d k x y) ≡ 0
  square_pairs x y row column =
      elim (cases_eq (suc x.p) y.p) [
        | inl next ↦
            (let same : y ≡ pair (suc x.p) y.i y.j = ap (λ (p : ℕ). pair p y.i y.j) (sym next) in
            subst (λ (z : Pair). sum f (suc (suc k)) (block_sum f c d k x z) ≡ 0) (sym same)
            (mixed x.p x.i x.j y.i y.j row (subst (IsPair c d (suc (suc k))) same column)))
        | inr other ↦ sum_zero f law (suc (suc k)) (block_sum f c d k x y) (λ p _. block_of x y row other p)
      ]

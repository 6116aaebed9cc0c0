-- The shape of a state after a cancel: codes where there were codes, 0 outside and at dead cells.
use Rattle.std.proofs.Common.{◌≡◌, ℕ, zero, suc, ◌-◌, ◌<◌, ◌≤◌, Bool, true, false, cond, ◌&&◌, ◌||◌, eqb, ◌⊎◌, sym, refl, ap, ◌∙◌, subst, inl, inr, arith, eq-eqb, eqb-true}
use Rattle.std.proofs.lemmas.Bool.Decides.{nat_tests}
use Rattle.field.specs.Codes.{Codes, IsField}
use Rattle.linear.specs.Complexes.{Meaning}
use Rattle.linear.proofs.Codes.{plus_both, zero_lt_order, times_zero, zero_times, zero_plus_zero, times_one_code}
use Rattle.linear.proofs.Negatives.{minus_zero}
use Rattle.reduction.specs.Reductions.{State, HasShape}
use Rattle.reduction.specs.Cancelling.{cancelled, in_pair, minus_product}
use Rattle.reduction.proofs.Families.{suc_less_one}

pub zero_cond : (t : Bool) {x y : ℕ} → (t ≡ true → x ≡ 0) → (t ≡ false → y ≡ 0) → cond t x y ≡ 0
zero_cond true h k = h refl
zero_cond false h k = k refl

below_cond : (t : Bool) {x y n : ℕ} → x < n → y < n → cond t x y < n
below_cond true h k = h
below_cond false h k = k

dead_ways : (t l : Bool) → cond t false l ≡ false → (t ≡ true) ⊎ (l ≡ false)
dead_ways true l e = inl refl
dead_ways false l e = inr e

pub was_live : (t l : Bool) → cond t false l ≡ true → l ≡ true
was_live true l e = let clash : ◌≡◌ {A = ℕ} 0 1 = cc in absurd (omega arith)
was_live false l e = e

pub in_pair_ways : (k b a d i : ℕ) → in_pair k b a d i ≡ true → ((suc d ≡ k) × (i ≡ b)) ⊎ ((d ≡ k) × (i ≡ a))
in_pair_ways k b a d i e = grind (arith, nat_tests)

zero_when : (t : Bool) (x : ℕ) → t ≡ true → cond t 0 x ≡ 0
zero_when true x e = refl
zero_when false x e = let clash : ◌≡◌ {A = ℕ} 0 1 = cc in absurd (omega arith)

-- row a above the pair and column b below it are cleared
row_cleared : (q b a d i j : ℕ) → d ≡ suc q → i ≡ a →
    ((eqb (suc d) (suc (suc q)) && eqb i a) || (eqb (suc (suc d)) (suc q) && eqb j b)) ≡ true
row_cleared q b a d i j e r = grind (arith, nat_tests)

column_cleared : (q b a d i j : ℕ) → suc d ≡ suc q → j ≡ b →
    ((eqb d (suc (suc q)) && eqb i a) || (eqb (suc d) (suc q) && eqb j b)) ≡ true
column_cleared q b a d i j e r = grind (arith, nat_tests)

module _ (f : Codes) (law : IsField f) where
  pub minus_product_below : (x y v z : ℕ) → minus_product f x y v z < f.order
  minus_product_below x y v z = law.plus_below x (f.minus (f.times y (f.times v z)))

  pub minus_product_left : (x y v z : ℕ) → x ≡ 0 → y ≡ 0 → minus_product f x y v z ≡ 0
  minus_product_left x y v z e d = simp (
    minus_product,
    e,
    d,
    zero_times f law (f.times v z),
    minus_zero f law,
    zero_plus_zero f law,
  )

  pub minus_product_right : (x y v z : ℕ) → x ≡ 0 → z ≡ 0 → minus_product f x y v z ≡ 0
  minus_product_right x y v z e d = simp (minus_product, e, d, times_zero f law, minus_zero f law, zero_plus_zero f law)

  -- the pivot's own row and column
  pub minus_product_row : (x u v : ℕ) → x < f.order → f.times u v ≡ 1 → minus_product f x u v x ≡ 0
  minus_product_row x u v l e =
      ap (λ (w : ℕ). f.plus x (f.minus w)) (sym (law.times_assoc u v x) ∙ ap (λ (w : ℕ). f.times w x) e
      ∙ law.times_comm 1 x ∙ times_one_code f law x l)
      ∙ law.plus_minus x

  pub minus_product_column : (x u v : ℕ) → x < f.order → f.times u v ≡ 1 → minus_product f x x v u ≡ 0
  minus_product_column x u v l e =
      ap (λ (w : ℕ). f.plus x (f.minus (f.times x w))) (law.times_comm v u ∙ e)
      ∙ ap (λ (w : ℕ). f.plus x (f.minus w)) (times_one_code f law x l) ∙ law.plus_minus x

  module _ (m : Meaning) (s : State) (shape : HasShape f m s) (q b a v : ℕ)
      (inverse : f.times (s.D (suc q) b a) v ≡ 1) where
    abbrev after : State
    after = cancelled f (suc q) b a v s

    dead_outside : (k i : ℕ) → m.dim k ≤ i → s.live k i ≡ false
    dead_outside k i l = by_test (s.live k i) refl where
      by_test : (t : Bool) → s.live k i ≡ t → s.live k i ≡ false
      by_test true e = let inside = shape.live_cells k i e in absurd (omega arith)
      by_test false e = e

    pub row_b : (j : ℕ) → after.D (suc q) b j ≡ 0
    row_b j = ap (λ t. cond t (minus_product f (s.D (suc q) b j) (s.D (suc q) b a) v (s.D (suc q) b j))
        (cond ((eqb (suc q) (suc (suc q)) && eqb b a) || (eqb (suc (suc q)) (suc q) && eqb j b)) 0 (s.D (suc q) b j)))
        (eq-eqb (suc q) (suc q) refl)
        ∙ minus_product_row (s.D (suc q) b j) (s.D (suc q) b a) v ((shape.D_shape (suc q)).below b j) inverse

    column_a : (i : ℕ) → after.D (suc q) i a ≡ 0
    column_a i = ap (λ t. cond t (minus_product f (s.D (suc q) i a) (s.D (suc q) i a) v (s.D (suc q) b a))
        (cond ((eqb (suc q) (suc (suc q)) && eqb i a) || (eqb (suc (suc q)) (suc q) && eqb a b)) 0 (s.D (suc q) i a)))
        (eq-eqb (suc q) (suc q) refl)
        ∙ minus_product_column (s.D (suc q) i a) (s.D (suc q) b a) v ((shape.D_shape (suc q)).below i a) inverse

    after_D_zero : (i j : ℕ) → after.D 0 i j ≡ 0
    after_D_zero i j = zero_cond (eqb 0 (suc q)) (λ t. let e = eqb-true 0 (suc q) t in absurd (omega arith))
        (λ _. zero_cond _ (λ _. refl) (λ _. shape.D_zero i j))

    after_D_rows : (d i j : ℕ) → after.live (d - 1) i ≡ false → after.D d i j ≡ 0
    after_D_rows zero i j dead = after_D_zero i j
    after_D_rows (suc d) i j dead = by_ways
        (dead_ways _ (s.live d i) (subst (λ (k : ℕ). after.live k i ≡ false) (suc_less_one d) dead)) where
          old : (k : ℕ) → k ≡ d → s.live d i ≡ false → s.live (suc k - 1) i ≡ false
          old k e l = ap (λ (w : ℕ). s.live w i) (suc_less_one k ∙ e) ∙ l

          by_ways : (in_pair (suc q) b a d i ≡ true) ⊎ (s.live d i ≡ false) → after.D (suc d) i j ≡ 0
          by_ways (inl c) = elim (in_pair_ways (suc q) b a d i c) [
            | inl (e, r) ↦ ((λ t. after.D (e t) (r t) j) ∙ row_b j)
            | inr (e, r) ↦ zero_cond (eqb (suc d) (suc q)) (λ t. let l = eqb-true (suc d) (suc q) t in
                absurd (omega arith))
                (λ _. zero_when _ _ (row_cleared q b a d i j e r))
          ]
          by_ways (inr l) = zero_cond (eqb (suc d) (suc q))
              (λ t. let e = eqb-true (suc d) (suc q) t in let h : q ≡ d = omega arith in
              minus_product_left _ _ v _ (shape.D_rows (suc q) i j (old q h l))
              (shape.D_rows (suc q) i a (old q h l)))
              (λ _. zero_cond _ (λ _. refl) (λ _. shape.D_rows (suc d) i j (old d refl l)))

    after_D_columns : (d i j : ℕ) → after.live d j ≡ false → after.D d i j ≡ 0
    after_D_columns d i j dead = by_ways (dead_ways _ (s.live d j) dead) where
      by_ways : (in_pair (suc q) b a d j ≡ true) ⊎ (s.live d j ≡ false) → after.D d i j ≡ 0
      by_ways (inl c) = elim (in_pair_ways (suc q) b a d j c) [
        | inl (e, r) ↦ zero_cond (eqb d (suc q)) (λ t. let l = eqb-true d (suc q) t in absurd (omega arith))
            (λ _. zero_when _ _ (column_cleared q b a d i j e r))
        | inr (e, r) ↦ ((λ t. after.D (e t) i (r t)) ∙ column_a i)
      ]
      by_ways (inr l) = zero_cond (eqb d (suc q))
          (λ t. let e = sym (eqb-true d (suc q) t) in let h : s.live (suc q) j ≡ false = ap (λ (w : ℕ). s.live w j) e
          ∙ l in
          minus_product_right _ _ v _ (shape.D_columns (suc q) i j h) (shape.D_columns (suc q) b j h))
          (λ _. zero_cond _ (λ _. refl) (λ _. shape.D_columns d i j l))

    after_F_rows : (d i r : ℕ) → after.live d i ≡ false → after.F d i r ≡ 0
    after_F_rows d i r dead = zero_cond (in_pair (suc q) b a d i) (λ _. refl) (λ t. old (not_cancelled t)) where
      not_cancelled : in_pair (suc q) b a d i ≡ false → s.live d i ≡ false
      not_cancelled t = sym (ap (λ w. cond w false (s.live d i)) t) ∙ dead

      old : s.live d i ≡ false →
          cond (eqb (suc d) (suc q)) (minus_product f (s.F d i r) (s.D (suc q) i a) v (s.F d b r)) (s.F d i r) ≡ 0
      old l = zero_cond (eqb (suc d) (suc q))
          (λ t. let e = eqb-true (suc d) (suc q) t in let h : suc q - 1 ≡ d = omega arith in
          minus_product_left _ _ v _ (shape.F_rows d i r l)
          (shape.D_rows (suc q) i a (ap (λ (w : ℕ). s.live w i) h ∙ l)))
          (λ _. shape.F_rows d i r l)

    after_G_columns : (d p j : ℕ) → after.live d j ≡ false → after.G d p j ≡ 0
    after_G_columns d p j dead = zero_cond (in_pair (suc q) b a d j) (λ _. refl) (λ t. old (not_cancelled t)) where
      not_cancelled : in_pair (suc q) b a d j ≡ false → s.live d j ≡ false
      not_cancelled t = sym (ap (λ w. cond w false (s.live d j)) t) ∙ dead

      old : s.live d j ≡ false →
          cond (eqb d (suc q)) (minus_product f (s.G (suc q) p j) (s.G (suc q) p a) v (s.D (suc q) b j))
          (s.G d p j) ≡ 0
      old l = zero_cond (eqb d (suc q))
          (λ t. let e = sym (eqb-true d (suc q) t) in let h : s.live (suc q) j ≡ false = ap (λ (w : ℕ). s.live w j) e
          ∙ l in
          minus_product_right _ _ v _ (shape.G_columns (suc q) p j h) (shape.D_columns (suc q) b j h))
          (λ _. shape.G_columns d p j l)

    after_live_cells : (k i : ℕ) → after.live k i ≡ true → i < m.dim k
    after_live_cells k i e = shape.live_cells k i (was_live (in_pair (suc q) b a k i) (s.live k i) e)

    after_dead : (k i : ℕ) → m.dim k ≤ i → after.live k i ≡ false
    after_dead k i l = by_test (in_pair (suc q) b a k i) where
      by_test : (t : Bool) → cond t false (s.live k i) ≡ false
      by_test true = refl
      by_test false = dead_outside k i l

    pub cancelled_shape : HasShape f m after
    cancelled_shape = record {
      live_cells = after_live_cells;
      D_shape = λ d. record {
        below = λ i j. below_cond (eqb d (suc q)) (minus_product_below _ _ v _)
            (below_cond _ (zero_lt_order f law) ((shape.D_shape d).below i j));
        past_rows = λ i j l. after_D_rows d i j (after_dead (d - 1) i l);
        past_columns = λ i j l. after_D_columns d i j (after_dead d j l);
      };
      F_shape = λ d. record {
        below = λ i r. below_cond (in_pair (suc q) b a d i) (zero_lt_order f law)
            (below_cond (eqb (suc d) (suc q)) (minus_product_below _ _ v _) ((shape.F_shape d).below i r));
        past_rows = λ i r l. after_F_rows d i r (after_dead d i l);
        past_columns = λ i r l. zero_cond (in_pair (suc q) b a d i) (λ _. refl) (λ _. zero_cond (eqb (suc d) (suc q))
            (λ _. minus_product_right _ _ v _ ((shape.F_shape d).past_columns i r l)
            ((shape.F_shape d).past_columns b r l))
            (λ _. (shape.F_shape d).past_columns i r l));
      };
      G_shape = λ d. record {
        below = λ p j. below_cond (in_pair (suc q) b a d j) (zero_lt_order f law)
            (below_cond (eqb d (suc q)) (minus_product_below _ _ v _) ((shape.G_shape d).below p j));
        past_rows = λ p j l. zero_cond (in_pair (suc q) b a d j) (λ _. refl) (λ _. zero_cond (eqb d (suc q))
            (λ t. let h : m.dim (suc q) ≤ p = subst (λ (w : ℕ). m.dim w ≤ p) (eqb-true d (suc q) t) l in
            minus_product_left _ _ v _ ((shape.G_shape (suc q)).past_rows p j h)
            ((shape.G_shape (suc q)).past_rows p a h))
            (λ _. (shape.G_shape d).past_rows p j l));
        past_columns = λ p j l. after_G_columns d p j (after_dead d j l);
      };
      H_shape = λ d. record {
        below = λ p r. below_cond (eqb (suc d) (suc q)) (law.plus_below _ _) ((shape.H_shape d).below p r);
        past_rows = λ p r l. zero_cond (eqb (suc d) (suc q))
            (λ t. let h : m.dim (suc q) ≤ p = subst (λ (w : ℕ). m.dim w ≤ p) (eqb-true (suc d) (suc q) t) l in
            plus_zeros ((shape.H_shape d).past_rows p r l)
            (ap (λ (w : ℕ). f.times w (f.times v (s.F d b r))) ((shape.G_shape (suc q)).past_rows p a h)
            ∙ zero_times f law _))
            (λ _. (shape.H_shape d).past_rows p r l);
        past_columns = λ p r l. zero_cond (eqb (suc d) (suc q))
            (λ _. plus_zeros ((shape.H_shape d).past_columns p r l)
            (ap (λ (w : ℕ). f.times (s.G (suc q) p a) (f.times v w)) ((shape.F_shape d).past_columns b r l)
            ∙ ap (f.times (s.G (suc q) p a)) (times_zero f law v) ∙ times_zero f law _))
            (λ _. (shape.H_shape d).past_columns p r l);
      };
      D_zero = after_D_zero;
      D_rows = after_D_rows;
      D_columns = after_D_columns;
      F_rows = after_F_rows;
      G_columns = after_G_columns;
    }
      where
        plus_zeros : {x y : ℕ} → x ≡ 0 → y ≡ 0 → f.plus x y ≡ 0
        plus_zeros e d = plus_both f e d ∙ zero_plus_zero f law

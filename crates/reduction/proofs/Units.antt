-- Matrices with a single entry, and identities on some places.
use Rattle.std.proofs.Common.{◌≡◌, ℕ, ◌<◌, Bool, true, false, cond, ◌&&◌, eqb, sym, refl, ap, ◌∙◌, eq-eqb, ne_eqb, eqb-true}
use Rattle.std.proofs.lemmas.Bool.{both_ways}
use Rattle.field.specs.Codes.{Codes, IsField}
use Rattle.linear.specs.Sums.{sum}
use Rattle.linear.proofs.Codes.{zero_lt_order, one_lt_order, times_zero, zero_times, times_one_code}
use Rattle.linear.proofs.Sums.{sum_zero, sum_single, sum_ext}
use Rattle.reduction.specs.Matrices.{identity_on}
use Rattle.reduction.proofs.Codes.{CodeMatrix, matrix_eq, times_matrix}

module _ (f : Codes) (law : IsField f) where
  pub cond_below : (t : Bool) (x : ℕ) → x < f.order → cond t x 0 < f.order
  cond_below true x l = l
  cond_below false x l = zero_lt_order f law

  pub one_times : (x : ℕ) → x < f.order → f.times 1 x ≡ x
  one_times x l = law.times_comm 1 x ∙ times_one_code f law x l

  -- x at the row a and the column b, else 0
  unfoldable pub unit : ℕ → ℕ → (x : ℕ) → x < f.order → CodeMatrix f
  unit a b x l = (
    λ i j. cond (eqb i a) (cond (eqb j b) x 0) 0,
    λ i j. cond_below (eqb i a) (cond (eqb j b) x 0) (cond_below (eqb j b) x l),
  )

  pub times_cond : (x : ℕ) (t : Bool) (y : ℕ) → f.times x (cond t y 0) ≡ cond t (f.times x y) 0
  times_cond x true y = refl
  times_cond x false y = times_zero f law x

  cond_times : (t : Bool) (x y : ℕ) → f.times (cond t x 0) y ≡ cond t (f.times x y) 0
  cond_times true x y = refl
  cond_times false x y = zero_times f law y

  -- a sum in which only the place a counts
  pub sum_at : (n a : ℕ) (g : ℕ → ℕ) → a < n → g a < f.order → sum f n (λ h. cond (eqb h a) (g h) 0) ≡ g a
  sum_at n a g l below =
      sum_single f law n a (λ h. cond (eqb h a) (g h) 0) l
      (rw (eq-eqb a a refl) below) (λ h k apart. rw (ne_eqb h a apart))
      ∙ rw (eq-eqb a a refl)

  pub unit_row : (n a b x : ℕ) (l : x < f.order) (m : CodeMatrix f) (i j : ℕ) → b < n →
      (times_matrix f law n (unit a b x l) m).0 i j ≡ cond (eqb i a) (f.times x (m.0 b j)) 0
  unfolding times_matrix unit
  unit_row n a b x l m i j inside = by_row (eqb i a) where
    by_row : (t : Bool) → sum f n (λ h. f.times (cond t (cond (eqb h b) x 0) 0) (m.0 h j)) ≡
        cond t (f.times x (m.0 b j)) 0
    by_row true =
        sum_ext f law n _ (λ h. cond (eqb h b) (f.times x (m.0 h j)) 0) (λ h _. cond_times (eqb h b) x (m.0 h j))
        ∙ sum_at n b (λ h. f.times x (m.0 h j)) inside (law.times_below x (m.0 b j))
    by_row false = sum_zero f law n _ (λ h _. zero_times f law (m.0 h j))

  pub unit_column : (n a b x : ℕ) (l : x < f.order) (m : CodeMatrix f) (i j : ℕ) → a < n →
      (times_matrix f law n m (unit a b x l)).0 i j ≡ cond (eqb j b) (f.times (m.0 i a) x) 0
  unfolding times_matrix unit
  unit_column n a b x l m i j inside = by_column (eqb j b) where
    cond_zero : (t : Bool) → ◌≡◌ {A = ℕ} (cond t 0 0) 0
    cond_zero true = refl
    cond_zero false = refl

    by_column : (t : Bool) → sum f n (λ h. f.times (m.0 i h) (cond (eqb h a) (cond t x 0) 0)) ≡
        cond t (f.times (m.0 i a) x) 0
    by_column true =
        sum_ext f law n _ (λ h. cond (eqb h a) (f.times (m.0 i h) x) 0) (λ h _. times_cond (m.0 i h) (eqb h a) x)
        ∙ sum_at n a (λ h. f.times (m.0 i h) x) inside (law.times_below (m.0 i a) x)
    by_column false =
        sum_zero f law n _ (λ h _. ap (f.times (m.0 i h)) (cond_zero (eqb h a)) ∙ times_zero f law (m.0 i h))

  -- through row b and column c of a matrix
  pub unit_middle : (n k a b c d x y z : ℕ) (lx : x < f.order) (ly : y < f.order) (lz : z < f.order)
      (m : CodeMatrix f) → b < n → c < k → f.times x (f.times (m.0 b c) y) ≡ z →
      times_matrix f law n (unit a b x lx) (times_matrix f law k m (unit c d y ly)) ≡ unit a d z lz
  unfolding unit
  unit_middle n k a b c d x y z lx ly lz m inb inc e = matrix_eq f law _ _ (λ i j.
      unit_row n a b x lx (times_matrix f law k m (unit c d y ly)) i j inb
      ∙ ap (λ w. cond (eqb i a) (f.times x w) 0) (unit_column k c d y ly m b j inc)
      ∙ ap (λ w. cond (eqb i a) w 0) (times_cond x (eqb j d) (f.times (m.0 b c) y))
      ∙ ap (λ w. cond (eqb i a) (cond (eqb j d) w 0) 0) e)

  pub unit_unit : (n a b d x y z : ℕ) (lx : x < f.order) (ly : y < f.order) (lz : z < f.order) → b < n →
      f.times x y ≡ z → times_matrix f law n (unit a b x lx) (unit b d y ly) ≡ unit a d z lz
  unfolding unit
  unit_unit n a b d x y z lx ly lz inb e = matrix_eq f law _ _ (λ i j.
      unit_row n a b x lx (unit b d y ly) i j inb
      ∙ ap (λ t. cond (eqb i a) (f.times x (cond t (cond (eqb j d) y 0) 0)) 0) (eq-eqb b b refl)
      ∙ ap (λ w. cond (eqb i a) w 0) (times_cond x (eqb j d) y)
      ∙ ap (λ w. cond (eqb i a) (cond (eqb j d) w 0) 0) e)

  -- the identity on the places that count
  unfoldable pub diagonal : (ℕ → Bool) → CodeMatrix f
  diagonal counts = (identity_on counts, λ i j. cond_below (counts i && eqb i j) 1 (one_lt_order f law))

  pub diagonal_row : (n : ℕ) (counts : ℕ → Bool) → ((i : ℕ) → counts i ≡ true → i < n) → (m : CodeMatrix f) (i j : ℕ) →
      (times_matrix f law n (diagonal counts) m).0 i j ≡ cond (counts i) (m.0 i j) 0
  unfolding times_matrix diagonal
  diagonal_row n counts within m i j = by_test (counts i) (within i) where
    by_test : (t : Bool) → (t ≡ true → i < n) →
        sum f n (λ h. f.times (cond (t && eqb i h) 1 0) (m.0 h j)) ≡ cond t (m.0 i j) 0
    by_test true inside =
        sum_single f law n i _ (inside refl) (law.times_below (cond (eqb i i) 1 0) (m.0 i j))
        (λ h l apart. ap (λ t. f.times (cond t 1 0) (m.0 h j)) (ne_eqb i h (λ e. apart (sym e)))
        ∙ zero_times f law (m.0 h j))
        ∙ ap (λ t. f.times (cond t 1 0) (m.0 i j)) (eq-eqb i i refl) ∙ one_times (m.0 i j) (m.1 i j)
    by_test false inside = sum_zero f law n _ (λ h _. zero_times f law (m.0 h j))

  pub diagonal_column : (n : ℕ) (counts : ℕ → Bool) → ((i : ℕ) → counts i ≡ true → i < n) →
      (m : CodeMatrix f) (i j : ℕ) →
      (times_matrix f law n m (diagonal counts)).0 i j ≡ cond (counts j) (m.0 i j) 0
  unfolding times_matrix diagonal
  diagonal_column n counts within m i j = by_test (counts j) refl where
    one_at : (h : ℕ) (t u : Bool) → (u ≡ true → h ≡ j) → counts j ≡ t →
        ◌≡◌ {A = ℕ} (cond (counts h && u) 1 0) (cond u (cond t 1 0) 0)
    one_at h t true e c = rw (e refl, c) (same t) where
      same : (t : Bool) → ◌≡◌ {A = ℕ} (cond (t && true) 1 0) (cond t 1 0)
      same true = refl
      same false = refl
    one_at h t false e c = same (counts h) where
      same : (t : Bool) → ◌≡◌ {A = ℕ} (cond (t && false) 1 0) 0
      same true = refl
      same false = refl

    by_test : (t : Bool) → counts j ≡ t →
        sum f n (λ h. f.times (m.0 i h) (cond (counts h && eqb h j) 1 0)) ≡ cond t (m.0 i j) 0
    by_test true c =
        sum_ext f law n _ (λ h. cond (eqb h j) (f.times (m.0 i h) 1) 0)
        (λ h _. ap (f.times (m.0 i h)) (one_at h true (eqb h j) (eqb-true h j) c) ∙ times_cond (m.0 i h) (eqb h j) 1)
        ∙ sum_at n j (λ h. f.times (m.0 i h) 1) (within j c) (law.times_below (m.0 i j) 1)
        ∙ times_one_code f law (m.0 i j) (m.1 i j)
    by_test false c = sum_zero f law n _
        (λ h _. ap (f.times (m.0 i h)) (one_at h false (eqb h j) (eqb-true h j) c ∙ none (eqb h j))
        ∙ times_zero f law (m.0 i h)) where
          none : (t : Bool) → ◌≡◌ {A = ℕ} (cond t 0 0) 0
          none true = refl
          none false = refl

  pub diagonal_unit : (n : ℕ) (counts : ℕ → Bool) → ((i : ℕ) → counts i ≡ true → i < n) →
      (a b x : ℕ) (l : x < f.order) →
      counts a ≡ true → times_matrix f law n (diagonal counts) (unit a b x l) ≡ unit a b x l
  unfolding unit
  diagonal_unit n counts within a b x l c = matrix_eq f law _ _ (λ i j.
      diagonal_row n counts within (unit a b x l) i j
      ∙ by_tests i (counts i) (eqb i a) (cond (eqb j b) x 0) refl (eqb-true i a)) where
        by_tests : (i : ℕ) (t u : Bool) (w : ℕ) → counts i ≡ t → (u ≡ true → i ≡ a) → cond t (cond u w 0) 0 ≡ cond u w 0
        by_tests i true u w e s = refl
        by_tests i false true w e s = absurd (both_ways (counts i) e (ap counts (s refl) ∙ c))
        by_tests i false false w e s = refl

  pub unit_diagonal : (n : ℕ) (counts : ℕ → Bool) → ((i : ℕ) → counts i ≡ true → i < n) →
      (a b x : ℕ) (l : x < f.order) →
      counts b ≡ true → times_matrix f law n (unit a b x l) (diagonal counts) ≡ unit a b x l
  unfolding unit
  unit_diagonal n counts within a b x l c = matrix_eq f law _ _ (λ i j.
      diagonal_column n counts within (unit a b x l) i j
      ∙ by_tests j (counts j) (eqb i a) (eqb j b) refl (eqb-true j b)) where
        by_tests : (j : ℕ) (t r u : Bool) → counts j ≡ t → (u ≡ true → j ≡ b) →
            cond t (cond r (cond u x 0) 0) 0 ≡ cond r (cond u x 0) 0
        by_tests j true r u e s = refl
        by_tests j false true true e s = absurd (both_ways (counts j) e (ap counts (s refl) ∙ c))
        by_tests j false true false e s = refl
        by_tests j false false u e s = refl

  pub diagonal_diagonal : (n : ℕ) (counts : ℕ → Bool) → ((i : ℕ) → counts i ≡ true → i < n) →
      times_matrix f law n (diagonal counts) (diagonal counts) ≡ diagonal counts
  unfolding diagonal
  diagonal_diagonal n counts within = matrix_eq f law _ _ (λ i j.
      diagonal_row n counts within (diagonal counts) i j ∙ by_test (counts i) (eqb i j)) where
        by_test : (t u : Bool) → ◌≡◌ {A = ℕ} (cond t (cond (t && u) 1 0) 0) (cond (t && u) 1 0)
        by_test true u = refl
        by_test false u = refl

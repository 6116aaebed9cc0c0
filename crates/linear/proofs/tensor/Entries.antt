-- The entries of a tensor at two pairs: C's, or D's with a sign, or 0.
use Rattle.std.proofs.Common.{◌≡◌, ℕ, zero, suc, ◌-◌, ◌%◌, ◌<◌, Bool, true, false, cond, eqb, ◌⊎◌, Some, None, Option, sym, refl, ap, ◌∙◌, inl, inr, arith}
use Rattle.std.proofs.lemmas.Bool.{cases_Bool, cases_eq, eqb-true, eqb-false, eq-eqb, ne_eqb, cond_both}
use Rattle.field.specs.Codes.{Codes, IsField}
use Rattle.linear.specs.Complexes.{Meaning, IsComplex}
use Rattle.linear.specs.Tensor.{Pair, signed, between, pair_at, tensor_entry}
use Rattle.linear.specs.TensorLaw.{ByLeft, ByRight}
use Rattle.linear.proofs.Codes.{zero_lt_order, minus_minus, times_minus}

-- how an entry between two pairs is there, by a left face or by a right one; their degrees tell which
abbrev pub Way : Pair → Pair → Type 0
Way x y = ByLeft x y ⊎ ByRight x y

pub way_left : (x y : Pair) → Way x y → suc x.p ≡ y.p → x.j ≡ y.j
way_left x y (inl by) e = by.1
way_left x y (inr by) e = absurd (omega (arith, by.0))

pub way_right : (x y : Pair) → Way x y → x.p ≡ y.p → x.i ≡ y.i
way_right x y (inl by) e = absurd (omega (arith, by.0))
way_right x y (inr by) e = by.1

pub way_apart : (x y : Pair) → Way x y → (suc x.p ≡ y.p → ⊥) → (x.p ≡ y.p → ⊥) → ⊥
way_apart x y (inl by) one two = one by.0
way_apart x y (inr by) one two = two by.0

cases_both : (a b m n : ℕ) → ((a ≡ b) × (m ≡ n)) ⊎ ((a ≡ b) × (m ≡ n) → ⊥)
cases_both a b m n =
    elim (cases_eq a b) [
      | inl one ↦ elim (cases_eq m n) [ inl two ↦ inl (one, two) | inr other ↦ inr (λ both. other both.1) ]
      | inr other ↦ inr (λ both. other both.0)
    ]

module _ (f : Codes) (c d : Meaning) (k : ℕ) where
  pub between_left :
      (x y : Pair) → ByLeft x y → between f c d k (Some x) (Some y) ≡ c.entry y.p x.i y.i
  between_left x y by =
      let one : eqb (suc x.p) y.p ≡ true = eq-eqb _ _ by.0 in
      let two : eqb x.j y.j ≡ true = eq-eqb _ _ by.1 in
      rw (one, two) refl

  pub between_right :
      (x y : Pair) → ByRight x y →
      between f c d k (Some x) (Some y) ≡ signed f y.p (d.entry (k - y.p) x.j y.j)
  between_right x y by =
      let no : eqb (suc x.p) y.p ≡ false = ne_eqb _ _ (λ z. omega (arith, by.0)) in
      let one : eqb x.p y.p ≡ true = eq-eqb _ _ by.0 in
      let two : eqb x.i y.i ≡ true = eq-eqb _ _ by.1 in
      rw (no, one, two) refl

  -- two tests in a row, of which one fails
  both_fail : (a b : Bool) (v : ℕ) → ((a ≡ true) × (b ≡ true) → ⊥) → a ≡ true → cond b v 0 ≡ 0
  both_fail a true v never one = absurd (never (one, refl))
  both_fail a false v never one = refl

  pub between_zero :
      (x y : Pair) → (ByLeft x y → ⊥) → (ByRight x y → ⊥) → between f c d k (Some x) (Some y) ≡ 0
  between_zero x y no-left no-right =
      let l = eqb (suc x.p) y.p in let r = eqb x.p y.p in
      let j = eqb x.j y.j in let i = eqb x.i y.i in
      cond_both l _ _ (λ v. v ≡ 0)
      (both_fail l j _ (λ yes. no-left (eqb-true _ _ yes.0, eqb-true _ _ yes.1)))
      (λ _. cond_both r _ _ (λ v. v ≡ 0)
      (both_fail r i _ (λ yes. no-right (eqb-true _ _ yes.0, eqb-true _ _ yes.1))) (λ _. refl))

  -- an entry that is not 0 is there in one of two ways
  pub between_ways : (x y : Pair) → Way x y ⊎ (between f c d k (Some x) (Some y) ≡ 0)
  between_ways x y =
      elim (cases_both (suc x.p) y.p x.j y.j) [
        | inl left ↦ inl (inl left)
        | inr no-left ↦
            elim (cases_both x.p y.p x.i y.i) [
              | inl right ↦ inl (inr right)
              | inr no-right ↦ inr (between_zero x y no-left no-right)
            ]
      ]

  pub between_none : (o : Option Pair) → between f c d k o None ≡ 0
  between_none None = refl
  between_none (Some x) = refl

-- past degree 0 an entry goes by the pairs of the row and of the column
pub tensor_entry_between :
    (f : Codes) (c d : Meaning) (k r s : ℕ) → 0 < k →
    tensor_entry f c d k r s ≡ between f c d k (pair_at c d (k - 1) r) (pair_at c d k s)
tensor_entry_between f c d zero r s pos = absurd (omega arith)
tensor_entry_between f c d (suc k) r s pos =
    let same : k ≡ suc k - 1 = omega arith in
    ap (λ (n : ℕ). between f c d (suc k) (pair_at c d n r) (pair_at c d (suc k) s)) same

-- signs
module _ (f : Codes) (law : IsField f) where
  pub signed_below : (p a : ℕ) → a < f.order → signed f p a < f.order
  signed_below p a below =
      cond_both (eqb (p % 2) 0) a (f.minus a) (λ v. v < f.order) (λ _. below) (λ _. law.minus_below a)

  pub signed_suc : (p a : ℕ) → a < f.order → signed f (suc p) a ≡ f.minus (signed f p a)
  signed_suc p a below =
      elim (cases_Bool (eqb (p % 2) 0)) [
        | inl even ↦
            (let odd : eqb (suc p % 2) 0 ≡ false = ne_eqb _ _ (λ z. omega (arith, eqb-true (p % 2) 0 even)) in
            rw (even, odd) refl)
        | inr odd ↦
            (let even : eqb (suc p % 2) 0 ≡ true =
            eq-eqb _ _ (let no : p % 2 ≡ 0 → ⊥ = eqb-false (p % 2) 0 odd in omega arith) in
            rw (even, odd) (sym (minus_minus f law a below)))
      ]

  -- two equal signs cancel
  pub signed_times_signed :
      (p a b : ℕ) → a < f.order → b < f.order → f.times (signed f p a) (signed f p b) ≡ f.times a b
  signed_times_signed p a b one two =
      elim (cases_Bool (eqb (p % 2) 0)) [
        | inl even ↦ rw even refl
        | inr odd ↦
            rw odd (times_minus f law (f.minus a) b
            ∙ ap f.minus (law.times_comm (f.minus a) b ∙ times_minus f law b a)
            ∙ minus_minus f law (f.times b a) (law.times_below b a) ∙ law.times_comm b a)
      ]

module _ (f : Codes) (law : IsField f) (c d : Meaning) (left : IsComplex f c) (right : IsComplex f d) where
  pub between_below : (k : ℕ) (r s : Option Pair) → between f c d k r s < f.order
  between_below k None s = zero_lt_order f law
  between_below k (Some x) None = zero_lt_order f law
  between_below k (Some x) (Some y) =
      let zero-below = zero_lt_order f law in
      cond_both (eqb (suc x.p) y.p) _ _ (λ v. v < f.order)
      (λ _. cond_both (eqb x.j y.j) _ _ (λ v. v < f.order) (λ _. left.below _ _ _) (λ _. zero-below))
      (λ _. cond_both (eqb x.p y.p) _ _ (λ v. v < f.order)
      (λ _. cond_both (eqb x.i y.i) _ _ (λ v. v < f.order)
      (λ _. signed_below f law y.p _ (right.below _ _ _)) (λ _. zero-below))
      (λ _. zero-below))

  pub tensor_entry_below : (k r s : ℕ) → tensor_entry f c d k r s < f.order
  tensor_entry_below zero r s = zero_lt_order f law
  tensor_entry_below (suc k) r s = between_below (suc k) (pair_at c d k r) (pair_at c d (suc k) s)

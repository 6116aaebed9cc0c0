-- Counted signs: as many ones as there are pluses, and as many negative ones as there are minuses.
use Rattle.std.proofs.Common.{◌≡◌, ℕ, ◌+◌, Bool, true, false, cond, eqb, List, [], ◌∷◌, sym, ap, ◌∙◌}
use Rattle.std.specs.List.{AllByRecursion}
use Rattle.field.specs.Codes.{Codes, IsField}
use Rattle.linear.specs.Sums.{sum}
use Rattle.linear.proofs.Codes.{plus_both, plus_zero_code, zero_plus_code, zero_plus_zero, plus_four}
use Rattle.linear.proofs.Codes.{one_lt_order, times_one_code, one_times_minus_one, minus_one_squared}
use Rattle.linear.proofs.Sums.{sum_ext, sum_zero, sum_split, sum_plus, times_sum}
use Rattle.linear.proofs.Lists.{sum_over}
use Rattle.cell.specs.declared.Sign.{Sign}
use Rattle.cell.specs.declared.Sign.TheVariants.{Plus, Minus}
use Rattle.cell.specs.declared.Face.{Face}
use Rattle.cell.specs.Kind.{Kind, IsKind, Faces, product, alike, hits, ways}
use Rattle.complex.specs.Leaf.{code, incidence}
use Rattle.complex.proofs.leaf.Incidences.{incidence_cons}

-- p ones and m negative ones
abbrev pub signed : Codes → ℕ → ℕ → ℕ
signed f p m = f.plus (sum f p (λ _. 1)) (sum f m (λ _. f.minus 1))

module _ (f : Codes) (law : IsField f) where
  pub signed_same : (n : ℕ) → signed f n n ≡ 0
  signed_same n = sym (sum_plus f law n (λ _. 1) (λ _. f.minus 1)) ∙ sum_zero f law n _ (λ m l. law.plus_minus 1)

  signed_plus : (a b c d : ℕ) → signed f (a + c) (b + d) ≡ f.plus (signed f a b) (signed f c d)
  signed_plus a b c d =
      ap (λ (x : ℕ). f.plus x (sum f (b + d) (λ _. f.minus 1))) (sum_split f law a c (λ _. 1))
      ∙ ap (f.plus (f.plus (sum f a (λ _. 1)) (sum f c (λ _. 1)))) (sum_split f law b d (λ _. f.minus 1))
      ∙ plus_four f law (sum f a (λ _. 1)) (sum f c (λ _. 1)) (sum f b (λ _. f.minus 1)) (sum f d (λ _. f.minus 1))

  -- one cell with its sign, if it is there
  signed_one :
      (s : Sign) (b : Bool) →
      cond b (code f s) 0 ≡ signed f (cond (alike Plus s) (cond b 1 0) 0) (cond (alike Minus s) (cond b 1 0) 0)
  signed_one Plus true =
      sym (ap (λ (x : ℕ). f.plus x 0) (zero_plus_code f law 1 (one_lt_order f law))
      ∙ plus_zero_code f law 1 (one_lt_order f law))
  signed_one Plus false = sym (zero_plus_zero f law)
  signed_one Minus true =
      sym (ap (f.plus 0) (zero_plus_code f law (f.minus 1) (law.minus_below 1))
      ∙ zero_plus_code f law (f.minus 1) (law.minus_below 1))
  signed_one Minus false = sym (zero_plus_zero f law)

  -- a sign times counted signs
  signed_times_one : (p m : ℕ) → f.times (signed f p m) 1 ≡ signed f p m
  signed_times_one p m = times_one_code f law (signed f p m) (law.plus_below _ _)

  signed_times_minus_one : (p m : ℕ) → f.times (signed f p m) (f.minus 1) ≡ signed f m p
  signed_times_minus_one p m =
      let n = f.minus 1 in let ones = sum f p (λ _. 1) in let others = sum f m (λ _. f.minus 1) in
      law.times_comm (signed f p m) n ∙ law.times_plus n ones others
      ∙ law.plus_comm (f.times n ones) (f.times n others)
      ∙ ap (λ (x : ℕ). f.plus x (f.times n ones))
      (times_sum f law n m (λ _. f.minus 1) ∙ sum_ext f law m _ (λ _. 1) (λ _ _. minus_one_squared f law))
      ∙ ap (f.plus (sum f m (λ _. 1)))
      (times_sum f law n p (λ _. 1)
      ∙ sum_ext f law p _ (λ _. n) (λ _ _. law.times_comm n 1 ∙ one_times_minus_one f law))

  module _ {K : Type 0} (k : Kind K) (g : K) where
    incidence_signed :
        (d : ℕ) (xs : List (Face K)) → Faces k d xs →
        incidence f k g xs ≡ signed f (hits k Plus g xs) (hits k Minus g xs)
    incidence_signed d [] faces = sym (zero_plus_zero f law)
    incidence_signed d (x ∷ xs) faces =
        incidence_cons f law k g x xs faces.2
        ∙ plus_both f (signed_one x.sign (eqb (k.rank x.cell) (k.rank g))) (incidence_signed d xs faces.3)
        ∙ sym (signed_plus _ _ (hits k Plus g xs) (hits k Minus g xs))

    term_signed :
        (s : Sign) (d : ℕ) (xs : List (Face K)) → Faces k d xs →
        f.times (incidence f k g xs) (code f s)
        ≡ signed f (hits k (product Plus s) g xs) (hits k (product Minus s) g xs)
    term_signed Plus d xs faces =
        ap (λ (y : ℕ). f.times y 1) (incidence_signed d xs faces)
        ∙ signed_times_one (hits k Plus g xs) (hits k Minus g xs)
    term_signed Minus d xs faces =
        ap (λ (y : ℕ). f.times y (f.minus 1)) (incidence_signed d xs faces)
        ∙ signed_times_minus_one (hits k Plus g xs) (hits k Minus g xs)

    -- over the faces of a cell, the products of signs with which g is a face of a face
    pub sum_over_faces :
        (kind : IsKind k) (xs : List (Face K)) → AllByRecursion (λ x. k.valid x.cell ≡ true) xs →
        sum_over f xs (λ x. f.times (incidence f k g (k.faces x.cell)) (code f x.sign))
        ≡ signed f (ways k Plus g xs) (ways k Minus g xs)
    sum_over_faces kind [] valid = sym (zero_plus_zero f law)
    sum_over_faces kind (x ∷ xs) valid =
        plus_both f
        (term_signed x.sign (k.degree x.cell) (k.faces x.cell) (kind.faces_below x.cell valid.0))
        (sum_over_faces kind xs valid.1)
        ∙ sym (signed_plus _ _ (ways k Plus g xs) (ways k Minus g xs))

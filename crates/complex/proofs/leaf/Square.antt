-- Two consecutive boundaries of a closed list compose to zero.
use Rattle.std.proofs.Common.{◌≡◌, ℕ, zero, suc, ◌+◌, true, eqb, List, [], ◌∷◌, length, Some, None, Option, refl, ap, ◌∙◌, subst, add-one, arith}
use Rattle.std.specs.List.{AllByRecursion, slice_get}
use Rattle.std.proofs.ByRecursion.{all_kept_by, kept_by_passes}
use Rattle.std.proofs.lemmas.Bool.{eqb-true}
use Rattle.field.specs.Codes.{Codes, IsField}
use Rattle.linear.specs.Sums.{sum}
use Rattle.linear.proofs.Codes.{times_zero, zero_times}
use Rattle.linear.proofs.Sums.{sum_zero}
use Rattle.linear.proofs.Lists.{sum_over, sum_nth}
use Rattle.cell.specs.declared.Sign.TheVariants.{Minus}
use Rattle.cell.specs.declared.Face.{Face}
use Rattle.cell.specs.Kind.{Kind, IsKind, Faces, ways}
use Rattle.index.specs.Closed.{held, HasFaces, Closed}
use Rattle.complex.specs.Leaf.{of_degree, incidence, between, leaf_entry}
use Rattle.complex.proofs.leaf.Signs.{signed, signed_same, sum_over_faces}
use Rattle.complex.proofs.leaf.Columns.{sum_over_column}
use Rattle.complex.proofs.leaf.Degrees.{all_nth, ascending_kept_by, held_of_degree}

pub between_none : {K : Type 0} (f : Codes) (k : Kind K) (o : Option K) → between f k o None ≡ 0
between_none f k None = refl
between_none f k (Some g) = refl

module _ {K : Type 0} (f : Codes) (law : IsField f) (k : Kind K) (kind : IsKind k) (cs : List K)
    (closed : Closed k cs) where
  faces_valid : (d : ℕ) (xs : List (Face K)) → Faces k d xs → AllByRecursion (λ x. k.valid x.cell ≡ true) xs
  faces_valid d [] faces = tt
  faces_valid d (x ∷ xs) faces = (faces.0, faces_valid d xs faces.3)

  -- the faces of a cell stand among the cells of the degree below
  pub faces_held :
      (d : ℕ) (xs : List (Face K)) → Faces k (suc d) xs → AllByRecursion (λ x. held k (k.rank x.cell) cs ≡ true) xs →
      AllByRecursion (λ x. held k (k.rank x.cell) (of_degree k d cs) ≡ true) xs
  faces_held d [] faces there = tt
  faces_held d (x ∷ xs) faces there = (
    held_of_degree k kind x.cell d cs faces.0 (omega (arith, faces.1)) closed.valid there.0,
    faces_held d xs faces.3 there.1,
  )

  module _ (d : ℕ) (g c : K) (ok : k.valid c ≡ true) (deg : k.degree c ≡ suc d) (there : HasFaces k cs c) where
    faces_of : Faces k (suc d) (k.faces c)
    faces_of = subst (λ (n : ℕ). Faces k n (k.faces c)) deg (kind.faces_below c ok)

    -- the sum over the cells between g and c
    sum_between :
        sum_over f (of_degree k d cs) (λ m. f.times (incidence f k g (k.faces m)) (incidence f k m (k.faces c))) ≡ 0
    sum_between =
        sum_over_column f law k kind (λ m. incidence f k g (k.faces m)) (of_degree k d cs)
        (all_kept_by (λ m. eqb (k.degree m) d) (λ m. k.valid m ≡ true) cs closed.valid)
        (ascending_kept_by k (λ m. eqb (k.degree m) d) cs closed.ascending) (suc d) (k.faces c) faces_of
        (faces_held d (k.faces c) faces_of there)
        ∙ sum_over_faces f law k g kind (k.faces c) (faces_valid (suc d) (k.faces c) faces_of)
        ∙ ap (λ (n : ℕ). signed f n (ways k Minus g (k.faces c))) (kind.signs_cancel c g ok)
        ∙ signed_same f law (ways k Minus g (k.faces c))

  -- by whether the row and the column are there
  square_at :
      (d : ℕ) (r c : Option K) (j : ℕ) → slice_get (of_degree k (suc d) cs) j ≡ c →
      sum f (length (of_degree k d cs))
      (λ h. f.times (between f k r (slice_get (of_degree k d cs) h)) (between f k (slice_get (of_degree k d cs) h) c))
      ≡ 0
  square_at d None c j e = sum_zero f law _ _ (λ h l. zero_times f law _)
  square_at d (Some g) None j e =
      sum_zero f law _ _ (λ h l. ap (f.times _) (between_none f k (slice_get (of_degree k d cs) h)) ∙ times_zero f law _)
  square_at d (Some g) (Some c) j e =
      let test = λ (x : K). eqb (k.degree x) (suc d) in
      sum_nth f law (of_degree k d cs) (λ o. f.times (between f k (Some g) o) (between f k o (Some c)))
      (λ m. law.times_below _ _)
      ∙ sum_between d g c
      (all_nth (λ x. k.valid x ≡ true) _ j c (all_kept_by test (λ x. k.valid x ≡ true) cs closed.valid) e)
      (eqb-true (k.degree c) (suc d) (all_nth (λ x. test x ≡ true) _ j c (kept_by_passes test cs) e))
      (all_nth (HasFaces k cs) _ j c (all_kept_by test (HasFaces k cs) cs closed.faces) e)

  pub leaf_square :
      (n i j : ℕ) →
      sum f (length (of_degree k n cs)) (λ h. f.times (leaf_entry f k cs n i h) (leaf_entry f k cs (n + 1) h j)) ≡ 0
  leaf_square zero i j = sum_zero f law _ _ (λ h l. zero_times f law _)
  leaf_square (suc d) i j = rw (add-one (suc d)) (square_at (suc d) (slice_get (of_degree k d cs) i) _ j refl)

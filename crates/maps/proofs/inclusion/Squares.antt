-- To include a cell and take its boundary is to take its boundary and include that.
--
-- Both sides are the sign of the row's cell g among the faces of the column's cell c.
use Rattle.std.proofs.Common.{◌≡◌, ℕ, suc, true, eqb, List, [], ◌∷◌, length, Some, None, Option, sym, refl, ap, ◌∙◌, subst, inl, inr}
use Rattle.std.specs.List.{AllByRecursion, slice_get}
use Rattle.std.proofs.ByRecursion.{all_kept_by, kept_by_passes}
use Rattle.std.proofs.lemmas.Bool.{cases_eq, eq-eqb, ne_eqb, eqb-true, cond-true, cond-false}
use Rattle.field.specs.Codes.{Codes, IsField}
use Rattle.linear.specs.Sums.{sum}
use Rattle.linear.proofs.Codes.{plus_both, times_zero, zero_times, times_one_code}
use Rattle.linear.proofs.Sums.{sum_zero}
use Rattle.linear.proofs.Lists.{sum_over, sum_nth}
use Rattle.cell.specs.declared.Face.{Face}
use Rattle.cell.specs.Kind.{Kind, IsKind, Faces}
use Rattle.index.specs.Closed.{held, HasFaces, Closed}
use Rattle.complex.specs.Leaf.{code, of_degree, incidence, between}
use Rattle.complex.proofs.leaf.Incidences.{here, code_below, incidence_below, incidence_cons}
use Rattle.complex.proofs.leaf.Columns.{sum_over_held, sum_over_column}
use Rattle.complex.proofs.leaf.Degrees.{all_nth, ascending_kept_by, held_of_degree}
use Rattle.complex.proofs.leaf.Square.{between_none, faces_held}
use Rattle.maps.specs.Inclusion.{same_cell, Included}

pub same_cell_none : {K : Type 0} (k : Kind K) (o : Option K) → same_cell k o None ≡ 0
same_cell_none k None = refl
same_cell_none k (Some g) = refl

module _ {K : Type 0} (k : Kind K) (g c : K) where
  same_cell_eq : k.rank g ≡ k.rank c → same_cell k (Some g) (Some c) ≡ 1
  same_cell_eq e = cond-true (eqb (k.rank g) (k.rank c)) 1 0 (eq-eqb (k.rank g) (k.rank c) e)

  same_cell_ne : (k.rank g ≡ k.rank c → ⊥) → same_cell k (Some g) (Some c) ≡ 0
  same_cell_ne n = cond-false (eqb (k.rank g) (k.rank c)) 1 0 (ne_eqb (k.rank g) (k.rank c) n)

module _ {K : Type 0} (f : Codes) (law : IsField f) (k : Kind K) (g : K) where
  same_times : (x : Face K) → f.times (same_cell k (Some g) (Some x.cell)) (code f x.sign) ≡ here f k g x
  same_times x =
      let s = code f x.sign in let r = k.rank x.cell in
      elim (cases_eq r (k.rank g)) [
        | inl e ↦
            ap (λ (y : ℕ). f.times y s) (same_cell_eq k g x.cell (sym e)) ∙ law.times_comm 1 s
            ∙ times_one_code f law s (code_below f law x.sign)
            ∙ sym (cond-true (eqb r (k.rank g)) s 0 (eq-eqb r (k.rank g) e))
        | inr n ↦
            ap (λ (y : ℕ). f.times y s) (same_cell_ne k g x.cell (λ e. n (sym e))) ∙ zero_times f law s
            ∙ sym (cond-false (eqb r (k.rank g)) s 0 (ne_eqb r (k.rank g) n))
      ]

  -- over distinct faces, the sign of g
  sum_over_same :
      (d : ℕ) (xs : List (Face K)) → Faces k d xs →
      sum_over f xs (λ x. f.times (same_cell k (Some g) (Some x.cell)) (code f x.sign)) ≡ incidence f k g xs
  sum_over_same d [] faces = refl
  sum_over_same d (x ∷ xs) faces =
      plus_both f (same_times x) (sum_over_same d xs faces.3) ∙ sym (incidence_cons f law k g x xs faces.2)

-- a cell c of degree d + 1 in a closed list, and a cell g
module _ {K : Type 0} (f : Codes) (law : IsField f) (k : Kind K) (kind : IsKind k) (cs : List K)
    (closed : Closed k cs) (d : ℕ) (g c : K) (ok : k.valid c ≡ true) (deg : k.degree c ≡ suc d) where
  -- first included, among the cells of the larger list one counts
  included_first :
      held k (k.rank c) cs ≡ true →
      sum_over f (of_degree k (suc d) cs)
      (λ m. f.times (incidence f k g (k.faces m)) (same_cell k (Some m) (Some c)))
      ≡ incidence f k g (k.faces c)
  included_first there =
      let test = λ (m : K). eqb (k.degree m) (suc d) in let at = λ (m : K). incidence f k g (k.faces m) in
      sum_over_held f law k kind (of_degree k (suc d) cs) (k.rank c) (at c) _
      (all_kept_by test (λ m. k.valid m ≡ true) cs closed.valid) (ascending_kept_by k test cs closed.ascending)
      (held_of_degree k kind c (suc d) cs ok deg closed.valid there) (incidence_below f law k g (k.faces c))
      (λ m valid e.
      ap (f.times (at m)) (same_cell_eq k m c (sym e))
      ∙ times_one_code f law (at m) (incidence_below f law k g (k.faces m))
      ∙ ap at (sym (kind.apart c m ok valid e)))
      (λ m n. ap (f.times (at m)) (same_cell_ne k m c (λ e. n (sym e))) ∙ times_zero f law (at m))

  -- included last, the faces stand in the smaller list
  included_last :
      HasFaces k cs c →
      sum_over f (of_degree k d cs) (λ m. f.times (same_cell k (Some g) (Some m)) (incidence f k m (k.faces c)))
      ≡ incidence f k g (k.faces c)
  included_last there =
      let faces = subst (λ (n : ℕ). Faces k n (k.faces c)) deg (kind.faces_below c ok) in
      let test = λ (m : K). eqb (k.degree m) d in
      sum_over_column f law k kind (λ m. same_cell k (Some g) (Some m)) (of_degree k d cs)
      (all_kept_by test (λ m. k.valid m ≡ true) cs closed.valid) (ascending_kept_by k test cs closed.ascending)
      (suc d) (k.faces c) faces (faces_held f law k kind cs closed d (k.faces c) faces there)
      ∙ sum_over_same f law k g (suc d) (k.faces c) faces

module _ {K : Type 0} (f : Codes) (law : IsField f) (k : Kind K) (kind : IsKind k) (bs cs : List K)
    (smaller : Closed k bs) (larger : Closed k cs) where
  -- first to include, then to take the boundary: the entry at r and c, which may be absent
  abbrev after : ℕ → Option K → Option K → ℕ
  after d r c =
      let ms = of_degree k (suc d) cs in
      sum f (length ms) (λ h. f.times (between f k r (slice_get ms h)) (same_cell k (slice_get ms h) c))

  -- first to take the boundary, then to include
  abbrev before : ℕ → Option K → Option K → ℕ
  before d r c =
      let ms = of_degree k d bs in
      sum f (length ms) (λ h. f.times (same_cell k r (slice_get ms h)) (between f k (slice_get ms h) c))

  commutes_at :
      (d : ℕ) (g c : K) → k.valid c ≡ true → k.degree c ≡ suc d → held k (k.rank c) cs ≡ true → HasFaces k bs c →
      after d (Some g) (Some c) ≡ before d (Some g) (Some c)
  commutes_at d g c ok deg there faces =
      sum_nth f law (of_degree k (suc d) cs) (λ o. f.times (between f k (Some g) o) (same_cell k o (Some c)))
      (λ m. law.times_below _ _)
      ∙ included_first f law k kind cs larger d g c ok deg there
      ∙ sym (included_last f law k kind bs smaller d g c ok deg faces)
      ∙ sym (sum_nth f law (of_degree k d bs) (λ o. f.times (same_cell k (Some g) o) (between f k o (Some c)))
      (λ m. law.times_below _ _))

  -- by whether the row and the column are there
  pub inclusion_commutes :
      Included k bs cs → (d : ℕ) (r c : Option K) (j : ℕ) → slice_get (of_degree k (suc d) bs) j ≡ c →
      after d r c ≡ before d r c
  inclusion_commutes included d None c j e =
      sum_zero f law _ _ (λ h l. zero_times f law _) ∙ sym (sum_zero f law _ _ (λ h l. zero_times f law _))
  inclusion_commutes included d (Some g) None j e =
      sum_zero f law _ _
      (λ h l. ap (f.times _) (same_cell_none k (slice_get (of_degree k (suc d) cs) h)) ∙ times_zero f law _)
      ∙ sym (sum_zero f law _ _
      (λ h l. ap (f.times _) (between_none f k (slice_get (of_degree k d bs) h)) ∙ times_zero f law _))
  inclusion_commutes included d (Some g) (Some c) j e =
      let test = λ (x : K). eqb (k.degree x) (suc d) in
      let fact = λ (P : K → Type 0) (all : AllByRecursion P bs). all_nth P _ j c (all_kept_by test P bs all) e in
      commutes_at d g c (fact (λ x. k.valid x ≡ true) smaller.valid)
      (eqb-true (k.degree c) (suc d) (all_nth (λ x. test x ≡ true) _ j c (kept_by_passes test bs) e))
      (fact (λ b. held k (k.rank b) cs ≡ true) included) (fact (HasFaces k bs) smaller.faces)

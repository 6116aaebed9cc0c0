-- The degrees in an ascending list of valid cells: they follow one another, so each is a segment of the list.
use Rattle.std.proofs.Common.{◌≡◌, ℕ, zero, suc, ◌+◌, ◌<◌, ◌≤◌, Bool, true, false, cond, eqb, ltb, List, [], ◌∷◌, length, filter, take, drop, sym, refl, ap, ◌∙◌, inl, inr, zero-add, add-one, arith}
use Rattle.std.specs.List.{AllByRecursion}
use Rattle.std.proofs.ByRecursion.{All-weaker}
use Rattle.std.proofs.lemmas.List.{nil_from_length}
use Rattle.std.proofs.lemmas.Bool.{cases_lt, cases_order, eq-eqb, ne_eqb, lt-ltb, le-ltb, cond-true, cond-false}
use Rattle.std.proofs.lemmas.Bool.Decides.{nat_tests}
use Rattle.linear.specs.Sums.{total}
use Rattle.cell.specs.Kind.{Kind, IsKind}
use Rattle.index.specs.Closed.{Ascending}
use Rattle.complex.specs.Leaf.{of_degree}
use Rattle.complex.specs.Starts.{below_degree}
use Rattle.complex.proofs.leaf.Columns.{all_always}

module _ {X : Type 0} (p : X → Bool) where
  length_kept_by_cons : (x : X) (xs : List X) → length (filter p (x ∷ xs)) ≡ cond (p x) 1 0 + length (filter p xs)
  length_kept_by_cons x xs =
      elim (p x) as (λ b. length (cond b (x ∷ filter p xs) (filter p xs)) ≡ cond b 1 0 + length (filter p xs))
      [ true ↦ omega arith | false ↦ omega arith ]

  pub length_kept_by_le : (xs : List X) → length (filter p xs) ≤ length xs
  length_kept_by_le [] = omega arith
  length_kept_by_le (x ∷ xs) =
      let one : cond (p x) 1 0 ≤ 1 = elim (p x) as (λ b. cond b 1 0 ≤ 1) [ true ↦ omega arith | false ↦ omega arith ] in
      omega (arith, length_kept_by_cons x xs, length_kept_by_le xs)

  length_kept_by_none : (xs : List X) → AllByRecursion (λ x. p x ≡ false) xs → length (filter p xs) ≡ 0
  length_kept_by_none [] none = refl
  length_kept_by_none (x ∷ xs) none =
      length_kept_by_cons x xs ∙ rw none.0 (zero-add (length (filter p xs)) ∙ length_kept_by_none xs none.1)

module _ {K : Type 0} (k : Kind K) where
  -- each degree starts where the one below it ends
  pub length_below_degree_more :
      (d : ℕ) (cs : List K) →
      length (below_degree k (d + 1) cs) ≡ length (below_degree k d cs) + length (of_degree k d cs)
  length_below_degree_more d [] = omega arith
  length_below_degree_more d (c ∷ cs) =
      let n = k.degree c in
      let one : cond (ltb n (d + 1)) 1 0 ≡ cond (ltb n d) 1 0 + cond (eqb n d) 1 0 = grind (arith, nat_tests) in
      omega (
        arith,
        one,
        length_below_degree_more d cs,
        length_kept_by_cons (λ x. ltb (k.degree x) (d + 1)) c cs,
        length_kept_by_cons (λ x. ltb (k.degree x) d) c cs,
        length_kept_by_cons (λ x. eqb (k.degree x) d) c cs,
      )

  -- all cells below a degree, degree by degree
  pub total_of_degree : (n : ℕ) (cs : List K) → total n (λ d. length (of_degree k d cs)) ≡ length (below_degree k n cs)
  total_of_degree zero cs =
      sym (length_kept_by_none (λ c. ltb (k.degree c) 0) cs
      (all_always (λ c. ltb (k.degree c) 0 ≡ false) cs (λ c. le-ltb (k.degree c) 0 (omega arith))))
  total_of_degree (suc n) cs =
      ap (λ (m : ℕ). m + length (of_degree k n cs)) (total_of_degree n cs) ∙ sym (length_below_degree_more n cs)
      ∙ ap (λ (m : ℕ). length (below_degree k m cs)) (add-one n)

module _ {K : Type 0} (k : Kind K) (kind : IsKind k) (d : ℕ) where
  pub length_of_degree_none :
      (cs : List K) → 3 < d → AllByRecursion (λ c. k.valid c ≡ true) cs → length (of_degree k d cs) ≡ 0
  length_of_degree_none cs high valid =
      length_kept_by_none (λ c. eqb (k.degree c) d) cs
      (All-weaker (λ c. k.valid c ≡ true) (λ c. eqb (k.degree c) d ≡ false)
      (λ c ok. ne_eqb (k.degree c) d (λ e. omega (arith, kind.degree_small c ok))) cs valid)

  -- no later cell has a lower degree
  degrees_rise :
      (c : K) (cs : List K) → k.valid c ≡ true → AllByRecursion (λ e. k.valid e ≡ true) cs →
      AllByRecursion (λ e. k.rank c < k.rank e) cs → AllByRecursion (λ e. k.degree c ≤ k.degree e) cs
  degrees_rise c [] ok valid asc = tt
  degrees_rise c (e ∷ cs) ok valid asc = (
    elim (cases_lt (k.degree e) (k.degree c))
        [ inl l ↦ absurd (omega (arith, asc.0, kind.lower_first e c valid.0 ok l)) | inr h ↦ h ],
    degrees_rise c cs ok valid.1 asc.1,
  )

  -- a first cell, by its degree: what the other cells have below degree d and in it
  module _ (c : K) (cs : List K) (rise : AllByRecursion (λ e. k.degree c ≤ k.degree e) cs) where
    none_below : d ≤ k.degree c → length (below_degree k d cs) ≡ 0
    none_below h =
        length_kept_by_none (λ x. ltb (k.degree x) d) cs
        (All-weaker (λ x. k.degree c ≤ k.degree x) (λ x. ltb (k.degree x) d ≡ false)
        (λ x l. le-ltb (k.degree x) d (omega arith)) cs rise)

    none_of : d < k.degree c → length (of_degree k d cs) ≡ 0
    none_of h =
        length_kept_by_none (λ x. eqb (k.degree x) d) cs
        (All-weaker (λ x. k.degree c ≤ k.degree x) (λ x. eqb (k.degree x) d ≡ false)
        (λ x l. ne_eqb (k.degree x) d (λ e. omega arith)) cs rise)

  module _ (c : K) (cs : List K) where
    of_degree_first : k.degree c ≡ d → of_degree k d (c ∷ cs) ≡ c ∷ of_degree k d cs
    of_degree_first e = cond-true (eqb (k.degree c) d) _ _ (eq-eqb (k.degree c) d e)

    of_degree_skip : (k.degree c ≡ d → ⊥) → of_degree k d (c ∷ cs) ≡ of_degree k d cs
    of_degree_skip n = cond-false (eqb (k.degree c) d) _ _ (ne_eqb (k.degree c) d n)

    below_degree_first : k.degree c < d → length (below_degree k d (c ∷ cs)) ≡ suc (length (below_degree k d cs))
    below_degree_first l = ap length (cond-true (ltb (k.degree c) d) _ _ (lt-ltb (k.degree c) d l))

    below_degree_skip : d ≤ k.degree c → length (below_degree k d (c ∷ cs)) ≡ length (below_degree k d cs)
    below_degree_skip h = ap length (cond-false (ltb (k.degree c) d) _ _ (le-ltb (k.degree c) d h))

  -- the cells of degree d stand one after the other, from the first place after those of the lower degrees
  pub of_degree_segment :
      (cs : List K) → AllByRecursion (λ c. k.valid c ≡ true) cs → Ascending k cs →
      take (length (of_degree k d cs)) (drop (length (below_degree k d cs)) cs) ≡ of_degree k d cs
  of_degree_segment [] valid asc = refl
  of_degree_segment (c ∷ cs) valid asc =
      let rise = degrees_rise c cs valid.0 valid.1 asc.0 in
      let rest = of_degree_segment cs valid.1 asc.1 in
      elim (cases_order (k.degree c) d) [
        | inl e ↦
            (let none = none_below c cs rise (omega arith) in
            rw (of_degree_first c cs e, below_degree_skip c cs (omega arith), none)
            (ap (λ xs. c ∷ xs) (rw none at rest)))
        | inr (inl l) ↦ rw (of_degree_skip c cs (λ e. omega arith), below_degree_first c cs l) rest
        | inr (inr l) ↦
            (let none = nil_from_length (of_degree k d cs) (none_of c cs rise l) in
            rw (of_degree_skip c cs (λ e. omega arith), none) refl)
      ]

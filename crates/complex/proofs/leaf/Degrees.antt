-- The cells of one degree in an ascending list of valid cells.
use Rattle.std.proofs.Common.{◌≡◌, ℕ, zero, suc, ◌<◌, Bool, true, false, cond, eqb, List, [], ◌∷◌, Some, filter, sym, refl, ap, ◌∙◌, subst, inl, inr, arith}
use Rattle.std.specs.List.{AllByRecursion, slice_get}
use Rattle.std.proofs.ByRecursion.{all_kept_by}
use Rattle.std.proofs.lemmas.Bool.{cases_eq, eq-eqb, ne_eqb, cond-true, cond-false}
use Rattle.cell.specs.Kind.{Kind, IsKind}
use Rattle.index.specs.Closed.{held, Ascending}

-- a fact of every member is a fact of the one at a place
pub all_nth : {X : Type 0} (P : X → Type 0) (xs : List X) (i : ℕ) (x : X) → AllByRecursion P xs → slice_get xs i ≡ Some x → P x
all_nth P [] i x h e = let z : ◌≡◌ {A = ℕ} 0 1 = cc in absurd (omega arith)
all_nth P (y ∷ xs) zero x h e = let same : y ≡ x = cc in subst P same h.0
all_nth P (y ∷ xs) (suc i) x h e = all_nth P xs i x h.1 e

module _ {K : Type 0} (k : Kind K) where
  pub ascending_kept_by : (p : K → Bool) (cs : List K) → Ascending k cs → Ascending k (filter p cs)
  ascending_kept_by p [] asc = tt
  ascending_kept_by p (c ∷ cs) asc =
      let rest = ascending_kept_by p cs asc.1 in
      elim (p c) as (λ b. Ascending k (cond b (c ∷ filter p cs) (filter p cs)))
      [ true ↦ (all_kept_by p (λ d. k.rank c < k.rank d) cs asc.0, rest) | false ↦ rest ]

  held_kept : (b : Bool) (c : K) (ds : List K) (r : ℕ) → held k r ds ≡ true → held k r (cond b (c ∷ ds) ds) ≡ true
  held_kept false c ds r h = h
  held_kept true c ds r h =
      elim (eqb (k.rank c) r) as (λ t. cond t true (held k r ds) ≡ true) [ true ↦ refl | false ↦ h ]

  -- a valid cell that stands in a list of valid cells stands among those of its degree
  pub held_of_degree :
      (kind : IsKind k) (x : K) (d : ℕ) (cs : List K) → k.valid x ≡ true → k.degree x ≡ d →
      AllByRecursion (λ c. k.valid c ≡ true) cs → held k (k.rank x) cs ≡ true →
      held k (k.rank x) (filter (λ c. eqb (k.degree c) d) cs) ≡ true
  held_of_degree kind x d [] ok deg valid there = there
  held_of_degree kind x d (c ∷ cs) ok deg valid there =
      let r = k.rank x in let kept = filter (λ e. eqb (k.degree e) d) cs in
      elim (cases_eq (k.rank c) r) [
        | inl e ↦
            (let same : k.degree c ≡ d = ap k.degree (kind.apart c x valid.0 ok e) ∙ deg in
            subst (λ (b : Bool). held k r (cond b (c ∷ kept) kept) ≡ true) (sym (eq-eqb (k.degree c) d same))
            (cond-true (eqb (k.rank c) r) true (held k r kept) (eq-eqb (k.rank c) r e)))
        | inr n ↦
            held_kept (eqb (k.degree c) d) c kept r
            (held_of_degree kind x d cs ok deg valid.1
            (sym (cond-false (eqb (k.rank c) r) true (held k r cs) (ne_eqb (k.rank c) r n)) ∙ there))
      ]

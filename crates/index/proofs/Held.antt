-- What stands in a list: by places, in a longer list, and before a cell of an ascending list.
use Rattle.std.proofs.Common.{◌≡◌, ℕ, zero, suc, ◌<◌, true, false, cond, eqb, List, [], ◌∷◌, ◌++◌, length, get_or, refl, ◌∙◌, arith}
use Rattle.std.specs.List.{AllByRecursion}
use Rattle.std.proofs.ByRecursion.{All-weaker}
use Rattle.std.proofs.lemmas.Bool.{eq-eqb, ne_eqb, cond-true, cond-false, both_ways}
use Rattle.cell.specs.Kind.{Kind}
use Rattle.cell.specs.declared.Face.{Face}
use Rattle.index.specs.Closed.{held, Ascending}
use Rattle.index.specs.Test.{all_held}

module _ {K : Type 0} (k : Kind K) where
  -- a cell of the rank r stands in the list where one is read
  pub held_get_or : (cs : List K) (i : ℕ) (d : K) (r : ℕ) → i < length cs → k.rank (get_or cs i d) ≡ r → held k r cs ≡ true
  held_get_or [] i d r w e = absurd (omega arith)
  held_get_or (c ∷ cs) zero d r w e = cond-true (eqb (k.rank c) r) true (held k r cs) (eq-eqb (k.rank c) r e)
  held_get_or (c ∷ cs) (suc i) d r w e =
      let rest = held_get_or cs i d r (omega arith) e in
      elim (eqb (k.rank c) r) as (λ b. cond b true (held k r cs) ≡ true) [ true ↦ refl | false ↦ rest ]

  -- no cell of the rank r stands in the list where none is read
  pub held_none :
      (cs : List K) (d : K) (r : ℕ) → ((i : ℕ) → i < length cs → k.rank (get_or cs i d) ≡ r → ⊥) → held k r cs ≡ false
  held_none [] d r h = refl
  held_none (c ∷ cs) d r h =
      cond-false (eqb (k.rank c) r) true (held k r cs) (ne_eqb (k.rank c) r (h 0 (omega arith)))
      ∙ held_none cs d r (λ i w. h (suc i) (omega arith))

  -- what stands in a list stands in each longer one
  pub held_append : (cs ds : List K) (r : ℕ) → held k r cs ≡ true → held k r (cs ++ ds) ≡ true
  held_append [] ds r h = absurd (both_ways false refl h)
  held_append (c ∷ cs) ds r h =
      elim (eqb (k.rank c) r) as (λ b. cond b true (held k r cs) ≡ true → cond b true (held k r (cs ++ ds)) ≡ true)
      [ true ↦ λ _. refl | false ↦ held_append cs ds r ] h

  -- nothing stands below all cells of a list
  held_below : (cs : List K) (r : ℕ) → AllByRecursion (λ d. r < k.rank d) cs → held k r cs ≡ false
  held_below [] r h = refl
  held_below (c ∷ cs) r h =
      cond-false (eqb (k.rank c) r) true (held k r cs) (ne_eqb (k.rank c) r (λ e. omega (arith, h.0)))
      ∙ held_below cs r h.1

  -- what stands in an ascending list below one of its cells stands before that cell
  pub held_before :
      (before after : List K) (c : K) (r : ℕ) → Ascending k (before ++ c ∷ after) → r < k.rank c →
      held k r (before ++ c ∷ after) ≡ true → held k r before ≡ true
  held_before [] after c r asc l h =
      let above = All-weaker (λ d. k.rank c < k.rank d) (λ d. r < k.rank d) (λ d m. omega arith) after asc.0 in
      absurd (both_ways (held k r (c ∷ after)) (held_below (c ∷ after) r (l, above)) h)
  held_before (b ∷ before) after c r asc l h =
      elim (eqb (k.rank b) r)
      as (λ t. cond t true (held k r (before ++ c ∷ after)) ≡ true → cond t true (held k r before) ≡ true)
      [ true ↦ λ _. refl | false ↦ held_before before after c r asc.1 l ] h

  -- the test of a list of faces, and what it says of each
  pub all_from_all_held :
      (cs : List K) (fs : List (Face K)) → all_held k cs fs ≡ true → AllByRecursion (λ f. held k (k.rank f.cell) cs ≡ true) fs
  all_from_all_held cs [] h = tt
  all_from_all_held cs (f ∷ fs) h =
      elim (held k (k.rank f.cell) cs)
      as (λ b. cond b (all_held k cs fs) false ≡ true → (b ≡ true) × AllByRecursion (λ x. held k (k.rank x.cell) cs ≡ true) fs)
      [ true ↦ λ e. (refl, all_from_all_held cs fs e) | false ↦ λ e. absurd (both_ways false refl e) ] h

  pub all_held_from_all :
      (cs : List K) (fs : List (Face K)) → AllByRecursion (λ f. held k (k.rank f.cell) cs ≡ true) fs → all_held k cs fs ≡ true
  all_held_from_all cs [] h = refl
  all_held_from_all cs (f ∷ fs) h =
      cond-true (held k (k.rank f.cell) cs) (all_held k cs fs) false h.0 ∙ all_held_from_all cs fs h.1

-- One cell more that is counted; and the sign of a cell among faces, as a search finds it: the faces by their numbers,
-- and the first that is the cell.
use Rattle.std.proofs.Common.{◌≡◌, ℕ, zero, suc, ◌+◌, ◌<◌, ◌≤◌, cond, eqb, ltb, Bool, true, false, List, [], ◌∷◌, length, take, drop, Some, None, Option, MatchOption, sym, ap, add-one, ◌∙◌, inl, inr, arith}
use Rattle.std.specs.List.{slice_get, filter_map, range_with_len, find}
use Rattle.std.specs.Option.{option_map}
use Rattle.std.proofs.lemmas.List.{take_all, drop_more, drop_all}
use Rattle.std.proofs.lemmas.Option.{slice_get_cases}
use Rattle.std.proofs.lemmas.Iterator.Adapters.{option_map_id}
use Rattle.field.specs.Codes.{Codes}
use Rattle.cell.specs.declared.Face.{Face}
use Rattle.cell.specs.Kind.{Kind}
use Rattle.complex.specs.Leaf.{code, incidence}
use Rattle.complex.specs.LeafSteps.{one_below}
use Rattle.complex.specs.Starts.{below_degree}

module _ {K : Type 0} (k : Kind K) where
  pub one_below_le : (d : ℕ) (o : Option K) → one_below k d o ≤ 1
  one_below_le d None = omega arith
  one_below_le d (Some c) =
      elim (ltb (k.degree c) d) as (λ b. cond b 1 0 ≤ 1) [ true ↦ omega arith | false ↦ omega arith ]

  length_push_if :
      (b : Bool) (c : K) (xs ys : List K) (n : ℕ) → length xs ≡ length ys + n →
      length (cond b (c ∷ xs) xs) ≡ length (cond b (c ∷ ys) ys) + n
  length_push_if true c xs ys n e = omega arith
  length_push_if false c xs ys n e = e

  -- one cell more is counted
  pub length_below_take :
      (d : ℕ) (cs : List K) (i : ℕ) → i < length cs →
      length (below_degree k d (take (i + 1) cs)) ≡ length (below_degree k d (take i cs)) + one_below k d (slice_get cs i)
  length_below_take d [] i w = absurd (omega arith)
  length_below_take d (c ∷ cs) zero w =
      elim (ltb (k.degree c) d) as (λ b. length (cond b (c ∷ []) []) ≡ 0 + cond b 1 0)
      [ true ↦ omega arith | false ↦ omega arith ]
  length_below_take d (c ∷ cs) (suc i) w =
      rw (add-one (suc i))
      (length_push_if (ltb (k.degree c) d) c (below_degree k d (take (suc i) cs)) (below_degree k d (take i cs))
      (one_below k d (slice_get cs i)) (rw (add-one i) at (length_below_take d cs i (omega arith))))

  pub length_below_all :
      (d : ℕ) (cs : List K) (i n : ℕ) → n ≡ length (below_degree k d (take i cs)) → length cs ≤ i →
      n ≡ length (below_degree k d cs)
  length_below_all d cs i n e w = e ∙ ap (λ xs. length (below_degree k d xs)) (take_all i cs w)

-- the elements with the numbers from i on are the rest of the list
elements_from :
    {X : Type 0} (xs : List X) (i n : ℕ) → i + n ≡ length xs →
    filter_map (slice_get xs) (range_with_len i n) ≡ drop i xs
elements_from xs i zero e = sym (drop_all i xs (omega arith))
elements_from xs i (suc n) e =
    elim (slice_get_cases xs i).1 [
      | inl (x, w, at, is) ↦
          rw (at, drop_more xs i x w, is) (ap (λ ys. x ∷ ys) (elements_from xs (i + 1) n (omega arith)))
      | inr h ↦ absurd (omega (arith, h.0))
    ]

module _ {K : Type 0} (f : Codes) (k : Kind K) (g : K) where
  abbrev pub is_cell : Face K → Bool
  is_cell x = eqb (k.rank x.cell) (k.rank g)

  first_decides :
      (xs : List (Face K)) (r : ℕ) → MatchOption (find is_cell xs) (r ≡ 0) (λ x. r ≡ code f x.sign) →
      r ≡ incidence f k g xs
  first_decides [] r h = h
  first_decides (x ∷ xs) r h =
      elim (is_cell x)
      as (λ b. MatchOption (cond b (Some x) (find is_cell xs)) (r ≡ 0) (λ y. r ≡ code f y.sign) →
      r ≡ cond b (code f x.sign) (incidence f k g xs))
      [ true ↦ λ e. e | false ↦ first_decides xs r ] h

  -- n faces are looked through, and the first one that is g decides
  pub incidence_found :
      (xs : List (Face K)) (n r : ℕ) (first : Option (Face K)) → n ≡ length xs →
      option_map (λ x. x) first ≡ find is_cell (filter_map (slice_get xs) (range_with_len 0 n)) →
      MatchOption first (r ≡ 0) (λ x. r ≡ code f x.sign) → r ≡ incidence f k g xs
  incidence_found xs n r first e found h =
      let all = elements_from xs 0 n (omega arith) in
      first_decides xs r (rw (sym (sym (option_map_id first) ∙ found ∙ ap (find is_cell) all)) h)

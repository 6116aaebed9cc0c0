-- The steps of the test of one cell: one face more, and the last cell before it.
use Rattle.std.proofs.Common.{◌≡◌, ℕ, ◌+◌, ◌-◌, ◌≤◌, true, false, cond, ltb, List, [], ◌∷◌, length, drop, Some, None, MatchOption, sym, refl, ap, ◌∙◌, arith}
use native.Mathlib.Numerals.{unary_clauses}
use Rattle.std.specs.List.{slice_get}
use Rattle.std.proofs.lemmas.List.{at_drop_more, at_drop_all}
use Rattle.std.proofs.lemmas.Option.{slice_get_cases, slice_get_within, get_or_from_slice_get, MatchOption-at_some, MatchOption-at_none}
use Rattle.cell.specs.Kind.{Kind}
use Rattle.cell.specs.declared.Face.{Face}
use Rattle.index.specs.Closed.{held}
use Rattle.index.specs.Test.{above_last, all_held}

module _ {K : Type 0} (k : Kind K) (before : List K) (fs : List (Face K)) (f : ℕ) where
  module _ (x : Face K) (at : slice_get fs f ≡ Some x) where
    all_held_drop :
        all_held k before (drop f fs) ≡ cond (held k (k.rank x.cell) before) (all_held k before (drop (f + 1) fs)) false
    all_held_drop =
        at_drop_more (all_held k before) fs f x (slice_get_within fs f x at)
        ∙ ap (λ y. all_held k before (y ∷ drop (f + 1) fs)) (get_or_from_slice_get fs f x x at)

    -- where the face x stands in the list, the faces after it decide
    pub all_held_more :
        held k (k.rank x.cell) before ≡ true → all_held k before (drop (f + 1) fs) ≡ all_held k before (drop f fs)
    all_held_more there = sym (all_held_drop ∙ rw there)

    pub all_held_stop : held k (k.rank x.cell) before ≡ false → false ≡ all_held k before (drop f fs)
    all_held_stop missing = sym (all_held_drop ∙ rw missing)

  -- past the last face nothing is left to decide
  pub all_held_past : slice_get fs f ≡ None → all_held k before (drop (f + 1) fs) ≡ all_held k before (drop f fs)
  all_held_past none =
      let cases = slice_get_cases fs f in
      let past : length fs ≤ f = grind arith in
      at_drop_all (all_held k before) fs (f + 1) (omega arith) ∙ sym (at_drop_all (all_held k before) fs f past)

pub ruleset one_face = (all_held_more, all_held_past, all_held_stop)

module _ {K : Type 0} (k : Kind K) where
  -- c is compared with the cell at the last place, if there is one
  above_last_at_end :
      (before : List K) (c : K) →
      MatchOption (slice_get before (length before - 1)) (above_last k before c ≡ true)
      (λ b. above_last k before c ≡ ltb (k.rank b) (k.rank c))
  above_last_at_end [] c = refl
  above_last_at_end (b ∷ []) c = refl
  above_last_at_end (b ∷ x ∷ before) c =
      let rest = above_last_at_end (x ∷ before) c in simp unary_clauses (simp unary_clauses at rest)

  module _ (before : List K) (c : K) where
    pub above_last_some :
        (b : K) → Some b ≡ slice_get before (length before - 1) → ltb (k.rank b) (k.rank c) ≡ above_last k before c
    above_last_some b e = sym (MatchOption-at_some _ _ b (sym e) (above_last_at_end before c))

    pub above_last_none : None ≡ slice_get before (length before - 1) → true ≡ above_last k before c
    above_last_none e = sym (MatchOption-at_none _ _ (sym e) (above_last_at_end before c))

pub ruleset last_cell = (above_last_some, above_last_none)

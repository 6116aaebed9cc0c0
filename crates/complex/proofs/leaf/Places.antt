-- The places of the cells of a sound leaf, from the places at which the degrees start.
use Rattle.std.proofs.Common.{◌≡◌, ℕ, ◌+◌, ◌<◌, ◌≤◌, ltb, List, length, get_or, take, drop, sym, ap, ◌∙◌, inl, inr, length-drop, arith}
use Rattle.std.specs.List.{slice_get}
use Rattle.std.proofs.lemmas.List.{length-take-le, get_or-take, get_or-drop}
use Rattle.std.proofs.lemmas.Option.{slice_get_cases, slice_get_read}
use Rattle.std.proofs.lemmas.Bool.{cases_lt}
use Rattle.cell.specs.Kind.{Kind, IsKind}
use Rattle.complex.specs.Leaf.{of_degree}
use Rattle.complex.specs.Starts.{Sound}
use Rattle.complex.proofs.leaf.Segments.{length_kept_by_le, length_below_degree_more}
use Rattle.complex.proofs.leaf.Segments.{length_of_degree_none, of_degree_segment}

-- where a cell of a degree stands in the list
pub record Place {K : Type 0} (k : Kind K) (cs : List K) (ps : List ℕ) (d i : ℕ) : Type 0 where
  pub low : d < 4
  pub small : get_or ps d 0 + i ≤ 1024
  pub is : slice_get (of_degree k d cs) i ≡ slice_get cs (get_or ps d 0 + i)

-- the element i of the n elements from the place m on
slice_get_segment :
    {X : Type 0} (xs : List X) (m n i : ℕ) → i < n → m + n ≤ length xs →
    slice_get (take n (drop m xs)) i ≡ slice_get xs (m + i)
slice_get_segment xs m n i w all =
    elim (slice_get_cases xs (m + i)).1 [
      | inl (x, l, at, is) ↦
          (let long = length-take-le n (drop m xs) (simp length-drop (omega arith)) in
          slice_get_read (take n (drop m xs)) n i x (sym long) w
          (sym (get_or-take n (drop m xs) i x w ∙ get_or-drop m xs i x ∙ is))
          ∙ sym at)
      | inr h ↦ absurd (omega (arith, h.0))
    ]

module _ {K : Type 0} (k : Kind K) (kind : IsKind k) (cs : List K) (ps : List ℕ) (sound : Sound k cs ps) (d : ℕ) where
  -- each degree ends where the next one starts
  pub starts_more : d < 4 → get_or ps (d + 1) 0 ≡ get_or ps d 0 + length (of_degree k d cs)
  starts_more low =
      let start = sound.starts.at d (omega arith) in let end = sound.starts.at (d + 1) (omega arith) in
      omega (arith, start, end, length_below_degree_more k d cs)

  pub none_above : 4 ≤ d → length (of_degree k d cs) ≡ 0
  none_above high = length_of_degree_none k kind d cs (omega arith) sound.closed.valid

  pub place : (i : ℕ) → i < length (of_degree k d cs) → Place k cs ps d i
  place i w =
      let low : d < 4 = elim (cases_lt d 4) [ inl l ↦ l | inr h ↦ absurd (omega (arith, none_above h)) ] in
      let start = sound.starts.at d (omega arith) in
      let end = sound.starts.at (d + 1) (omega arith) in
      let most = length_kept_by_le (λ c. ltb (k.degree c) (d + 1)) cs in
      let more = starts_more low in
      let segment = of_degree_segment k kind d cs sound.closed.valid sound.closed.ascending in
      record {
        low = low;
        small = omega (arith, sound.closed.few);
        is =
            ap (λ xs. slice_get xs i) (sym segment) ∙ slice_get_segment cs _ _ i w (omega arith)
            ∙ ap (λ (m : ℕ). slice_get cs (m + i)) (sym start);
      }

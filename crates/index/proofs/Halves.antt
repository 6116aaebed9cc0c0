-- The search by halving: what is known of the cells outside the part that is left, and the answers.
--
-- What is known outside holds only if the list ascends; the part that is left lies within the list anyway.
use Rattle.std.proofs.Common.{◌≡◌, ℕ, ◌+◌, ◌<◌, ◌≤◌, true, List, length, get_or, Some, None, sym, ap, ◌∙◌, inl, inr, arith}
use Rattle.std.proofs.ByRecursion.{All-get_or}
use Rattle.std.proofs.lemmas.List.{get_or_default}
use Rattle.std.proofs.lemmas.Option.{slice_get-get_or}
use Rattle.std.proofs.lemmas.Bool.{cases_order}
use Rattle.cell.specs.Kind.{Kind, IsKind}
use Rattle.index.specs.Closed.{Ascending}
use Rattle.index.specs.Find.{Finds}
use Rattle.index.proofs.Ascents.{rank_get_or_lt}
use Rattle.index.proofs.Held.{held_get_or, held_none}

-- a cell of the rank wanted can stand only from low on and below high
pub record Between {K : Type 0} (k : Kind K) (cs : List K) (c : K) (want low high : ℕ) : Type 0 where
  pub order : low ≤ high
  pub within : high ≤ length cs
  pub below : Ascending k cs → (i : ℕ) → i < low → k.rank (get_or cs i c) < want
  pub above : Ascending k cs → (i : ℕ) → high ≤ i → i < length cs → want < k.rank (get_or cs i c)

module _ {K : Type 0} (k : Kind K) (cs : List K) (c : K) (want : ℕ) where
  pub between_none : Between k cs c want 0 (length cs)
  between_none = record {
    order = omega arith;
    within = omega arith;
    below = λ asc i l. absurd (omega arith);
    above = λ asc i l w. absurd (omega arith);
  }

  -- a turn looks at the middle and has its rank, read at some default e
  module _ (low high mid have : ℕ) (e : K) (b : Between k cs c want low high) (from : low ≤ mid) (to : mid < high)
      (read : have ≡ k.rank (get_or cs mid e)) where
    rank_mid : k.rank (get_or cs mid c) ≡ have
    rank_mid = ap k.rank (get_or_default cs mid c e (omega (arith, b.within))) ∙ sym read

    pub between_upper : have < want → Between k cs c want (mid + 1) high
    between_upper h = record {
      order = omega arith;
      within = b.within;
      below = λ asc i l. elim (cases_order i mid) [
        | inl s ↦ omega (arith, rank_mid, ap (λ (n : ℕ). k.rank (get_or cs n c)) s)
        | inr (inl s) ↦ omega (arith, rank_mid, rank_get_or_lt k cs i mid c asc s (omega (arith, b.within)))
        | inr (inr s) ↦ absurd (omega arith)
      ];
      above = b.above;
    }

    pub between_lower : want < have → Between k cs c want low mid
    between_lower h = record {
      order = from;
      within = omega (arith, b.within);
      below = b.below;
      above = λ asc i l w. elim (cases_order i mid) [
        | inl s ↦ omega (arith, rank_mid, ap (λ (n : ℕ). k.rank (get_or cs n c)) s)
        | inr (inl s) ↦ absurd (omega arith)
        | inr (inr s) ↦ omega (arith, rank_mid, rank_get_or_lt k cs mid i c asc s w)
      ];
    }

    pub rank_from_mid : have ≡ want → (mid < length cs) × (k.rank (get_or cs mid c) ≡ want)
    rank_from_mid h = (omega (arith, b.within), rank_mid ∙ h)

module _ {K : Type 0} (k : Kind K) (law : IsKind k) (cs : List K) (c : K) (want : ℕ) (is : want ≡ k.rank c) where
  pub finds_some : (mid : ℕ) → (mid < length cs) × (k.rank (get_or cs mid c) ≡ want) → Finds k cs c (Some mid)
  finds_some mid h =
      let e : k.rank (get_or cs mid c) ≡ k.rank c = h.1 ∙ is in
      record {
        found = (h.0, e);
        same = λ valid all.
            slice_get-get_or cs mid c h.0
            ∙ ap Some (law.apart (get_or cs mid c) c (All-get_or (λ d. k.valid d ≡ true) cs mid c h.0 all) valid e);
        exact = λ _. sym (held_get_or k cs mid c (k.rank c) h.0 e);
      }

  pub finds_none : (low high : ℕ) → Between k cs c want low high → high ≤ low → Finds k cs c None
  finds_none low high b h = record {
    found = tt;
    same = λ _ _. tt;
    exact = λ asc. sym (held_none k cs c (k.rank c) (λ i w e. elim (cases_order i low) [
      | inl s ↦ omega (arith, b.above asc i (omega arith) w)
      | inr (inl s) ↦ omega (arith, b.below asc i s)
      | inr (inr s) ↦ omega (arith, b.above asc i (omega arith) w)
    ]));
  }

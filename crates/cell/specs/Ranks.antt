-- Kinds whose rank is the numeral of the degree and then some digits of the cell.
--
-- Cells of one degree have equally many digits, and each is told by them; lower degrees have lower ranks.
use Rattle.std.specs.Prelude.{◌≡◌, ℕ, ◌<◌, true, ◌↔◌, List, ◌∷◌, length}
use Rattle.std.proofs.Common.{sym, ap, ◌∙◌, inl, inr, arith}
use Rattle.std.proofs.lemmas.Bool.{cases_order}
use Rattle.cell.specs.Digits.{numeral, Before}
use Rattle.cell.specs.Kind.{Kind}
use Rattle.cell.specs.Numerals.{Digits, numeral_ascends, numeral_equal}

-- the rank of a kind is such a numeral, and told gives the cell by its digits
pub record Ranked {K : Type 0} (k : Kind K) (radix : ℕ) (digits : K → List ℕ) (told : List ℕ → K) : Type 0 where
  pub rank : (c : K) → k.rank c ≡ numeral radix (k.degree c) (digits c)
  pub small : (c : K) → k.valid c ≡ true → Digits radix (digits c)
  pub sized : (c d : K) → k.degree c ≡ k.degree d → length (digits c) ≡ length (digits d)
  pub cell : (c : K) → told (digits c) ≡ c
  pub lower_first :
      (c d : K) → k.valid c ≡ true → k.valid d ≡ true → k.degree c < k.degree d → k.rank c < k.rank d

module _ {K : Type 0} (k : Kind K) (radix : ℕ) (digits : K → List ℕ) (told : List ℕ → K)
    (ranked : Ranked k radix digits told) (c d : K) (v : k.valid c ≡ true) (w : k.valid d ≡ true) where
  -- of two cells of one degree
  ascends_level :
      k.degree c ≡ k.degree d → (k.rank c < k.rank d) ↔ Before (k.degree c ∷ digits c) (k.degree d ∷ digits d)
  ascends_level e =
      rw (ranked.rank c, ranked.rank d) (numeral_ascends radix (k.degree c) (k.degree d) (digits c) (digits d)
      (ranked.small c v) (ranked.small d w) (ranked.sized c d e))

  pub rank_ascends : (k.rank c < k.rank d) ↔ Before (k.degree c ∷ digits c) (k.degree d ∷ digits d)
  rank_ascends =
      elim (cases_order (k.degree c) (k.degree d)) [
        | inl e ↦ ascends_level e
        | inr (inl l) ↦ (λ _. inl l, λ _. ranked.lower_first c d v w l)
        | inr (inr l) ↦ (
          λ h. absurd (omega (arith, ranked.lower_first d c w v l)),
          λ b. elim b [ inl h ↦ absurd (omega arith) | inr h ↦ absurd (omega arith) ],
        )
      ]

  digits_equal : k.degree c ≡ k.degree d → k.rank c ≡ k.rank d → digits c ≡ digits d
  digits_equal q e =
      (numeral_equal radix (k.degree c) (k.degree d) (digits c) (digits d) (ranked.small c v) (ranked.small d w)
      (ranked.sized c d q) (sym (ranked.rank c) ∙ e ∙ ranked.rank d)).1

  pub rank_apart : k.rank c ≡ k.rank d → c ≡ d
  rank_apart e =
      elim (cases_order (k.degree c) (k.degree d)) [
        | inl q ↦ sym (ranked.cell c) ∙ ap told (digits_equal q e) ∙ ranked.cell d
        | inr (inl l) ↦ absurd (omega (arith, ranked.lower_first c d v w l))
        | inr (inr l) ↦ absurd (omega (arith, ranked.lower_first d c w v l))
      ]

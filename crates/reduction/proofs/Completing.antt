-- From every reduction cancels lead to one with D zero.
use Rattle.std.proofs.Common.{◌≡◌, ℕ, zero, suc, ◌-◌, ◌<◌, ◌≤◌, ◌⊎◌, Some, sym, ◌∙◌, inl, inr, le_refl, mod-eq_of_lt, arith}
use native.Mathlib.Decide.{dec_lt}
use Rattle.field.specs.Codes.{Codes, IsField}
use Rattle.linear.specs.Complexes.{Meaning, IsComplex}
use Rattle.reduction.specs.Matrices.{IsZero}
use Rattle.reduction.specs.Reductions.{State, IsReduction}
use Rattle.reduction.specs.Cancelling.{cancelled, Cancels, none, more, live_count}
use Rattle.reduction.specs.Laws.{CancelsComplete}
use Rattle.reduction.proofs.Inverting.{invertible}
use Rattle.reduction.proofs.Searching.{some_or_all}
use Rattle.reduction.proofs.Cancelling.{cancelling_keeps}
use Rattle.reduction.proofs.Runs.{live_count_less}

module _ (f : Codes) (law : IsField f) (m : Meaning) (complex : IsComplex f m) (s : State) (r : IsReduction f m s) where
  -- an entry of D with an inverse
  abbrev HasPivot : ℕ → ℕ → ℕ → Type 0
  HasPivot k b a = (v : ℕ) × (f.inverse (s.D k b a) ≡ Some v)

  pivot_or_zero : (k b a : ℕ) → HasPivot k b a ⊎ (s.D k b a ≡ 0)
  pivot_or_zero k b a = elim (invertible f law (s.D k b a)) [
    | inl p ↦ inl p
    | inr z ↦ inr (sym (mod-eq_of_lt ((r.shape.D_shape k).below b a)) ∙ z)
  ]

  abbrev InRow : ℕ → ℕ → Type 0
  InRow k b = (a : ℕ) × (a < m.dim k) × HasPivot k b a

  abbrev InDegree : ℕ → Type 0
  InDegree k = (b : ℕ) × (b < m.dim (k - 1)) × InRow k b

  abbrev InState : Type 0
  InState = (k : ℕ) × (k < suc m.top) × InDegree k

  found_in_degree : (k : ℕ) → InDegree k ⊎ ((b : ℕ) → b < m.dim (k - 1) → (a : ℕ) → a < m.dim k → s.D k b a ≡ 0)
  found_in_degree k = some_or_all (InRow k) (λ b. (a : ℕ) → a < m.dim k → s.D k b a ≡ 0) (m.dim (k - 1))
      (λ b _. some_or_all (HasPivot k b) (λ a. s.D k b a ≡ 0) (m.dim k) (λ a _. pivot_or_zero k b a))

  -- zero at all cells is zero
  zero_degree : (k : ℕ) → ((b : ℕ) → b < m.dim (k - 1) → (a : ℕ) → a < m.dim k → s.D k b a ≡ 0) → IsZero (s.D k)
  zero_degree k z b a = elim (dec_lt b (m.dim (k - 1))) [
    | no past ↦ (r.shape.D_shape k).past_rows b a (omega arith)
    | yes row ↦ elim (dec_lt a (m.dim k)) [
      | no past ↦ (r.shape.D_shape k).past_columns b a (omega arith)
      | yes column ↦ z b row a column
    ]
  ]

  pub found_or_zero : InState ⊎ ((k : ℕ) → IsZero (s.D k))
  found_or_zero = by_search
      (some_or_all InDegree (λ k. IsZero (s.D k)) (suc m.top) (λ k _. by_degree k (found_in_degree k))) where
        by_degree : (k : ℕ) → InDegree k ⊎ ((b : ℕ) → b < m.dim (k - 1) → (a : ℕ) → a < m.dim k → s.D k b a ≡ 0) →
            InDegree k ⊎ IsZero (s.D k)
        by_degree k (inl p) = inl p
        by_degree k (inr z) = inr (zero_degree k z)

        by_search : InState ⊎ ((k : ℕ) → k < suc m.top → IsZero (s.D k)) → InState ⊎ ((k : ℕ) → IsZero (s.D k))
        by_search (inl p) = inl p
        by_search (inr z) = inr (λ k. elim (dec_lt m.top k) [
          | yes above ↦ zero_degree k (λ b _ a l. let none : m.dim k ≡ 0 = complex.above_top k above in
              absurd (omega arith))
          | no below ↦ z k (omega arith)
        ])

-- with a bound on the live cells
complete : (f : Codes) → IsField f → (m : Meaning) → IsComplex f m → (c : ℕ) (s : State) → IsReduction f m s →
    live_count m s ≤ c → (n : ℕ) × (t : State) × Cancels f n s t × ((k : ℕ) → IsZero (t.D k))
complete f law m complex zero s r l = elim (found_or_zero f law m complex s r) [
  | inr z ↦ (0, s, none, z)
  | inl (k, lk, (b, lb, (a, la, (v, inverse)))) ↦
      (let two = live_count_less f law m complex s r k b a v inverse in absurd (omega arith))
]
complete f law m complex (suc c) s r l = elim (found_or_zero f law m complex s r) [
  | inr z ↦ (0, s, none, z)
  | inl (k, lk, (b, lb, (a, la, (v, inverse)))) ↦
      (let two = live_count_less f law m complex s r k b a v inverse in
      let (n, t, run, z) = complete f law m complex c (cancelled f k b a v s)
      (cancelling_keeps f m s k b a v law complex r inverse) (omega arith) in
      (suc n, t, more k b a v inverse run, z))
]

pub cancels_complete : CancelsComplete
cancels_complete f m s law complex r = complete f law m complex (live_count m s) s r (le_refl (live_count m s))

-- A number below a bound with one property, or another property of all of them.
use Rattle.std.proofs.Common.{ℕ, zero, suc, ◌<◌, ◌⊎◌, sym, subst, inl, inr, arith}
use native.Mathlib.Decide.{ℕ_discrete}

pub some_or_all : (P Q : ℕ → Type 0) (n : ℕ) → ((i : ℕ) → i < n → P i ⊎ Q i) →
    ((i : ℕ) × (i < n) × P i) ⊎ ((i : ℕ) → i < n → Q i)
some_or_all P Q zero each = inr (λ i l. absurd (omega arith))
some_or_all P Q (suc n) each =
    by_last (some_or_all P Q n (λ i l. each i (omega arith))) (each n (omega arith)) where
      by_last : ((i : ℕ) × (i < n) × P i) ⊎ ((i : ℕ) → i < n → Q i) → P n ⊎ Q n →
          ((i : ℕ) × (i < suc n) × P i) ⊎ ((i : ℕ) → i < suc n → Q i)
      by_last (inl (i, l, p)) last = inl (i, omega arith, p)
      by_last (inr all) (inl p) = inl (n, omega arith, p)
      by_last (inr all) (inr q) = inr (λ i l. elim (ℕ_discrete i n) [
        | yes here ↦ subst Q (sym here) q
        | no other ↦ all i (omega arith)
      ])

-- The place of a number among blocks that lie one after another: it is found, and is the only one.
use Rattle.std.proofs.Common.{◌≡◌, ℕ, zero, suc, ◌+◌, ◌-◌, ◌<◌, ◌≤◌, true, false, ltb, Some, None, sym, refl, ap, ◌∙◌, subst, inl, inr, arith}
use Rattle.std.proofs.lemmas.Bool.{cases_lt, cases_eq, lt-ltb, le-ltb}
use Rattle.linear.specs.Sums.{total}
use Rattle.linear.specs.Tensor.{locate}
use Rattle.linear.proofs.Totals.{place_lt_total}

-- a block among the first m, and a place in it: that of n
pub record Place (size : ℕ → ℕ) (m n : ℕ) : Type 0 where
  pub p : ℕ
  pub x : ℕ
  pub block : p < m
  pub within : x < size p
  pub is : total p size + x ≡ n

module _ (size : ℕ → ℕ) where
  locate_last : (m x : ℕ) → x < size m → locate size (suc m) (total m size + x) ≡ Some (m, x)
  locate_last m x within =
      let n : ℕ = total m size + x in
      let past : ltb n (total m size) ≡ false = le-ltb n (total m size) (omega arith) in
      let here : ltb n (total (suc m) size) ≡ true = lt-ltb n (total (suc m) size) (omega arith) in
      let place : n - total m size ≡ x = omega arith in
      rw (past, here, place) refl

  pub locate_some : (m p x : ℕ) → p < m → x < size p → locate size m (total p size + x) ≡ Some (p, x)
  locate_some zero p x l within = absurd (omega arith)
  locate_some (suc m) p x l within =
      elim (cases_eq p m) [
        | inl same ↦
            subst (λ (q : ℕ). locate size (suc q) (total p size + x) ≡ Some (p, x)) same (locate_last p x within)
        | inr other ↦
            (let before : ltb (total p size + x) (total m size) ≡ true =
            lt-ltb _ _ (place_lt_total p m x size (omega arith) within) in
            rw before (locate_some m p x (omega arith) within))
      ]

  pub locate_none : (m n : ℕ) → total m size ≤ n → locate size m n ≡ None
  locate_none zero n past = refl
  locate_none (suc m) n past =
      let one : ltb n (total m size) ≡ false = le-ltb n (total m size) (omega arith) in
      let two : ltb n (total (suc m) size) ≡ false = le-ltb n (total (suc m) size) past in
      rw (one, two) refl

  pub place_of : (m n : ℕ) → n < total m size → Place size m n
  place_of zero n l = absurd (omega arith)
  place_of (suc m) n l =
      elim (cases_lt n (total m size)) [
        | inl before ↦
            (let at = place_of m n before in
            record { p = at.p; x = at.x; block = omega (arith, at.block); within = at.within; is = at.is })
        | inr past ↦
            record { p = m; x = n - total m size; block = omega arith; within = omega arith; is = omega arith }
      ]

  -- what is found is a place
  pub locate_within : (m n p x : ℕ) → locate size m n ≡ Some (p, x) → (p < m) × (x < size p)
  locate_within m n p x e =
      elim (cases_lt n (total m size)) [
        | inl before ↦
            (let at = place_of m n before in
            let found = ap (locate size m) (sym at.is) ∙ locate_some m at.p at.x at.block at.within in
            let same : ◌≡◌ {A = ℕ × ℕ} (at.p, at.x) (p, x) = cc in
            subst (λ (z : ℕ × ℕ). (z.0 < m) × (z.1 < size z.0)) same (at.block, at.within))
        | inr past ↦
            (let missing = locate_none m n past in absurd (let z : ◌≡◌ {A = ℕ} 0 1 = cc in omega arith))
      ]

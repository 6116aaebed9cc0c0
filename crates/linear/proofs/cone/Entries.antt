-- The four parts of a matrix of the cone.
use Rattle.std.proofs.Common.{◌≡◌, ℕ, suc, ◌+◌, ◌-◌, ◌<◌, cond, ltb, ◌⊎◌, refl, ap, ◌∙◌, inl, inr, arith}
use Rattle.std.proofs.lemmas.Bool.{cases_lt, lt-ltb, le-ltb, cond-true, cond-false}
use Rattle.field.specs.Codes.{Codes}
use Rattle.linear.specs.ChainMaps.{MapMeaning}
use Rattle.linear.specs.Cone.{from_source, cone_entry, cone}
use Rattle.linear.specs.ConeLaw.{IsCone}

-- a number is below a bound, or so far past it
pub cases_past : (i n : ℕ) → (i < n) ⊎ ((m : ℕ) × (i ≡ n + m))
cases_past i n = elim (cases_lt i n) [ inl l ↦ inl l | inr w ↦ inr (i - n, omega arith) ]

-- a choice by a number below a bound, and by one past it
pub cond_before : {X : Type 0} (i n : ℕ) (x y : X) → i < n → cond (ltb i n) x y ≡ x
cond_before i n x y l = cond-true (ltb i n) x y (lt-ltb i n l)

pub cond_past : {X : Type 0} (i n : ℕ) (x y : X) → cond (ltb (n + i) n) x y ≡ y
cond_past i n x y = cond-false (ltb (n + i) n) x y (le-ltb (n + i) n (omega arith))

past_minus : (n i : ℕ) → n + i - n ≡ i
past_minus n i = omega arith

module _ (f : Codes) (m : MapMeaning) (k i j : ℕ) where
  pub source_source_entry :
      i < from_source m k → j < m.source.dim k →
      cone_entry f m (suc k) i j ≡ f.minus (m.source.entry k i j)
  source_source_entry r c =
      cond_before j (m.source.dim k) _ _ c ∙ cond_before i (from_source m k) _ _ r

  pub target_source_entry :
      j < m.source.dim k → cone_entry f m (suc k) (from_source m k + i) j ≡ f.minus (m.entry k i j)
  target_source_entry c =
      cond_before j (m.source.dim k) _ _ c ∙ cond_past i (from_source m k) _ _
      ∙ ap (λ (x : ℕ). f.minus (m.entry k x j)) (past_minus (from_source m k) i)

  pub source_target_entry : i < from_source m k → cone_entry f m (suc k) i (m.source.dim k + j) ≡ 0
  source_target_entry r = cond_past j (m.source.dim k) _ _ ∙ cond_before i (from_source m k) _ _ r

  pub target_target_entry :
      cone_entry f m (suc k) (from_source m k + i) (m.source.dim k + j) ≡ m.target.entry (suc k) i j
  target_target_entry =
      cond_past j (m.source.dim k) _ _ ∙ cond_past i (from_source m k) _ _
      ∙ ap (λ (x : ℕ). m.target.entry (suc k) x (m.source.dim k + j - m.source.dim k))
      (past_minus (from_source m k) i)
      ∙ ap (m.target.entry (suc k) i) (past_minus (m.source.dim k) j)

pub cone_is_cone : (f : Codes) (m : MapMeaning) → IsCone f m (cone f m)
cone_is_cone f m = record {
  top = refl;
  dim_zero = omega arith;
  dim = λ k. refl;
  source_source = source_source_entry f m;
  target_source = target_source_entry f m;
  source_target = source_target_entry f m;
  target_target = target_target_entry f m;
}

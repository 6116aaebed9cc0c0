-- Numbers with one left out, and a sum with one term taken to the front.
use Rattle.std.proofs.Common.{◌≡◌, ℕ, zero, suc, pred, ◌<◌, false, cond, eqb, ltb, sym, ap, ◌∙◌, arith}
use native.Mathlib.Decide.{ℕ_discrete}
use Rattle.std.proofs.lemmas.Bool.Decides.{nat_tests}
use Rattle.field.specs.Codes.{Codes, IsField}
use Rattle.linear.specs.Sums.{sum}
use Rattle.linear.proofs.Sums.{sum_ext}

-- all numbers but a, in order
abbrev pub skip : ℕ → ℕ → ℕ
skip a s = cond (ltb s a) s (suc s)

abbrev pub unskip : ℕ → ℕ → ℕ
unskip a s = cond (ltb s a) s (pred s)

pub unskip_skip : (a s : ℕ) → unskip a (skip a s) ≡ s
unskip_skip a s = grind (arith, nat_tests)

pub skip_not : (a s : ℕ) → eqb (skip a s) a ≡ false
skip_not a s = grind (arith, nat_tests)

pub skip_lt : (a s m : ℕ) → s < m → skip a s < suc m
skip_lt a s m l = grind (arith, nat_tests)

skip_before : (a s m : ℕ) → a ≡ m → s < m → s ≡ skip a s
skip_before a s m e l = grind (arith, nat_tests)

skip_after : (a m : ℕ) → a < suc m → skip a m ≡ suc m
skip_after a m l = grind (arith, nat_tests)

module _ (f : Codes) (law : IsField f) where
  sum_skip_last : (m : ℕ) (g : ℕ → ℕ) (a : ℕ) → a ≡ m → sum f (suc m) g ≡ f.plus (g a) (sum f m (λ s. g (skip a s)))
  sum_skip_last m g a e =
      law.plus_comm (sum f m g) (g m)
      ∙ (λ t. f.plus (g (sym e t)) (sum_ext f law m g (λ s. g (skip a s)) (λ s l. ap g (skip_before a s m e l)) t))

  pub sum_skip : (m : ℕ) (g : ℕ → ℕ) (a : ℕ) → a < suc m → sum f (suc m) g ≡ f.plus (g a) (sum f m (λ s. g (skip a s)))
  sum_skip zero g a l = sum_skip_last 0 g a (omega arith)
  sum_skip (suc m) g a l = elim (ℕ_discrete a (suc m)) [
    | yes e ↦ sum_skip_last (suc m) g a e
    | no d ↦
        (let k : a < suc m = omega arith in
        ap (λ (w : ℕ). f.plus w (g (suc m))) (sum_skip m g a k) ∙ law.plus_assoc (g a) _ (g (suc m))
        ∙ ap (λ (w : ℕ). f.plus (g a) (f.plus (sum f m (λ s. g (skip a s))) (g w))) (sym (skip_after a m k)))
  ]

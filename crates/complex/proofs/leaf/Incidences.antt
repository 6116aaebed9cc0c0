-- The sign of a cell among distinct faces, as a sum with at most one term that counts.
use Rattle.std.proofs.Common.{◌≡◌, ℕ, ◌<◌, true, false, cond, eqb, List, [], ◌∷◌, sym, refl, ap, ◌∙◌, inl, inr}
use Rattle.std.specs.List.{AllByRecursion}
use Rattle.std.proofs.lemmas.Bool.{cases_eq, eq-eqb, ne_eqb, cond-true, cond-false}
use Rattle.field.specs.Codes.{Codes, IsField}
use Rattle.linear.proofs.Codes.{zero_lt_order, one_lt_order, plus_zero_code, zero_plus_code}
use Rattle.cell.specs.declared.Sign.{Sign}
use Rattle.cell.specs.declared.Sign.TheVariants.{Plus, Minus}
use Rattle.cell.specs.declared.Face.{Face}
use Rattle.cell.specs.Kind.{Kind}
use Rattle.complex.specs.Leaf.{code, incidence}

pub code_below : (f : Codes) → IsField f → (s : Sign) → code f s < f.order
code_below f law Plus = one_lt_order f law
code_below f law Minus = law.minus_below 1

-- the sign of g if the face x is g, else 0
abbrev pub here : {K : Type 0} → Codes → Kind K → K → Face K → ℕ
here f k g x = cond (eqb (k.rank x.cell) (k.rank g)) (code f x.sign) 0

module _ {K : Type 0} (f : Codes) (law : IsField f) (k : Kind K) (g : K) where
  pub incidence_below : (xs : List (Face K)) → incidence f k g xs < f.order
  incidence_below [] = zero_lt_order f law
  incidence_below (x ∷ xs) =
      elim (eqb (k.rank x.cell) (k.rank g))
      as (λ b. cond b (code f x.sign) (incidence f k g xs) < f.order)
      [ true ↦ code_below f law x.sign | false ↦ incidence_below xs ]

  -- g stands nowhere in a list without a face of its rank
  incidence_none :
      (xs : List (Face K)) (r : ℕ) → r ≡ k.rank g → AllByRecursion (λ y. k.rank y.cell ≡ r → ⊥) xs → incidence f k g xs ≡ 0
  incidence_none [] r e apart = refl
  incidence_none (x ∷ xs) r e apart =
      cond-false (eqb (k.rank x.cell) (k.rank g)) (code f x.sign) (incidence f k g xs)
      (ne_eqb (k.rank x.cell) (k.rank g) (λ h. apart.0 (h ∙ sym e)))
      ∙ incidence_none xs r e apart.1

  -- of distinct faces the first and the others each add their part
  pub incidence_cons :
      (x : Face K) (xs : List (Face K)) → AllByRecursion (λ y. k.rank y.cell ≡ k.rank x.cell → ⊥) xs →
      incidence f k g (x ∷ xs) ≡ f.plus (here f k g x) (incidence f k g xs)
  incidence_cons x xs apart =
      let r = k.rank x.cell in let s = code f x.sign in let rest = incidence f k g xs in
      elim (cases_eq r (k.rank g)) [
        | inl e ↦
            (let t = eq-eqb r (k.rank g) e in
            cond-true (eqb r (k.rank g)) s rest t ∙ sym (plus_zero_code f law s (code_below f law x.sign))
            ∙ sym (ap (f.plus (here f k g x)) (incidence_none xs r e apart)
            ∙ ap (λ (y : ℕ). f.plus y 0) (cond-true (eqb r (k.rank g)) s 0 t)))
        | inr n ↦
            (let t = ne_eqb r (k.rank g) n in
            cond-false (eqb r (k.rank g)) s rest t ∙ sym (zero_plus_code f law rest (incidence_below xs))
            ∙ sym (ap (λ (y : ℕ). f.plus y rest) (cond-false (eqb r (k.rank g)) s 0 t)))
      ]

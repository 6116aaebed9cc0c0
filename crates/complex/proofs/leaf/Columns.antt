-- A sum over an ascending list of valid cells, against the faces of a cell that all stand in the list.
use Rattle.std.proofs.Common.{◌≡◌, ℕ, ◌<◌, true, false, eqb, List, [], ◌∷◌, sym, refl, ap, ◌∙◌, inl, inr, arith}
use Rattle.std.specs.List.{AllByRecursion}
use Rattle.std.proofs.ByRecursion.{All-weaker}
use Rattle.std.proofs.lemmas.Bool.{cases_eq, eq-eqb, ne_eqb, cond-true, cond-false, both_ways}
use Rattle.field.specs.Codes.{Codes, IsField}
use Rattle.linear.proofs.Codes.{plus_both, plus_zero_code, zero_plus_code, times_zero}
use Rattle.linear.proofs.Lists.{sum_over, sum_over_ext, sum_over_zero, sum_over_plus}
use Rattle.cell.specs.declared.Face.{Face}
use Rattle.cell.specs.Kind.{Kind, IsKind, Faces}
use Rattle.index.specs.Closed.{held, Ascending}
use Rattle.complex.specs.Leaf.{code, incidence}
use Rattle.complex.proofs.leaf.Incidences.{here, incidence_cons}

pub all_always : {X : Type 0} (P : X → Type 0) (xs : List X) → ((x : X) → P x) → AllByRecursion P xs
all_always P [] h = tt
all_always P (x ∷ xs) h = (h x, all_always P xs h)

module _ {K : Type 0} (f : Codes) (law : IsField f) (k : Kind K) (kind : IsKind k) where
  -- one cell of the list counts
  pub sum_over_held :
      (ms : List K) (r v : ℕ) (t : K → ℕ) → AllByRecursion (λ m. k.valid m ≡ true) ms → Ascending k ms → held k r ms ≡ true →
      v < f.order → ((m : K) → k.valid m ≡ true → r ≡ k.rank m → t m ≡ v) →
      ((m : K) → (r ≡ k.rank m → ⊥) → t m ≡ 0) → sum_over f ms t ≡ v
  sum_over_held [] r v t valid asc there below at other = absurd (both_ways false refl there)
  sum_over_held (m ∷ ms) r v t valid asc there below at other =
      elim (cases_eq r (k.rank m)) [
        | inl e ↦
            (ap (λ (y : ℕ). f.plus y (sum_over f ms t)) (at m valid.0 e)
            ∙ ap (f.plus v)
            (sum_over_zero f law ms t
            (All-weaker (λ d. k.rank m < k.rank d) (λ d. t d ≡ 0) (λ d l. other d (λ h. omega arith)) ms asc.0))
            ∙ plus_zero_code f law v below)
        | inr n ↦
            (let rest : held k r ms ≡ true =
            sym (cond-false (eqb (k.rank m) r) true (held k r ms) (ne_eqb (k.rank m) r (λ e. n (sym e)))) ∙ there
            in
            ap (λ (y : ℕ). f.plus y (sum_over f ms t)) (other m n)
            ∙ ap (f.plus 0) (sum_over_held ms r v t valid.1 asc.1 rest below at other)
            ∙ zero_plus_code f law v below)
      ]

  module _ (a : K → ℕ) (ms : List K) (valid : AllByRecursion (λ m. k.valid m ≡ true) ms) (asc : Ascending k ms) where
    -- one face
    sum_over_here :
        (x : Face K) → k.valid x.cell ≡ true → held k (k.rank x.cell) ms ≡ true →
        sum_over f ms (λ m. f.times (a m) (here f k m x)) ≡ f.times (a x.cell) (code f x.sign)
    sum_over_here x sound there =
        let r = k.rank x.cell in let s = code f x.sign in
        sum_over_held ms r (f.times (a x.cell) s) (λ m. f.times (a m) (here f k m x)) valid asc there
        (law.times_below (a x.cell) s)
        (λ m ok e.
        ap (f.times (a m)) (cond-true (eqb r (k.rank m)) s 0 (eq-eqb r (k.rank m) e))
        ∙ ap (λ (y : K). f.times (a y) s) (sym (kind.apart x.cell m sound ok e)))
        (λ m n.
        ap (f.times (a m)) (cond-false (eqb r (k.rank m)) s 0 (ne_eqb r (k.rank m) n)) ∙ times_zero f law (a m))

    -- all faces: the sum over the cells becomes a sum over the faces
    pub sum_over_column :
        (d : ℕ) (xs : List (Face K)) → Faces k d xs → AllByRecursion (λ x. held k (k.rank x.cell) ms ≡ true) xs →
        sum_over f ms (λ m. f.times (a m) (incidence f k m xs))
        ≡ sum_over f xs (λ x. f.times (a x.cell) (code f x.sign))
    sum_over_column d [] faces there =
        sum_over_zero f law ms _ (all_always _ ms (λ m. times_zero f law (a m)))
    sum_over_column d (x ∷ xs) faces there =
        sum_over_ext f law ms _ (λ m. f.plus (f.times (a m) (here f k m x)) (f.times (a m) (incidence f k m xs)))
        (all_always _ ms (λ m.
        ap (f.times (a m)) (incidence_cons f law k m x xs faces.2)
        ∙ law.times_plus (a m) (here f k m x) (incidence f k m xs)))
        ∙ sum_over_plus f law ms (λ m. f.times (a m) (here f k m x)) (λ m. f.times (a m) (incidence f k m xs))
        ∙ plus_both f (sum_over_here x faces.0 there.0) (sum_over_column d xs faces.3 there.1)

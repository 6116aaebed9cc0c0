-- Sums over the members of a list.
use Rattle.std.proofs.Common.{◌≡◌, ℕ, ◌<◌, List, [], ◌∷◌, length, Some, Option, sym, refl, ap, ◌∙◌}
use Rattle.std.specs.List.{AllByRecursion, slice_get}
use Rattle.field.specs.Codes.{Codes, IsField}
use Rattle.linear.specs.Sums.{sum}
use Rattle.linear.proofs.Codes.{zero_plus_zero, plus_four}
use Rattle.linear.proofs.Sums.{sum_first}

-- the sum of g at each member; the empty sum is 0
abbrev pub sum_over : {X : Type 0} → Codes → List X → (X → ℕ) → ℕ
sum_over f [] g = 0
sum_over f (x ∷ xs) g = f.plus (g x) (sum_over f xs g)

module _ {X : Type 0} (f : Codes) (law : IsField f) where
  pub sum_nth :
      (xs : List X) (g : Option X → ℕ) → ((x : X) → g (Some x) < f.order) →
      sum f (length xs) (λ i. g (slice_get xs i)) ≡ sum_over f xs (λ x. g (Some x))
  sum_nth [] g below = refl
  sum_nth (x ∷ xs) g below =
      sum_first f law (length xs) (λ i. g (slice_get (x ∷ xs) i)) (below x)
      ∙ ap (f.plus (g (Some x))) (sum_nth xs g below)

  pub sum_over_ext : (xs : List X) (g h : X → ℕ) → AllByRecursion (λ x. g x ≡ h x) xs → sum_over f xs g ≡ sum_over f xs h
  sum_over_ext [] g h e = refl
  sum_over_ext (x ∷ xs) g h e =
      ap (λ (y : ℕ). f.plus y (sum_over f xs g)) e.0 ∙ ap (f.plus (h x)) (sum_over_ext xs g h e.1)

  pub sum_over_zero : (xs : List X) (g : X → ℕ) → AllByRecursion (λ x. g x ≡ 0) xs → sum_over f xs g ≡ 0
  sum_over_zero [] g e = refl
  sum_over_zero (x ∷ xs) g e =
      ap (λ (y : ℕ). f.plus y (sum_over f xs g)) e.0 ∙ ap (f.plus 0) (sum_over_zero xs g e.1)
      ∙ zero_plus_zero f law

  pub sum_over_plus :
      (xs : List X) (g h : X → ℕ) →
      sum_over f xs (λ x. f.plus (g x) (h x)) ≡ f.plus (sum_over f xs g) (sum_over f xs h)
  sum_over_plus [] g h = sym (zero_plus_zero f law)
  sum_over_plus (x ∷ xs) g h =
      ap (f.plus (f.plus (g x) (h x))) (sum_over_plus xs g h)
      ∙ plus_four f law (g x) (h x) (sum_over f xs g) (sum_over f xs h)

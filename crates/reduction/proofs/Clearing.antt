-- Codes that lose what a test picks: the entries of a state after a cancel.
use Rattle.std.proofs.Common.{◌≡◌, ℕ, ◌<◌, Bool, true, false, cond, ◌&&◌, ◌||◌, sym, refl, ap, ◌∙◌}
use Rattle.field.specs.Codes.{Codes, IsField}
use Rattle.linear.proofs.Codes.{zero_plus_zero, plus_zero_code, zero_plus_code}
use Rattle.linear.proofs.Negatives.{minus_zero}

module _ (f : Codes) (law : IsField f) where
  less_none : (x : ℕ) → x < f.order → f.plus x (f.minus (f.plus 0 0)) ≡ x
  less_none x l =
      ap (λ (w : ℕ). f.plus x (f.minus w)) (zero_plus_zero f law) ∙ ap (f.plus x) (minus_zero f law)
      ∙ plus_zero_code f law x l

  less_first : (x y : ℕ) → y < f.order → f.plus x (f.minus (f.plus y 0)) ≡ f.plus x (f.minus y)
  less_first x y l = ap (λ (w : ℕ). f.plus x (f.minus w)) (plus_zero_code f law y l)

  less_second : (x y : ℕ) → y < f.order → f.plus x (f.minus (f.plus 0 y)) ≡ f.plus x (f.minus y)
  less_second x y l = ap (λ (w : ℕ). f.plus x (f.minus w)) (zero_plus_code f law y l)

  less_same : (x y : ℕ) → y ≡ x → f.plus x (f.minus y) ≡ 0
  less_same x y e = ap (λ (w : ℕ). f.plus x (f.minus w)) e ∙ law.plus_minus x

  module _ (x : ℕ) (code-x : x < f.order) where
    -- the place is cleared by one of two tests
    pub clear_either : (t i u j : Bool) (y z : ℕ) → y < f.order → z < f.order → (t ≡ true → u ≡ true → ⊥) →
        (t ≡ true → i ≡ true → y ≡ x) → (u ≡ true → j ≡ true → z ≡ x) →
        f.plus x (f.minus (f.plus (cond t (cond i y 0) 0) (cond u (cond j z 0) 0))) ≡ cond ((t && i) || (u && j)) 0 x
    clear_either true i true j y z ly lz apart ey ez = absurd (apart refl refl)
    clear_either true true false j y z ly lz apart ey ez = less_first x y ly ∙ less_same x y (ey refl refl)
    clear_either true false false j y z ly lz apart ey ez = less_none x code-x
    clear_either false i true true y z ly lz apart ey ez = less_second x z lz ∙ less_same x z (ez refl refl)
    clear_either false i true false y z ly lz apart ey ez = less_none x code-x
    clear_either false i false j y z ly lz apart ey ez = less_none x code-x

    -- the place is cleared by one test, and under the other it is cleared or loses z, which leaves w
    pub clear_or_lose : (t i u j : Bool) (y z w : ℕ) → y < f.order → z < f.order → (t ≡ true → u ≡ true → ⊥) →
        (t ≡ true → i ≡ true → y ≡ x) → (u ≡ true → j ≡ true → z ≡ x) → (u ≡ true → w ≡ f.plus x (f.minus z)) →
        f.plus x (f.minus (f.plus (cond t (cond i y 0) 0) (cond u z 0))) ≡ cond ((t && i) || (u && j)) 0 (cond u w x)
    clear_or_lose true i true j y z w ly lz apart ey ez ew = absurd (apart refl refl)
    clear_or_lose true true false j y z w ly lz apart ey ez ew = less_first x y ly ∙ less_same x y (ey refl refl)
    clear_or_lose true false false j y z w ly lz apart ey ez ew = less_none x code-x
    clear_or_lose false i true true y z w ly lz apart ey ez ew = less_second x z lz ∙ less_same x z (ez refl refl)
    clear_or_lose false i true false y z w ly lz apart ey ez ew = less_second x z lz ∙ sym (ew refl)
    clear_or_lose false i false j y z w ly lz apart ey ez ew = less_none x code-x

    -- the place loses z under the first test, and is cleared by one of two others
    pub lose_or_clear : (r t i u j : Bool) (y z p w : ℕ) → y < f.order → z < f.order → p < f.order →
        (r ≡ true → t ≡ true → ⊥) → (r ≡ true → u ≡ true → ⊥) → (t ≡ true → u ≡ true → ⊥) →
        (t ≡ true → i ≡ true → y ≡ x) → (u ≡ true → j ≡ true → z ≡ x) → (r ≡ true → w ≡ f.plus x (f.minus p)) →
        f.plus x (f.minus (f.plus (cond r p 0) (f.plus (cond t (cond i y 0) 0) (cond u (cond j z 0) 0)))) ≡
        cond r w (cond ((t && i) || (u && j)) 0 x)
    lose_or_clear true true i u j y z p w ly lz lp rt ru tu ey ez ew = absurd (rt refl refl)
    lose_or_clear true false i true j y z p w ly lz lp rt ru tu ey ez ew = absurd (ru refl refl)
    lose_or_clear true false i false j y z p w ly lz lp rt ru tu ey ez ew =
        ap (λ (v : ℕ). f.plus x (f.minus (f.plus p v))) (zero_plus_zero f law) ∙ less_first x p lp ∙ sym (ew refl)
    lose_or_clear false t i u j y z p w ly lz lp rt ru tu ey ez ew =
        ap (λ (v : ℕ). f.plus x (f.minus v)) (zero_plus_code f law _ (law.plus_below _ _))
        ∙ clear_either t i u j y z ly lz tu ey ez

    pub gain : (r : Bool) (p w : ℕ) → (r ≡ true → w ≡ f.plus x p) → f.plus x (cond r p 0) ≡ cond r w x
    gain true p w ew = sym (ew refl)
    gain false p w ew = plus_zero_code f law x code-x

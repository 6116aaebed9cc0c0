-- Flags that are set one after another.
use Rattle.std.proofs.Common.{◌≡◌, ℕ, zero, suc, ◌<◌, Bool, true, false, ◌⊎◌, ◌↔◌, List, [], ◌∷◌, ◌++◌, length, get_or, set, sym, refl, ap, ◌∙◌, subst, inl, inr, arith}
use Rattle.std.specs.List.{ContainsAt, AllByRecursion}
use Rattle.std.proofs.lemmas.List.{get_or-set_other, get_or-set_same, length-set}
use Rattle.std.proofs.lemmas.Bool.{cases_eq}

-- the flags with those at the places ns set
abbrev pub marked : List Bool → List ℕ → List Bool
marked flags [] = flags
marked flags (n ∷ ns) = marked (set flags n true) ns

pub marked_append : (flags : List Bool) (ms ns : List ℕ) → marked flags (ms ++ ns) ≡ marked (marked flags ms) ns
marked_append flags [] ns = refl
marked_append flags (m ∷ ms) ns = marked_append (set flags m true) ms ns

has_none : (n : ℕ) → ContainsAt [] n → ⊥
has_none n h = let less = h.1 in omega arith

pub has_here : (m n : ℕ) (ns : List ℕ) → n ≡ m → ContainsAt (m ∷ ns) n
has_here m n ns e = (0, omega arith, λ d. sym e)

pub has_there : (m n : ℕ) (ns : List ℕ) → ContainsAt ns n → ContainsAt (m ∷ ns) n
has_there m n ns h = (suc h.0, omega (arith, h.1), h.2)

pub has_cases : (m n : ℕ) (ns : List ℕ) → ContainsAt (m ∷ ns) n → (n ≡ m) ⊎ ContainsAt ns n
has_cases m n ns (zero, less, is) = inl (sym (is 0))
has_cases m n ns (suc k, less, is) = inr (k, omega (arith, less), is)

-- a flag after one more is set
set_flag : (flags : List Bool) (m n : ℕ) → m < length flags →
    (get_or (set flags m true) n false ≡ true) ↔ ((get_or flags n false ≡ true) ⊎ (n ≡ m))
set_flag flags m n less = elim (cases_eq n m) [
  | inl e ↦ (
    (λ h. inr e),
    (λ h. ap (λ (i : ℕ). get_or (set flags m true) i false) e ∙ get_or-set_same flags m true false less),
  )
  | inr ne ↦ (
    (λ h. inl (sym (get_or-set_other flags m n true false ne) ∙ h)),
    (λ h. elim h [ inl e ↦ get_or-set_other flags m n true false ne ∙ e | inr e ↦ absurd (ne e) ]),
  )
]

pub marked_flag : (ns : List ℕ) (flags : List Bool) (n : ℕ) → AllByRecursion (λ m. m < length flags) ns →
    (get_or (marked flags ns) n false ≡ true) ↔ ((get_or flags n false ≡ true) ⊎ ContainsAt ns n)
marked_flag [] flags n below = ((λ h. inl h), (λ h. elim h [ inl e ↦ e | inr w ↦ absurd (has_none n w) ]))
marked_flag (m ∷ ns) flags n below =
    let here = set_flag flags m n below.0 in
    let on = marked_flag ns (set flags m true) n
    (subst (λ (size : ℕ). AllByRecursion (λ i. i < size) ns) (sym (length-set flags m true)) below.1) in (
      (λ h. elim (on.0 h) [
        | inl e ↦ elim (here.0 e) [ inl f ↦ inl f | inr s ↦ inr (has_here m n ns s) ]
        | inr w ↦ inr (has_there m n ns w)
      ]),
      (λ h. elim h [
        | inl e ↦ on.1 (inl (here.1 (inl e)))
        | inr w ↦ elim (has_cases m n ns w) [ inl s ↦ on.1 (inl (here.1 (inr s))) | inr v ↦ on.1 (inr v) ]
      ]),
    )

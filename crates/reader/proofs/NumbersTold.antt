-- What records say of the field and of the question in numbers is what they say of them.
use Rattle.std.proofs.Common.{◌≡◌, ℕ, ◌⊎◌, List, [], ◌∷◌, ◌++◌, Some, Option, Ok, Err, Result, sym, refl, ap, ◌∙◌, inl, inr, arith}
use Rattle.std.specs.List.{flat_map}
use Rattle.std.specs.Result.{result_ok}
use Rattle.reader.specs.declared.order.FieldOrder.{FieldOrder}
use Rattle.reader.specs.declared.question.Question as question
use Rattle.reader.specs.declared.record.Flaw.{Flaw}
use Rattle.reader.specs.declared.record.Record.{Record}
use Rattle.reader.specs.declared.record.Record.TheVariants.{Field, Question}
use Rattle.reader.specs.Named.{elements, form_number, order_named, question_named}
use Rattle.reader.specs.Saying.{asked_by, orders_by, questions_by, sizes_by}
use Rattle.reader.proofs.Naming.{elements_named, numbers_asked}

-- a record says something and gives its numbers, or does neither
abbrev Numbered : {A N : Type 0} → (Record → List (Option A)) → (Record → List N) → (A → N) → Record → Type 0
Numbered {A} {N} by numbers number r =
    ((o : Option A) × (n : N) × (by r ≡ o ∷ []) × (numbers r ≡ n ∷ []) × ((a : A) → o ≡ Some a → n ≡ number a))
    ⊎ ((by r ≡ []) × (numbers r ≡ []))

module _ {A N : Type 0} (by : Record → List (Option A)) (numbers : Record → List N) (number : A → N)
    (numbered : (r : Record) → Numbered by numbers number r) where
  none_left : (records : List Record) → flat_map by records ≡ [] → flat_map numbers records ≡ []
  none_left [] e = refl
  none_left (r ∷ records) e = elim (numbered r) [
    | inl s ↦ absurd (let front = ap (λ l. l ++ flat_map by records) s.2 in
        let z : ◌≡◌ {A = ℕ} 0 1 = cc in omega arith)
    | inr s ↦ ap (λ l. l ++ flat_map numbers records) s.1
        ∙ none_left records (sym (ap (λ l. l ++ flat_map by records) s.0) ∙ e)
  ]

  number_told : (records : List Record) (a : A) → flat_map by records ≡ Some a ∷ [] →
      flat_map numbers records ≡ number a ∷ []
  number_told [] a e = absurd (let z : ◌≡◌ {A = ℕ} 0 1 = cc in omega arith)
  number_told (r ∷ records) a e = elim (numbered r) [
    | inl s ↦ (let front = sym (ap (λ l. l ++ flat_map by records) s.2) ∙ e in
        let said : s.0 ≡ Some a = cc in
        let rest : flat_map by records ≡ [] = cc in
        ap (λ l. l ++ flat_map numbers records) s.3
        ∙ ap (λ l. s.1 ∷ l) (none_left records rest) ∙ ap (λ n. n ∷ []) (s.4 a said))
    | inr s ↦ ap (λ l. l ++ flat_map numbers records) s.1
        ∙ number_told records a (sym (ap (λ l. l ++ flat_map by records) s.0) ∙ e)
  ]

some_ok : {X : Type 0} (r : Result X Flaw) (x : X) → result_ok r ≡ Some x → r ≡ Ok x
some_ok (Ok y) x e = let same : y ≡ x = cc in ap Ok same
some_ok (Err f) x e = absurd (let z : ◌≡◌ {A = ℕ} 0 1 = cc in omega arith)

sizes_numbered : (r : Record) → Numbered orders_by sizes_by elements r
sizes_numbered (Field b) =
    inl (_, _, refl, refl, λ a e. sym (elements_named b a (some_ok (order_named b) a e)))
sizes_numbered _ = inr (refl, refl)

-- the number of a question's form, and its degree
abbrev numbers_of : question.Question → ℕ × ℕ
numbers_of q = (form_number q.form, q.degree)

asked_numbered : (r : Record) → Numbered questions_by asked_by numbers_of r
asked_numbered (Question n degree) =
    inl (_, _, refl, refl, λ q e. numbers_asked n degree q (some_ok (question_named n degree) q e))
asked_numbered _ = inr (refl, refl)

module _ (records : List Record) where
  pub size_told : (order : FieldOrder) → flat_map orders_by records ≡ Some order ∷ [] →
      flat_map sizes_by records ≡ elements order ∷ []
  size_told = number_told orders_by sizes_by elements sizes_numbered records

  pub numbers_told : (q : question.Question) → flat_map questions_by records ≡ Some q ∷ [] →
      flat_map asked_by records ≡ numbers_of q ∷ []
  numbers_told = number_told questions_by asked_by numbers_of asked_numbered records
